use Rattle.pf_rollback.proofs.Seals.{seal_keeps_worlds}
use Rattle.pf_rollback.proofs.laws.seals_change_no_shown_world.Goals as goal

pub returns : goal.returns
returns c = seal_keeps_worlds
