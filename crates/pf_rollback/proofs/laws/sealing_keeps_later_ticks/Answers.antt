use Rattle.pf_rollback.proofs.Settling.{Contains-later_than}
use Rattle.pf_rollback.proofs.laws.sealing_keeps_later_ticks.Goals as goal

pub returns : goal.returns
returns c = Contains-later_than
