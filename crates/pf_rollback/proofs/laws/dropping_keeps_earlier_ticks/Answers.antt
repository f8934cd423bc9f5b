use Rattle.pf_rollback.proofs.Settling.{Contains-up_to}
use Rattle.pf_rollback.proofs.laws.dropping_keeps_earlier_ticks.Goals as goal

pub returns : goal.returns
returns c = Contains-up_to
