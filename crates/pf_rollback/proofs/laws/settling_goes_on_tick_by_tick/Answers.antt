use Rattle.pf_rollback.proofs.Settling.{settled-after_more}
use Rattle.pf_rollback.proofs.laws.settling_goes_on_tick_by_tick.Goals as goal

pub returns : goal.returns
returns c = settled-after_more
