use Rattle.pf_events.proofs.Shown.{shown_after}
use Rattle.pf_events.proofs.laws.shown_worlds_are_simulated.Goals as goal

pub returns : goal.returns
returns c = shown_after
