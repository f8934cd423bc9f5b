use Rattle.pf_events.proofs.Refusals.{refused_session}
use Rattle.pf_events.proofs.laws.refused_events_change_nothing.Goals as goal

pub returns : goal.returns
returns c = refused_session
