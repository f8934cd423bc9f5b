use Rattle.pf_events.proofs.Repeats.{settle_changes_nothing}
use Rattle.pf_events.proofs.laws.settles_change_no_reply.Goals as goal

pub returns : goal.returns
returns c = settle_changes_nothing
