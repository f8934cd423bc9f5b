use Rattle.pf_events.proofs.Alike.{same_in_any_order}
use Rattle.pf_events.proofs.laws.order_and_repeats_do_not_matter.Goals as goal

pub returns : goal.returns
returns c = same_in_any_order
