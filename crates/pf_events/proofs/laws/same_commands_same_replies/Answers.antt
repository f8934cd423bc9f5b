use Rattle.pf_events.proofs.Alike.{same_replies}
use Rattle.pf_events.proofs.laws.same_commands_same_replies.Goals as goal

pub returns : goal.returns
returns c = same_replies
