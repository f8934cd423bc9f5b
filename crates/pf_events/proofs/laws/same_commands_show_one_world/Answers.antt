use Rattle.pf_events.proofs.Shown.{shown_alike}
use Rattle.pf_events.proofs.laws.same_commands_show_one_world.Goals as goal

pub returns : goal.returns
returns c = shown_alike
