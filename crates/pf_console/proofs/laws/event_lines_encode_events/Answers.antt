use Rattle.pf_console.proofs.EventLines.{line_of_event}
use Rattle.pf_console.proofs.laws.event_lines_encode_events.Goals as goal

pub returns : goal.returns
returns c = line_of_event
