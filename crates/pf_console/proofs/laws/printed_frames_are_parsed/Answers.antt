use Rattle.pf_console.proofs.EventFields.{read_frame}
use Rattle.pf_console.proofs.laws.printed_frames_are_parsed.Goals as goal

pub returns : goal.returns
returns c = read_frame
