use Rattle.pf_console.proofs.ScriptBlocks.{session_blocks}
use Rattle.pf_console.proofs.ScriptFaults.{session_tells}
use Rattle.pf_console.proofs.laws.texts_show_sessions.Goals as goal

pub returns : goal.returns
returns c = record { refused = λ s scripts. session_tells s 0 scripts; shown = session_blocks }
