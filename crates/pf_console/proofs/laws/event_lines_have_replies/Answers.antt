use Rattle.std.proofs.Common.{map, ◌+◌, subst, ◌≡◌, ℕ, length}
use Rattle.std.proofs.lemmas.List.{length-map}
use Rattle.pf_text.specs.Driver.{lines_output}
use Rattle.pf_console.specs.declared.phase.Phase.TheVariants.{Playing}
use Rattle.pf_console.specs.EventEncoding.{event_line}
use Rattle.pf_console.specs.Laws.{session_output}
use Rattle.pf_console.specs.Run.{text_rules}
use Rattle.pf_console.proofs.Events.{output_is}
use Rattle.pf_console.proofs.EventLines.{lines_of_events}
use Rattle.pf_console.proofs.laws.event_lines_have_replies.Goals as goal

pub returns-clause-encoded : goal.returns-clause-encoded
returns-clause-encoded c = output_is

pub returns-clause-written : goal.returns-clause-written
returns-clause-written c = λ number s events few can.
    let P : ℕ → Type 0 = λ n. lines_output text_rules number (Playing s) (map event_line events) ≡ session_output (number + n) s events in
    subst P (length-map events event_line) (output_is number s (map event_line events) events (lines_of_events (length s.peers) events few can))
