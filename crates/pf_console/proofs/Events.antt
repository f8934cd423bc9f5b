-- Lines that each encode an event, one after the other.
use Rattle.std.proofs.Common.{◌≡◌, ℕ, suc, ◌+◌, List, [], ◌∷◌, length, Ok, refl, subst, sym, add-zero, arith}
use Rattle.pf_text.specs.Driver.{line_step, lines_output}
use Rattle.pf_events.specs.declared.event.Event.{Event}
use Rattle.pf_events.specs.Session.{Session, reply_to, replies_to, session_after, session_after_all}
use Rattle.pf_events.proofs.Sessions.{length-session_after}
use Rattle.pf_console.specs.declared.phase.Phase.TheVariants.{Playing}
use Rattle.pf_console.specs.Phase.{after_line}
use Rattle.pf_console.specs.Run.{text_rules}
use Rattle.pf_console.specs.Print.{reply_text}
use Rattle.pf_console.specs.Grammar.{IsLineOf}
use Rattle.pf_console.specs.Laws.{AreLinesOf, session_output}

-- the transition of a line that encodes an event
transition_is : (s : Session) (line : List ℕ) (event : Event) → IsLineOf (length s.peers) line event →
    line_step text_rules (Playing s) line ≡ Ok (reply_text s.scene.fixtures (reply_to s event), Playing (session_after s event))
unfolding line_step after_line
transition_is s line event h = rw (h.plain, h.not_skipped, h.fields_are, h.event_is) refl

pub output_is : (number : ℕ) (s : Session) (lines : List (List ℕ)) (events : List Event) → AreLinesOf (length s.peers) lines events →
    lines_output text_rules number (Playing s) lines ≡ session_output (number + length lines) s events
unfolding lines_output replies_to session_after_all
output_is number s [] [] h = rw (add-zero number) refl
output_is number s (line ∷ lines) (event ∷ events) h =
    let count : number + 1 + length lines ≡ number + suc (length lines) = omega arith in
    let P : ℕ → Type 0 = λ n. AreLinesOf n lines events in
    let rest = subst P (sym (length-session_after s event)) h.1 in
    rw (transition_is s line event h.0, output_is (number + 1) (session_after s event) lines events rest, count) refl
output_is number s [] (event ∷ events) h = elim h [ ]
output_is number s (line ∷ lines) [] h = elim h [ ]
