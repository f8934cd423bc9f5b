-- The laws of the output for lines.
use Rattle.std.proofs.Common.{◌≡◌, ℕ, ◌+◌, true, List, [], ◌∷◌, ◌++◌, Result, Ok, Err, refl, sym, ap, ◌∙◌, append_assoc}
use Rattle.pf_text.specs.Driver.{Rules, Output, line_step, lines_output, and_then, is_plain, is_skipped}
use Rattle.pf_text.specs.Laws.{ending_then, output_then, output_a_line_later}

module _ {S F : Type 0} (rules : Rules S F) where
  -- a line, and then what follows all the lines
  followed-and_then : (number : ℕ) (answer : Result (List ℕ × S) F) (first both : S → Output S F) (others : ℕ → S → Output S F) → ((next : S) → both next ≡ output_then (first next) others)
      → and_then number answer both ≡ output_then (and_then number answer first) others
  followed-and_then number (Err fault) first both others each = refl
  followed-and_then number (Ok answer) first both others each = ap (λ (o : Output S F). record { text = answer.0 ++ o.text; ending = o.ending }) (each answer.1) ∙ go (first answer.1).text (first answer.1).ending
    where
      go : (text : List ℕ) (ending : Result (ℕ × S) (ℕ × F)) → record { text = answer.0 ++ (ending_then text ending others).text; ending = (ending_then text ending others).ending } ≡ ending_then (answer.0 ++ text) ending others
      go text (Ok ended) = ap (λ bytes. record { text = bytes; ending = (others ended.0 ended.1).ending }) (sym (append_assoc answer.0 text (others ended.0 ended.1).text))
      go text (Err fault) = refl

  -- lines, and more of them behind
  pub answers-append : (number : ℕ) (state : S) (lines more : List (List ℕ)) → lines_output rules number state (lines ++ more) ≡ output_then (lines_output rules number state lines) (λ number state. lines_output rules number state more)
  unfolding lines_output
  answers-append number state [] more = refl
  answers-append number state (line ∷ lines) more =
      followed-and_then number (line_step rules state line) (λ next. lines_output rules (number + 1) next lines) (λ next. lines_output rules (number + 1) next (lines ++ more)) (λ number state. lines_output rules number state more) (λ next. answers-append (number + 1) next lines more)

  -- one line, with a number more
  later-and_then : (number : ℕ) (answer : Result (List ℕ × S) F) (first later : S → Output S F) → ((next : S) → later next ≡ output_a_line_later (first next))
      → and_then (number + 1) answer later ≡ output_a_line_later (and_then number answer first)
  later-and_then number (Err fault) first later each = refl
  later-and_then number (Ok answer) first later each = ap (λ (o : Output S F). record { text = answer.0 ++ o.text; ending = o.ending }) (each answer.1)

  -- all lines, with a number more each
  answers-later : (number : ℕ) (state : S) (lines : List (List ℕ)) → lines_output rules (number + 1) state lines ≡ output_a_line_later (lines_output rules number state lines)
  unfolding lines_output
  answers-later number state [] = refl
  answers-later number state (line ∷ lines) =
      later-and_then number (line_step rules state line) (λ next. lines_output rules (number + 1) next lines) (λ next. lines_output rules ((number + 1) + 1) next lines) (λ next. answers-later (number + 1) next lines)

  -- a skipped line
  pub answers-skipped : (number : ℕ) (state : S) (line : List ℕ) (lines : List (List ℕ)) → is_plain line ≡ true → is_skipped line ≡ true → lines_output rules number state (line ∷ lines) ≡ output_a_line_later (lines_output rules number state lines)
  unfolding lines_output line_step
  answers-skipped number state line lines plain skipped = rw (plain, skipped) (answers-later number state lines)
