-- What laws of texts speak of: fields, the bytes behind the last LF, one output behind another, and
-- lines that come later.
use Rattle.std.specs.Prelude.{ℕ, ◌+◌, Bool, not, ◌&&◌, List, [], ◌∷◌, ◌++◌, length, Result, Ok, Err, ◌==◌}
use Rattle.std.specs.List.{list_all}
use Rattle.pf_text.specs.Driver.{Output}

-- no byte is a space
abbrev pub lacks_space : List ℕ → Bool
lacks_space bytes = list_all (λ byte. not (byte == 32)) bytes

-- some bytes, none of them a space
abbrev pub is_field : List ℕ → Bool
is_field bytes = not (length bytes == 0) && lacks_space bytes

-- the line that has no LF, where there are bytes behind the last LF
abbrev pub unterminated_line : List ℕ → List (List ℕ)
unterminated_line [] = []
unterminated_line (byte ∷ bytes) = (byte ∷ bytes) ∷ []

-- a text, and behind it the output of what follows where it came to its end
abbrev pub ending_then : {S F : Type 0} → List ℕ → Result (ℕ × S) (ℕ × F) → (ℕ → S → Output S F)
    → Output S F
ending_then text (Ok ended) others =
    let output = others ended.0 ended.1 in
    record { text = text ++ output.text; ending = output.ending }
ending_then text (Err fault) others = record { text = text; ending = Err fault }

-- an output, and behind it that of what follows where it came to its end
abbrev pub output_then : {S F : Type 0} → Output S F → (ℕ → S → Output S F) → Output S F
output_then output others = ending_then output.text output.ending others

-- the same ending one line later
abbrev pub ending_a_line_later : {S F : Type 0} → Result (ℕ × S) (ℕ × F) → Result (ℕ × S) (ℕ × F)
ending_a_line_later (Ok ended) = Ok (ended.0 + 1, ended.1)
ending_a_line_later (Err fault) = Err (fault.0 + 1, fault.1)

-- the same output, a line later
abbrev pub output_a_line_later : {S F : Type 0} → Output S F → Output S F
output_a_line_later output =
    record { text = output.text; ending = ending_a_line_later output.ending }
