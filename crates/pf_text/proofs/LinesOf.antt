-- The lines of a text, from the lines that were taken from its front.
use Rattle.std.proofs.Common.{◌≡◌, ◌==◌, ℕ, ◌<◌, true, false, not, List, [], ◌∷◌, ◌++◌, length, refl, ap, ◌∙◌, append_assoc, arith}
use Rattle.std.specs.List.{list_all, flat_map, onto_first}
use Rattle.std.proofs.lemmas.Bool.{and_parts, not-true}
use Rattle.pf_text.specs.Lines.{lines_of, terminated_line, is_line, AreLines}
use Rattle.pf_text.specs.Laws.{unterminated_line}

-- the head of a line is no LF, and the others are a line
is_line-cons : (byte : ℕ) (bytes : List ℕ) → is_line (byte ∷ bytes) ≡ true → ((byte == 10) ≡ false) × (is_line bytes ≡ true)
is_line-cons byte bytes e =
    let parts = and_parts (not (byte == 10)) (is_line bytes) e in
    (not-true (byte == 10) parts.0, parts.1)

-- the lines with a byte before them
onto_first-cons : (byte : ℕ) (lines : List (List ℕ)) → (more : List ℕ) × (others : List (List ℕ)) × (onto_first byte lines ≡ (byte ∷ more) ∷ others)
onto_first-cons byte [] = ([], [], refl)
onto_first-cons byte (line ∷ lines) = (line, lines, refl)

-- a line that ended is the first
pub lines_of-terminated_line : (line rest : List ℕ) → is_line line ≡ true → lines_of (terminated_line line ++ rest) ≡ line ∷ lines_of rest
unfolding lines_of
lines_of-terminated_line [] rest e = refl
lines_of-terminated_line (byte ∷ line) rest e =
    let parts = is_line-cons byte line e in
    rw (parts.0, lines_of-terminated_line line rest parts.1) refl

-- lines that ended are the first
pub lines_of-AreLines : (bytes : List ℕ) (lines : List (List ℕ)) (rest : List ℕ) → AreLines bytes lines rest → lines_of bytes ≡ lines ++ lines_of rest
lines_of-AreLines bytes lines rest are = ap lines_of are.bytes_are ∙ go lines are.lines_are
  where
    go : (lines : List (List ℕ)) → list_all is_line lines ≡ true → lines_of (flat_map terminated_line lines ++ rest) ≡ lines ++ lines_of rest
    go [] e = refl
    go (line ∷ lines) e =
        let parts = and_parts (is_line line) (list_all is_line lines) e in
        ap lines_of (append_assoc (terminated_line line) (flat_map terminated_line lines) rest) ∙ lines_of-terminated_line line (flat_map terminated_line lines ++ rest) parts.0 ∙ ap (λ others. line ∷ others) (go lines parts.1)

-- bytes without a LF are one line
pub lines_of-last : (line : List ℕ) → is_line line ≡ true → 0 < length line → lines_of line ≡ line ∷ []
unfolding lines_of
lines_of-last [] e lt = absurd (omega arith)
lines_of-last (byte ∷ []) e lt = rw ((is_line-cons byte [] e).0) refl
lines_of-last (byte ∷ next ∷ line) e lt =
    let parts = is_line-cons byte (next ∷ line) e in
    rw (parts.0, lines_of-last (next ∷ line) parts.1 (omega arith)) refl

-- the rest behind the last LF is a line where it isn't empty
pub lines_of-rest : (rest : List ℕ) → is_line rest ≡ true → lines_of rest ≡ unterminated_line rest
unfolding lines_of
lines_of-rest [] e = refl
lines_of-rest (byte ∷ bytes) e = lines_of-last (byte ∷ bytes) e (omega arith)

-- bytes without a LF begin the first line
pub lines_of-front : (front rest : List ℕ) → is_line front ≡ true → 0 < length front → (more : List ℕ) × (others : List (List ℕ)) × (lines_of (front ++ rest) ≡ (front ++ more) ∷ others)
unfolding lines_of
lines_of-front [] rest e lt = absurd (omega arith)
lines_of-front (byte ∷ []) rest e lt = rw ((is_line-cons byte [] e).0) (onto_first-cons byte (lines_of rest))
lines_of-front (byte ∷ next ∷ line) rest e lt =
    let parts = is_line-cons byte (next ∷ line) e in
    let found = lines_of-front (next ∷ line) rest parts.1 (omega arith) in
    (found.0, found.1, rw (parts.0, found.2) refl)
