-- Lines: the bytes between one LF and the next, of which the last may lack its LF.
use Rattle.std.specs.Prelude.{◌≡◌, ℕ, ◌+◌, ◌<◌, ◌≤◌, Bool, true, not, List, [], ◌∷◌, ◌++◌, length, Option, Some, Result, Ok, Err, ◌==◌, if◌then◌else◌}
use Rattle.std.specs.List.{list_all, flat_map, onto_first, position_or_len}
use Rattle.std.specs.Io.KnownBytes.{Appends, Consumes}
use Rattle.pf_text.specs.declared.lines.Taken.{Taken}
use Rattle.pf_text.specs.declared.lines.Taken.TheVariants.{Line, Last, End, TooLong}
use Rattle.pf_text.specs.declared.lines.ReadFailed.{ReadFailed}
use Rattle.pf_text.specs.declared.lines.TheConstants.{MAX_LINE, LINE_CAPACITY}

-- the lines of a text, without their LFs
unfoldable pub lines_of : List ℕ → List (List ℕ)
lines_of [] = []
lines_of (byte ∷ bytes) =
    if byte == 10 then [] ∷ lines_of bytes else onto_first byte (lines_of bytes)

-- a line with its LF
abbrev pub terminated_line : List ℕ → List ℕ
terminated_line line = line ++ 10 ∷ []

-- no byte is a LF
abbrev pub is_line : List ℕ → Bool
is_line line = list_all (λ byte. not (byte == 10)) line

-- how many bytes come before the first LF, or all
abbrev pub line_length : List ℕ → ℕ
line_length bytes = position_or_len (λ byte. byte == 10) bytes

-- the bytes are these lines, each with its LF, and then the rest
pub record AreLines (bytes : List ℕ) (lines : List (List ℕ)) (rest : List ℕ) : Type 0 where
  pub bytes_are : bytes ≡ flat_map terminated_line lines ++ rest
  pub lines_are : list_all is_line lines ≡ true

-- the bytes begin with this prefix, and what follows it is left
pub record TakesPrefix (bytes prefix : List ℕ) (left : Option (List ℕ)) : Type 0 where
  pub rest : List ℕ
  pub left_is : left ≡ Some rest
  pub bytes_are : bytes ≡ prefix ++ rest

-- what was taken from the bytes, and what is left; a failed reader leaves a part of one line taken
abbrev pub Takes : List ℕ → List ℕ → Option (List ℕ) → Result Taken ReadFailed → Type 0
Takes bytes line left (Ok Line) =
    TakesPrefix bytes (terminated_line line) left × (is_line line ≡ true) × (length line ≤ MAX_LINE)
Takes bytes line left (Ok Last) =
    (line ≡ bytes) × (left ≡ Some []) × (is_line line ≡ true) × (0 < length line)
    × (length line ≤ MAX_LINE)
Takes bytes line left (Ok End) = (bytes ≡ []) × (left ≡ Some [])
Takes bytes line left (Ok TooLong) =
    TakesPrefix bytes line left × (is_line line ≡ true) × (length line ≡ LINE_CAPACITY)
Takes bytes line left (Err failed) =
    (part : List ℕ) × TakesPrefix bytes part left × (is_line part ≡ true)

-- bytes of one line were taken and appended to what was taken of it; its LF too, where that was
-- reached
pub record ExtendsLine (unread left : Option (List ℕ)) (old new : List ℕ) (is_end : Bool)
    : Type 0 where
  pub part : List ℕ
  pub part_is : is_line part ≡ true
  pub line_is : new ≡ old ++ part
  pub taken : Consumes unread left (if is_end then terminated_line part else part)

-- a prefix of the bytes was appended to what is known
pub record AppendsPrefix (old new : Option (List ℕ)) (bytes : List ℕ) : Type 0 where
  pub prefix : List ℕ
  pub rest : List ℕ
  pub bytes_are : prefix ++ rest ≡ bytes
  pub appended : Appends old new prefix

-- each failure is counted, and nothing else
abbrev pub Counts : {T E : Type 0} → ℕ → Result T E → ℕ → Type 0
Counts before (Ok x) after = after ≡ before
Counts before (Err error) after = after ≡ before + 1
