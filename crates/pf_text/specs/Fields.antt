-- The fields of a line: its parts at single spaces, none of them empty.
use Rattle.std.specs.Prelude.{ℕ, Bool, List, length, Result, Ok, Err, ◌==◌, if◌then◌else◌}
use Rattle.std.specs.List.{slice_split, list_any}
use Rattle.pf_text.specs.declared.fault.LineFault.{LineFault}
use Rattle.pf_text.specs.declared.fault.LineFault.TheVariants.{BadLine}

abbrev pub is_empty : List ℕ → Bool
is_empty part = length part == 0

-- the parts of a line between spaces
abbrev pub parts_of : List ℕ → List (List ℕ)
parts_of line = slice_split (λ byte. byte == 32) line

-- the fields of a line, or `BadLine`
unfoldable pub fields_of : List ℕ → Result (List (List ℕ)) LineFault
fields_of line = if list_any is_empty (parts_of line) then Err BadLine else Ok (parts_of line)
