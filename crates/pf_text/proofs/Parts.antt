-- The parts of a line, seen behind references.
use Rattle.std.proofs.Common.{◌≡◌, ◌==◌, ℕ, Bool, cond, ◌||◌, List, [], ◌∷◌, length, map, Ok, Err, Bor, refl, sym, ap, ◌∙◌}
use Rattle.std.specs.List.{list_any}
use Rattle.pf_text.specs.declared.fault.LineFault.TheVariants.{BadLine}
use Rattle.pf_text.specs.Fields.{is_empty, parts_of, fields_of}

-- a test of what was mapped
list_any-map : {X Y : Type 0} (test : Y → Bool) (view : X → Y) (xs : List X) → list_any test (map view xs) ≡ list_any (λ x. test (view x)) xs
list_any-map test view [] = refl
list_any-map test view (x ∷ xs) = ap (λ b. test (view x) || b) (list_any-map test view xs)

-- the fields of a line, from its parts and whether one is empty
pub fields_from_parts : (line : List ℕ) (parts : List (Bor (List ℕ))) (found : Bool) → map (λ part. part.now) parts ≡ parts_of line → found ≡ list_any (λ part. length part.now == 0) parts → fields_of line ≡ cond found (Err BadLine) (Ok (map (λ part. part.now) parts))
unfolding fields_of
fields_from_parts line parts found same any =
    let tested : list_any is_empty (parts_of line) ≡ found = ap (list_any is_empty) (sym same) ∙ list_any-map is_empty (λ part. part.now) parts ∙ sym any in
    rw (tested, ← same) refl
