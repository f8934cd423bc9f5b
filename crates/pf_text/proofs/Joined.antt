-- The fields of a line are the parts that, joined by spaces, are the line.
use Rattle.std.proofs.Common.{◌≡◌, ◌==◌, ℕ, suc, ◌<◌, Bool, true, false, not, cond, List, [], ◌∷◌, ◌++◌, length, Ok, Err, refl, sym, ap, ◌∙◌, arith, if◌then◌else◌}
use Rattle.std.specs.List.{list_all, list_any, onto_first, join_with_byte}
use Rattle.std.proofs.lemmas.Bool.{and_parts, not-true}
use Rattle.std.proofs.lemmas.Bool.Decides.{nat_tests}
use Rattle.std.proofs.lemmas.List.Splits.{join_with_byte-slice_split, length-slice_split}
use Rattle.pf_text.specs.declared.fault.LineFault.TheVariants.{BadLine}
use Rattle.pf_text.specs.Fields.{is_empty, parts_of, fields_of}
use Rattle.pf_text.specs.Laws.{lacks_space, is_field}

-- ---- the parts of a line

onto_first_lacks : (byte : ℕ) (parts : List (List ℕ)) → (byte == 32) ≡ false → list_all lacks_space parts ≡ true → list_all lacks_space (onto_first byte parts) ≡ true
onto_first_lacks byte [] other e = rw other refl
onto_first_lacks byte (part ∷ parts) other e =
    let tests = and_parts (lacks_space part) (list_all lacks_space parts) e in rw (other, tests.0, tests.1) refl

parts_lack : (line : List ℕ) → list_all lacks_space (parts_of line) ≡ true
parts_lack [] = refl
parts_lack (byte ∷ bytes) = by (byte == 32) refl (parts_lack bytes)
  where
    by : (t : Bool) → (byte == 32) ≡ t → list_all lacks_space (parts_of bytes) ≡ true
        → list_all lacks_space (cond t ([] ∷ parts_of bytes) (onto_first byte (parts_of bytes))) ≡ true
    by true e rest = rest
    by false e rest = onto_first_lacks byte (parts_of bytes) e rest

some_bytes : (n : ℕ) → (suc n == 0) ≡ false
some_bytes n = grind (arith, nat_tests)

-- parts without a space of which none is empty are fields
parts_are_fields : (parts : List (List ℕ)) → list_any is_empty parts ≡ false → list_all lacks_space parts ≡ true → list_all is_field parts ≡ true
parts_are_fields [] some lack = refl
parts_are_fields ([] ∷ parts) some lack = absurd cc
parts_are_fields ((byte ∷ bytes) ∷ parts) some lack =
    let tests = and_parts (lacks_space (byte ∷ bytes)) (list_all lacks_space parts) lack in
    let rest = parts_are_fields parts (rw (some_bytes (length bytes)) at some) tests.1 in
    rw (some_bytes (length bytes), tests.0, rest) refl

abbrev AreFieldsOf : List ℕ → List (List ℕ) → Type 0
AreFieldsOf line fields = (0 < length fields) × (list_all is_field fields ≡ true) × (line ≡ join_with_byte 32 fields)

pub fields_joined : (line : List ℕ) (fields : List (List ℕ)) → fields_of line ≡ Ok fields → AreFieldsOf line fields
unfolding fields_of
fields_joined line fields e = by (list_any is_empty (parts_of line)) refl e
  where
    by : (t : Bool) → list_any is_empty (parts_of line) ≡ t → (if t then Err BadLine else Ok (parts_of line)) ≡ Ok fields → AreFieldsOf line fields
    by true some e = absurd cc
    by false some e =
        let same : parts_of line ≡ fields = cc in
        let parts : AreFieldsOf line (parts_of line) = (
          omega (arith, length-slice_split (λ byte. byte == 32) line),
          parts_are_fields (parts_of line) some (parts_lack line),
          sym (join_with_byte-slice_split 32 line),
        ) in
        rw same at parts

-- ---- joined fields

one_part : (field : List ℕ) → lacks_space field ≡ true → parts_of field ≡ field ∷ []
one_part [] e = refl
one_part (byte ∷ bytes) e =
    let tests = and_parts (not (byte == 32)) (lacks_space bytes) e in
    rw (not-true (byte == 32) tests.0, one_part bytes tests.1) refl

first_part : (field rest : List ℕ) → lacks_space field ≡ true → parts_of (field ++ 32 ∷ rest) ≡ field ∷ parts_of rest
first_part [] rest e = refl
first_part (byte ∷ bytes) rest e =
    let tests = and_parts (not (byte == 32)) (lacks_space bytes) e in
    rw (not-true (byte == 32) tests.0, first_part bytes rest tests.1) refl

field_lacks : (field : List ℕ) → is_field field ≡ true → lacks_space field ≡ true
field_lacks field e = (and_parts (not (length field == 0)) (lacks_space field) e).1

parts_joined : (fields : List (List ℕ)) → 0 < length fields → list_all is_field fields ≡ true → parts_of (join_with_byte 32 fields) ≡ fields
parts_joined [] some e = absurd (omega arith)
parts_joined (field ∷ []) some e = one_part field (field_lacks field ((and_parts (is_field field) true e).0))
parts_joined (field ∷ next ∷ fields) some e =
    let tests = and_parts (is_field field) (list_all is_field (next ∷ fields)) e in
    first_part field (join_with_byte 32 (next ∷ fields)) (field_lacks field tests.0)
    ∙ ap (λ parts. field ∷ parts) (parts_joined (next ∷ fields) (omega arith) tests.1)

none_empty : (fields : List (List ℕ)) → list_all is_field fields ≡ true → list_any is_empty fields ≡ false
none_empty [] e = refl
none_empty ([] ∷ fields) e = absurd cc
none_empty ((byte ∷ bytes) ∷ fields) e = rw (some_bytes (length bytes)) (none_empty fields ((and_parts (is_field (byte ∷ bytes)) (list_all is_field fields) e).1))

pub joined_fields : (line : List ℕ) (fields : List (List ℕ)) → AreFieldsOf line fields → fields_of line ≡ Ok fields
unfolding fields_of
joined_fields line fields are =
    let same : parts_of line ≡ fields = ap parts_of are.2 ∙ parts_joined fields are.0 are.1 in
    rw (same, none_empty fields are.1) refl
