-- The first position of a byte.
use Rattle.std.proofs.Common.{◌≡◌, ◌==◌, ℕ, ◌+◌, ◌-◌, ◌<◌, Bool, true, false, not, Option, Some, None, unwrap_or, List, [], ◌∷◌, length, take, drop, refl, sym, ap, subst, ◌∙◌, arith}
use Rattle.std.specs.List.{position_or_len, slice_split}
use Rattle.std.proofs.lemmas.Bool.{not_from_true}
use Rattle.std.proofs.lemmas.List.{take_rest}
use Rattle.std.proofs.lemmas.List.Splits.{slice_split_first}
use Rattle.std.proofs.lemmas.List.Sums.{prefix_len_is}
use Rattle.memchr.specs.Find.{IsFirstByte, is_byte}

-- a test that did not pass failed
failed : (b : Bool) → (b ≡ true → ⊥) → not b ≡ true
failed true never = absurd (never refl)
failed false never = refl

-- what memchr found, or the length
pub first_or_length : (byte : ℕ) (bytes : List ℕ) (found : Option ℕ) → IsFirstByte (is_byte byte) bytes found
    → unwrap_or found (length bytes) ≡ position_or_len (λ b. b == byte) bytes
first_or_length byte bytes None none =
    sym (prefix_len_is (λ b. not (b == byte)) bytes (length bytes) 0 (omega arith) (λ k lt. failed _ (none k (omega arith) lt)) (λ lt. absurd (omega arith)))
first_or_length byte bytes (Some place) found =
    sym (prefix_len_is (λ b. not (b == byte)) bytes place 0 (omega (arith, found.0.high)) (λ k lt. failed _ (found.0.before k (omega arith) lt)) (λ lt. not_from_true _ found.1))

-- the parts round a byte, where its first position was found
pub split_first : (byte : ℕ) (bytes : List ℕ) (place : ℕ) → IsFirstByte (is_byte byte) bytes (Some place)
    → slice_split (λ b. b == byte) bytes
    ≡ take place bytes ∷ slice_split (λ b. b == byte) (take (length bytes - (place + 1)) (drop (place + 1) bytes))
split_first byte bytes place found =
    let is = first_or_length byte bytes (Some place) found in
    slice_split_first (λ b. b == byte) bytes 0 (subst (λ n. n < length bytes) is found.0.high)
    ∙ ap (λ n. take n bytes ∷ slice_split (λ b. b == byte) (drop (n + 1) bytes)) (sym is)
    ∙ ap (λ rest. take place bytes ∷ slice_split (λ b. b == byte) rest) (sym (take_rest bytes (place + 1)))

whole-cons : (is_there : Bool) (byte x : ℕ) (xs : List ℕ) → (x == byte) ≡ is_there → position_or_len (λ b. b == byte) (x ∷ xs) ≡ length (x ∷ xs)
    → (position_or_len (λ b. b == byte) xs ≡ length xs → slice_split (λ b. b == byte) xs ≡ xs ∷ [])
    → slice_split (λ b. b == byte) (x ∷ xs) ≡ (x ∷ xs) ∷ []
whole-cons true byte x xs is all more =
    let size : position_or_len (λ b. b == byte) (x ∷ xs) ≡ 0 = rw is refl in absurd (omega (arith, size, all))
whole-cons false byte x xs is all more =
    let size : position_or_len (λ b. b == byte) (x ∷ xs) ≡ 1 + position_or_len (λ b. b == byte) xs = rw is refl in
    rw (is, more (omega (arith, size, all))) refl

whole : (byte : ℕ) (bytes : List ℕ) → position_or_len (λ b. b == byte) bytes ≡ length bytes → slice_split (λ b. b == byte) bytes ≡ bytes ∷ []
whole byte [] all = refl
whole byte (x ∷ xs) all = whole-cons (x == byte) byte x xs refl all (whole byte xs)

-- and where none was
pub split_none : (byte : ℕ) (bytes : List ℕ) → IsFirstByte (is_byte byte) bytes None → slice_split (λ b. b == byte) bytes ≡ bytes ∷ []
split_none byte bytes none = whole byte bytes (sym (first_or_length byte bytes None none))
