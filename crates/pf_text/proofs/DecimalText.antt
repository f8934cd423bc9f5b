-- A field parses as a number exactly where it is the number's decimal text.
use Rattle.std.proofs.Common.{◌≡◌, ◌==◌, ℕ, zero, suc, ◌<◌, ◌^◌, ℤ, pos, negsuc, Bool, true, false, not, ◌&&◌, List, [], ◌∷◌, length, get_or, Option, Some, None, refl, sym, ap, ◌∙◌, subst, arith, if◌then◌else◌, rules}
use Rattle.std.specs.Char.{is_ascii_digit}
use Rattle.std.specs.Fmt.{decimal, signed_decimal}
use Rattle.std.specs.Int.RustNames.{unsigned_abs}
use Rattle.std.specs.List.{list_all}
use Rattle.std.specs.Option.{option_map}
use Rattle.std.specs.Str.Parse.{digits_value}
use Rattle.std.proofs.lemmas.Bool.Decides.{nat_tests}
use Rattle.std.proofs.lemmas.Fmt.{decimal_is_IsNumeral, decimal_digit, first_decimal, decimal-digits_value}
use Rattle.std.proofs.lemmas.Str.Parse.{IsDigitsTest, IsNumeralModel, numerals_by_value}
use Rattle.pf_text.specs.Numbers.{digits_of, natural_of, negative, whole_of}

abbrev AreDigits : List ℕ → Type 0
AreDigits ds = list_all is_ascii_digit ds ≡ true

tells_digits : IsDigitsTest AreDigits
tells_digits = search rules

-- digits and their value, in std's words
model : IsNumeralModel AreDigits (digits_value 10)
model = numerals_by_value AreDigits tells_digits

-- ---- numbers from 0 on

-- digits that begin with 0 are `0` alone
abbrev HasNoLeadingZero : List ℕ → Type 0
HasNoLeadingZero ds = get_or ds 0 0 ≡ 48 → length ds ≡ 1

record IsSpelled (ds : List ℕ) (n : ℕ) : Type 0 where
  digits : AreDigits ds
  some : 0 < length ds
  lead : HasNoLeadingZero ds
  value : n ≡ digits_value 10 ds

natural-digits : (ds : List ℕ) (n : ℕ) → IsSpelled ds n → natural_of ds ≡ Some n
unfolding natural_of
natural-digits [] n h = absurd (let e = h.some in omega arith)
natural-digits (digit ∷ ds) n h = by (digit == 48 && not (length ds == 0)) refl
  where
    by : (t : Bool) → (digit == 48 && not (length ds == 0)) ≡ t → (if t then None else digits_of (digit ∷ ds)) ≡ Some n
    by true e = absurd (let l = h.lead in grind (arith, nat_tests))
    by false e = rw (h.digits, h.value) refl

digits-natural : (ds : List ℕ) (n : ℕ) → natural_of ds ≡ Some n → IsSpelled ds n
unfolding natural_of
digits-natural [] n e = absurd cc
digits-natural (digit ∷ ds) n e = by (digit == 48 && not (length ds == 0)) refl e
  where
    tested : (t : Bool) → list_all is_ascii_digit (digit ∷ ds) ≡ t → (digit == 48 && not (length ds == 0)) ≡ false
        → (if t then Some (digits_value 10 (digit ∷ ds)) else None) ≡ Some n → IsSpelled (digit ∷ ds) n
    tested true test lead e = record { digits = test; some = omega arith; lead = λ zero. grind (arith, nat_tests); value = cc }
    tested false test lead e = absurd cc

    by : (t : Bool) → (digit == 48 && not (length ds == 0)) ≡ t → (if t then None else digits_of (digit ∷ ds)) ≡ Some n → IsSpelled (digit ∷ ds) n
    by true lead e = absurd cc
    by false lead e = tested (list_all is_ascii_digit (digit ∷ ds)) refl lead e

decimal_lead : (n : ℕ) → n < 2 ^ 64 → HasNoLeadingZero (decimal n)
decimal_lead zero small = λ e. rw (decimal_digit 0 (omega arith)) refl
decimal_lead (suc n) small = λ e. absurd (omega (arith, first_decimal (suc n) (omega arith) small))

decimal_spelled : (n : ℕ) → n < 2 ^ 64 → IsSpelled (decimal n) n
decimal_spelled n small =
    let numeral = decimal_is_IsNumeral n small in
    record { digits = model.from (decimal n) numeral.0.1; some = numeral.0.0; lead = decimal_lead n small; value = sym numeral.1 }

-- a number is written in digits
pub decimal_digits : (n : ℕ) → n < 2 ^ 64 → list_all is_ascii_digit (decimal n) ≡ true
decimal_digits n small = (decimal_spelled n small).digits

spelled_decimal : (ds : List ℕ) (n : ℕ) → n < 2 ^ 64 → IsSpelled ds n → ds ≡ decimal n
spelled_decimal ds n small h =
    sym (decimal-digits_value model ds h.digits h.some h.lead (subst (λ m. m < 2 ^ 64) h.value small)) ∙ ap decimal (sym h.value)

-- ---- whole numbers

-- digits do not begin with a minus
no_minus : (ds : List ℕ) (n : ℕ) → IsSpelled ds n → whole_of ds ≡ option_map pos (natural_of ds)
unfolding whole_of
no_minus [] n h = absurd (let e = h.some in omega arith)
no_minus (digit ∷ ds) n h = by (digit == 45) refl
  where
    by : (t : Bool) → (digit == 45) ≡ t → (if t then negative (natural_of ds) else option_map pos (natural_of (digit ∷ ds))) ≡ option_map pos (natural_of (digit ∷ ds))
    by true e = absurd (let d = (model.to (digit ∷ ds) h.digits) in grind (arith, nat_tests))
    by false e = refl

pub whole-signed_decimal : (z : ℤ) → unsigned_abs z < 2 ^ 64 → whole_of (signed_decimal z) ≡ Some z
unfolding whole_of
whole-signed_decimal (pos n) small =
    let h = decimal_spelled n small in
    no_minus (decimal n) n h ∙ ap (option_map pos) (natural-digits (decimal n) n h)
whole-signed_decimal (negsuc n) small = ap negative (natural-digits (decimal (suc n)) (suc n) (decimal_spelled (suc n) small))

-- a number of natural_of, as it is or behind a minus
positive_spelled : (ds : List ℕ) (z : ℤ) (m : Option ℕ) → unsigned_abs z < 2 ^ 64 → natural_of ds ≡ m → option_map pos m ≡ Some z → ds ≡ signed_decimal z
positive_spelled ds z None small e is = absurd cc
positive_spelled ds z (Some n) small e is =
    let same : z ≡ pos n = cc in
    rw same (spelled_decimal ds n (subst (λ y. unsigned_abs y < 2 ^ 64) same small) (digits-natural ds n e))

negative_spelled : (ds : List ℕ) (z : ℤ) (m : Option ℕ) → unsigned_abs z < 2 ^ 64 → natural_of ds ≡ m → negative m ≡ Some z → (45 ∷ ds) ≡ signed_decimal z
negative_spelled ds z None small e is = absurd cc
negative_spelled ds z (Some zero) small e is = absurd cc
negative_spelled ds z (Some (suc n)) small e is =
    let same : z ≡ negsuc n = cc in
    rw same (ap (λ l. 45 ∷ l) (spelled_decimal ds (suc n) (subst (λ y. unsigned_abs y < 2 ^ 64) same small) (digits-natural ds (suc n) e)))

pub signed_decimal-whole : (field : List ℕ) (z : ℤ) → unsigned_abs z < 2 ^ 64 → whole_of field ≡ Some z → field ≡ signed_decimal z
unfolding whole_of
signed_decimal-whole [] z small e = absurd cc
signed_decimal-whole (byte ∷ bytes) z small e = by (byte == 45) refl e
  where
    by : (t : Bool) → (byte == 45) ≡ t → (if t then negative (natural_of bytes) else option_map pos (natural_of (byte ∷ bytes))) ≡ Some z → (byte ∷ bytes) ≡ signed_decimal z
    by true sub e =
        let is : byte ≡ 45 = grind (arith, nat_tests) in
        rw is (negative_spelled bytes z (natural_of bytes) small refl e)
    by false sub e = positive_spelled (byte ∷ bytes) z (natural_of (byte ∷ bytes)) small refl e
