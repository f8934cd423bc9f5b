-- Digits that are not those of 27 bytes encode no command.
use Rattle.std.proofs.Common.{is_ok, ◌≡◌, ◌≢◌, ◌==◌, ℕ, ◌+◌, ◌-◌, ◌*◌, ◌%◌, ◌<◌, Bool, true, false, ◌&&◌, ◌||◌, List, [], ◌∷◌, length, Some, None, Ok, Err, refl, ap, ◌∙◌, arith, nat_le, nat_lt, if◌then◌else◌}
use Rattle.std.specs.Char.{is_ascii_hexdigit}
use Rattle.std.specs.List.{list_all}
use Rattle.std.proofs.lemmas.Bool.{and_parts}
use Rattle.std.proofs.lemmas.Bool.Decides.{nat_tests}
use Rattle.hex.specs.Hex.{decode_pairs, pair_value, hex_digit_value, ◌>>=◌}
use Rattle.hex.specs.declared.error.FromHexError.{FromHexError}
use Rattle.hex.specs.declared.error.FromHexError.TheVariants.{InvalidHexCharacter}
use Rattle.pf_text.specs.declared.fault.LineFault.TheVariants.{BadNumber}
use Rattle.pf_commands.specs.declared.fault.FrameFault.{FrameFault}
use Rattle.pf_commands.specs.declared.fault.FrameFault.TheVariants.{Short, Long}
use Rattle.pf_commands.specs.Frame.{decode}
use Rattle.pf_console.specs.Digits.{bytes_of, frame_or_error, bytes_or_error, frame_of_digits}

-- ---- one digit

digit_has_value : (c : ℕ) → is_ascii_hexdigit c ≡ true → (v : ℕ) × (hex_digit_value c ≡ Some v)
digit_has_value c e = by (nat_le 65 c && nat_le c 70) (nat_le 97 c && nat_le c 102) (nat_le 48 c && nat_le c 57) e
  where
    by : (upper lower digit : Bool) → ((digit || upper) || lower) ≡ true
        → (v : ℕ) × ((if upper then Some (c - 55) else if lower then Some (c - 87) else if digit then Some (c - 48) else None) ≡ Some v)
    by true lower digit e = (c - 55, refl)
    by false true digit e = (c - 87, refl)
    by false false true e = (c - 48, refl)
    by false false false e = absurd cc

other_has_none : (c : ℕ) → is_ascii_hexdigit c ≡ false → hex_digit_value c ≡ None
other_has_none c e = by (nat_le 65 c && nat_le c 70) (nat_le 97 c && nat_le c 102) (nat_le 48 c && nat_le c 57) e
  where
    by : (upper lower digit : Bool) → ((digit || upper) || lower) ≡ false
        → (if upper then Some (c - 55) else if lower then Some (c - 87) else if digit then Some (c - 48) else None) ≡ None
    by true lower true e = absurd cc
    by true lower false e = absurd cc
    by false true true e = absurd cc
    by false true false e = absurd cc
    by false false true e = absurd cc
    by false false false e = refl

-- ---- pairs of digits

-- digits alone, two for each byte
digits_decode : (i : ℕ) (text : List ℕ) → length text % 2 ≡ 0 → list_all is_ascii_hexdigit text ≡ true
    → (bytes : List ℕ) × (decode_pairs i text ≡ Ok bytes) × (2 * length bytes ≡ length text)
unfolding decode_pairs
digits_decode i [] even e = ([], refl, refl)
digits_decode i (digit ∷ []) even e = absurd (omega (arith, even))
digits_decode i (high ∷ low ∷ rest) even e =
    let first = and_parts (is_ascii_hexdigit high) (list_all is_ascii_hexdigit (low ∷ rest)) e in
    let second = and_parts (is_ascii_hexdigit low) (list_all is_ascii_hexdigit rest) first.1 in
    let h = digit_has_value high first.0 in
    let l = digit_has_value low second.0 in
    let others = digits_decode (i + 2) rest (omega (arith, even)) second.1 in
    ((h.0 * 16 + l.0) ∷ others.0, rw (h.1, l.1, others.1) refl, omega (arith, others.2))

-- and not alone
others_fail : (i : ℕ) (text : List ℕ) → length text % 2 ≡ 0 → list_all is_ascii_hexdigit text ≡ false
    → (error : FromHexError) × (decode_pairs i text ≡ Err error)
unfolding decode_pairs
others_fail i [] even e = absurd cc
others_fail i (digit ∷ []) even e = absurd (omega (arith, even))
others_fail i (high ∷ low ∷ rest) even e =
    by (is_ascii_hexdigit high) refl (is_ascii_hexdigit low) refl e (others_fail (i + 2) rest (omega (arith, even)))
  where
    by : (a : Bool) → is_ascii_hexdigit high ≡ a → (b : Bool) → is_ascii_hexdigit low ≡ b → (a && (b && list_all is_ascii_hexdigit rest)) ≡ false
        → (list_all is_ascii_hexdigit rest ≡ false → (error : FromHexError) × (decode_pairs (i + 2) rest ≡ Err error))
        → (error : FromHexError) × ((pair_value high low i >>= (λ byte. decode_pairs (i + 2) rest >>= (λ bytes. Ok (byte ∷ bytes)))) ≡ Err error)
    by false is b of e more = (InvalidHexCharacter high i, rw (other_has_none high is) refl)
    by true is false of e more = (InvalidHexCharacter low (i + 1), rw ((digit_has_value high is).1, other_has_none low of) refl)
    by true is true of e more = let failed = more e in (failed.0, rw ((digit_has_value high is).1, (digit_has_value low of).1, failed.1) refl)

-- ---- bytes

pub odd_bytes : (digits : List ℕ) → length digits % 2 ≢ 0 → is_ok (bytes_of digits) ≡ false
odd_bytes digits odd = let e : (length digits % 2 == 1) ≡ true = grind (arith, nat_tests) in rw e refl

even_bytes : (digits : List ℕ) → length digits % 2 ≡ 0 → bytes_of digits ≡ bytes_or_error (decode_pairs 0 digits)
even_bytes digits even = let e : (length digits % 2 == 1) ≡ false = grind (arith, nat_tests) in rw e refl

pub all_digits : (digits : List ℕ) → length digits % 2 ≡ 0 → list_all is_ascii_hexdigit digits ≡ true → is_ok (bytes_of digits) ≡ true
all_digits digits even e =
    ap is_ok (even_bytes digits even) ∙ ap (λ bytes. is_ok (bytes_or_error bytes)) (digits_decode 0 digits even e).1

pub not_all_digits : (digits : List ℕ) → length digits % 2 ≡ 0 → list_all is_ascii_hexdigit digits ≡ false → is_ok (bytes_of digits) ≡ false
not_all_digits digits even e =
    ap is_ok (even_bytes digits even) ∙ ap (λ bytes. is_ok (bytes_or_error bytes)) (others_fail 0 digits even e).1

-- which digits encode bytes
pub ruleset digits_of_bytes = (odd_bytes, all_digits, not_all_digits)

-- ---- frames

pub odd_digits : (digits : List ℕ) → length digits % 2 ≢ 0 → frame_of_digits digits ≡ Err BadNumber
odd_digits digits odd = let e : (length digits % 2 == 1) ≡ true = grind (arith, nat_tests) in rw e refl

even_digits : (digits : List ℕ) → length digits % 2 ≡ 0 → frame_of_digits digits ≡ frame_or_error (bytes_or_error (decode_pairs 0 digits))
even_digits digits even = let e : (length digits % 2 == 1) ≡ false = grind (arith, nat_tests) in rw e refl

pub no_digits : (digits : List ℕ) → length digits % 2 ≡ 0 → list_all is_ascii_hexdigit digits ≡ false → frame_of_digits digits ≡ Err BadNumber
no_digits digits even e =
    even_digits digits even ∙ ap (λ bytes. frame_or_error (bytes_or_error bytes)) (others_fail 0 digits even e).1

-- the bytes of digits alone are judged by their number, where that is not 27
judged_by_length : (digits : List ℕ) (fault : FrameFault) → length digits % 2 ≡ 0 → list_all is_ascii_hexdigit digits ≡ true
    → ((bytes : List ℕ) → 2 * length bytes ≡ length digits → decode bytes ≡ Err fault) → frame_of_digits digits ≡ Ok (Err fault)
judged_by_length digits fault even e command_or_error =
    let found = digits_decode 0 digits even e in
    even_digits digits even ∙ ap (λ bytes. frame_or_error (bytes_or_error bytes)) found.1 ∙ ap Ok (command_or_error found.0 found.2)

short_bytes : (bytes : List ℕ) → length bytes < 27 → decode bytes ≡ Err Short
unfolding decode
short_bytes bytes less = let e : nat_lt (length bytes) 27 ≡ true = grind (arith, nat_tests) in rw e refl

long_bytes : (bytes : List ℕ) → 27 < length bytes → decode bytes ≡ Err Long
unfolding decode
long_bytes bytes more =
    let e : nat_lt (length bytes) 27 ≡ false = grind (arith, nat_tests) in
    let f : nat_lt 27 (length bytes) ≡ true = grind (arith, nat_tests) in
    rw (e, f) refl

pub short_digits : (digits : List ℕ) → length digits % 2 ≡ 0 → list_all is_ascii_hexdigit digits ≡ true → length digits < 54 → frame_of_digits digits ≡ Ok (Err Short)
short_digits digits even e less = judged_by_length digits Short even e (λ bytes twice. short_bytes bytes (omega (arith, twice)))

pub long_digits : (digits : List ℕ) → length digits % 2 ≡ 0 → list_all is_ascii_hexdigit digits ≡ true → 54 < length digits → frame_of_digits digits ≡ Ok (Err Long)
long_digits digits even e more = judged_by_length digits Long even e (λ bytes twice. long_bytes bytes (omega (arith, twice)))

-- what is known of digits of another count than those of a frame
pub ruleset other_counts = (odd_digits, no_digits, short_digits, long_digits)
