-- One digit more, for the loop that reads a number.
use Rattle.std.proofs.Common.{◌≡◌, ℕ, ◌+◌, ◌-◌, ◌*◌, ◌<◌, true, List, length, take, get_or, arith}
use Rattle.std.specs.Char.{is_ascii_digit, digit_value}
use Rattle.std.specs.List.{list_all}
use Rattle.std.specs.Str.Parse.{digits_value}
use Rattle.std.proofs.lemmas.Bool.Decides.{nat_tests}
use Rattle.std.proofs.lemmas.Int.Digits.{digits_value_more}
use Rattle.std.proofs.lemmas.List.Folds.{list_all_more}

-- a decimal digit's value
digit_value_digit : (digit : ℕ) → is_ascii_digit digit ≡ true → digit_value digit ≡ digit - 48
digit_value_digit digit e = grind (arith, nat_tests)

-- what the digits write, with the next one
pub digits_value_next : (digits : List ℕ) (i : ℕ) → i < length digits → is_ascii_digit (get_or digits i 0) ≡ true → digits_value 10 (take (i + 1) digits) ≡ 10 * digits_value 10 (take i digits) + (get_or digits i 0 - 48)
digits_value_next digits i lt e = omega (arith, digits_value_more 10 digits i lt, digit_value_digit (get_or digits i 0) e)

-- that they are digits, with the next one
pub list_all_next : (digits : List ℕ) (i : ℕ) → i < length digits → is_ascii_digit (get_or digits i 0) ≡ true → list_all is_ascii_digit (take i digits) ≡ true → list_all is_ascii_digit (take (i + 1) digits) ≡ true
list_all_next digits i lt e front = rw (list_all_more is_ascii_digit digits i 0 lt, front, e)

pub ruleset next_digit = (digits_value_next, list_all_next)
