-- Whole numbers in decimal digits: `0`, or digits without a leading zero, or those behind a minus.
use Rattle.std.specs.Prelude.{ℕ, zero, suc, ◌^◌, ℤ, pos, negsuc, neg_ℤ, ◌&&◌, not, List, [], ◌∷◌, length, Option, Some, None, Result, Ok, Err, ◌==◌, if◌then◌else◌, int_le}
use Rattle.std.specs.Char.{is_ascii_digit}
use Rattle.std.specs.Int.{int_min, int_max}
use Rattle.std.specs.List.{list_all}
use Rattle.std.specs.Option.{option_map}
use Rattle.std.specs.Str.Parse.{digits_value}
use Rattle.pf_text.specs.declared.fault.LineFault.{LineFault}
use Rattle.pf_text.specs.declared.fault.LineFault.TheVariants.{BadNumber}
use Rattle.pf_text.specs.declared.numbers.ParsedNumber.{ParsedNumber}
use Rattle.pf_text.specs.declared.numbers.ParsedNumber.TheVariants.{InRange, OutOfRange, NotANumber}

-- the number that decimal digits encode
abbrev pub digits_of : List ℕ → Option ℕ
digits_of digits = if list_all is_ascii_digit digits then Some (digits_value 10 digits) else None

-- `0`, or digits without a leading zero
unfoldable pub natural_of : List ℕ → Option ℕ
natural_of [] = None
natural_of (digit ∷ digits) =
    if digit == 48 && not (length digits == 0) then None else digits_of (digit ∷ digits)

-- minus a number that is not 0
abbrev pub negative : Option ℕ → Option ℤ
negative None = None
negative (Some zero) = None
negative (Some (suc n)) = Some (negsuc n)

-- the whole number that a field encodes
unfoldable pub whole_of : List ℕ → Option ℤ
whole_of [] = None
whole_of (byte ∷ bytes) =
    if byte == 45 then negative (natural_of bytes) else option_map pos (natural_of (byte ∷ bytes))

-- a number clamped to -2^56 to 2^56
abbrev pub clamp_whole : ℤ → ℤ
clamp_whole z = int_max (neg_ℤ (pos (2 ^ 56))) (int_min z (pos (2 ^ 56)))

-- what a field that encodes this number, or none, is to a reader of numbers of a range
abbrev pub number : ℤ → ℤ → Option ℤ → ParsedNumber
number low high None = NotANumber
number low high (Some z) = if int_le low z && int_le z high then InRange z else OutOfRange

-- the same where one error serves both
abbrev pub integer : ℤ → ℤ → Option ℤ → Result ℤ LineFault
integer low high None = Err BadNumber
integer low high (Some z) = if int_le low z && int_le z high then Ok z else Err BadNumber
