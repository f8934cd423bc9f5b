use Rattle.std.proofs.Common.{◌≡◌, ◌^◌, true, min, take}
use Rattle.std.specs.Char.{is_ascii_digit}
use Rattle.std.specs.List.{list_all}
use Rattle.std.specs.Str.Parse.{digits_value}
use Rattle.pf_text.proofs.numbers.digits_value.Given as goal

abbrev pub invariant-loop-digit : goal.invariant-loop-digit
invariant-loop-digit l = record {
  are_digits : list_all is_ascii_digit (take l.digit-index l.digits) ≡ true;
  value-is : l.value ≡ min (2 ^ 56) (digits_value 10 (take l.digit-index l.digits));
}
