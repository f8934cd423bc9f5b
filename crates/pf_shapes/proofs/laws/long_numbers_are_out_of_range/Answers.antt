use Rattle.std.proofs.Common.{◌≡◌, ℤ, Bool, true, false, ◌&&◌, Some, None, Option, refl, arith}
use Rattle.std.specs.Prelude.{int_le}
use Rattle.std.specs.Option.{option_map}
use Rattle.std.proofs.lemmas.Bool.Decides.{nat_tests}
use Rattle.std.proofs.lemmas.Int.{ints, clamps}
use Rattle.pf_num.specs.Fx.{IsRaw}
use Rattle.pf_text.specs.Numbers.{clamp_whole, whole_of}
use Rattle.pf_shapes.specs.declared.fault.SceneFault.{SceneFault}
use Rattle.pf_shapes.specs.Numbers.{checked_number}
use Rattle.pf_shapes.proofs.laws.long_numbers_are_out_of_range.Goals as goal

-- a clamped number is in a range where the number itself is, and is then that number
clamped : (outside : SceneFault) (low high z : ℤ) (t : Bool) → (int_le low z && int_le z high) ≡ t
    → IsRaw low → IsRaw high
    → checked_number outside low high (Some (clamp_whole z)) ≡ checked_number outside low high (Some z)
clamped outside low high z true e l h =
    let same : clamp_whole z ≡ z = grind (arith, ints, clamps, nat_tests) in
    rw same refl
clamped outside low high z false e l h =
    let out : (int_le low (clamp_whole z) && int_le (clamp_whole z) high) ≡ false = grind (arith, ints, clamps, nat_tests) in
    rw (out, e) refl

pub returns : goal.returns
returns c outside low high field l h = by (whole_of field)
  where
    by : (n : Option ℤ) → checked_number outside low high (option_map clamp_whole n) ≡ checked_number outside low high n
    by None = refl
    by (Some z) = clamped outside low high z (int_le low z && int_le z high) refl l h
