-- Shifted numbers: each with 3 * 2^51 added to it, so that the double of the sum is whole.
use Rattle.std.specs.Prelude.{◌≡◌, ◌≤◌, ◌*◌, ◌^◌, ℤ, pos, ◌+ℤ◌, ◌-ℤ◌}
use Rattle.std.specs.Int.RustNames.{unsigned_abs}
use Rattle.pf_lanes.specs.Lanes.{Lane, Lanes, number_in}

-- what is added
abbrev pub shift : ℤ
shift = pos (3 * 2 ^ 51)

-- lanes with it added to each number
abbrev pub shifted : Lanes → Lanes
shifted a = record {
  first = a.first +ℤ shift;
  second = a.second +ℤ shift;
  third = a.third +ℤ shift;
  fourth = a.fourth +ℤ shift;
}

-- and with it taken away again
abbrev pub unshifted : Lanes → Lanes
unshifted a = record {
  first = a.first -ℤ shift;
  second = a.second -ℤ shift;
  third = a.third -ℤ shift;
  fourth = a.fourth -ℤ shift;
}

-- sums of rounded products with it
pub record AreShifted (a : Lanes) : Type 0 where
  pub sums : shifted (unshifted a) ≡ a
  pub small : (k : Lane) → unsigned_abs (number_in k (unshifted a)) ≤ 2 ^ 29
