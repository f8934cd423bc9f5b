-- Fractions n / c in doubles, which are the floating-point numbers of 64 bits (binary64 of IEEE
-- 754). Where c is 1 or 2^24, a double holds each one exactly whose n is at most 2^53 in magnitude.
use Rattle.std.specs.Prelude.{◌≡◌, ◌≤◌, ◌^◌, ℕ, suc, ◌*◌, ◌/◌, ℤ, pos, negsuc, neg_ℤ, true, false, List, [], ◌∷◌, slice_index_or}
use Rattle.std.specs.Float.Ieee.{Float, nan, inf, fin, binary64, up, down, round}
use Rattle.std.specs.Int.RustNames.{unsigned_abs}
use Rattle.pf_lanes.specs.Lanes.{Lane, Lanes, number_in}

-- the double nearest to z / c
unfoldable pub double_of : ℕ → ℤ → Float
double_of c (pos n) = round binary64 false n c
double_of c (negsuc n) = round binary64 true (suc n) c

-- the whole number z for which a double is z / c, rounded toward 0
unfoldable pub numerator : ℕ → Float → ℤ
numerator c nan = pos 0
numerator c (inf s) = pos 0
numerator c (fin false m e) = pos (m * up e * c / down e)
numerator c (fin true m e) = neg_ℤ (pos (m * up e * c / down e))

-- the same of four doubles side by side
abbrev pub doubles_of : ℕ → Lanes → List Float
doubles_of c a =
    double_of c a.first ∷ double_of c a.second ∷ double_of c a.third ∷ double_of c a.fourth ∷ []

abbrev pub numerators : ℕ → List Float → Lanes
numerators c xs = record {
  first = numerator c (slice_index_or xs 0 nan);
  second = numerator c (slice_index_or xs 1 nan);
  third = numerator c (slice_index_or xs 2 nan);
  fourth = numerator c (slice_index_or xs 3 nan);
}

-- a whole number that a double holds exactly: up to 2^53 in magnitude
abbrev pub FitsDouble : ℤ → Type 0
FitsDouble z = unsigned_abs z ≤ 2 ^ 53

-- a double is such a whole number; so it is not -0
pub record IsWhole (x : Float) : Type 0 where
  pub double : double_of 1 (numerator 1 x) ≡ x
  pub whole : FitsDouble (numerator 1 x)

-- each of four doubles is the fraction z / c of such a number z; so none is -0
pub record IsExact (c : ℕ) (xs : List Float) : Type 0 where
  pub doubles : doubles_of c (numerators c xs) ≡ xs
  pub whole : (k : Lane) → FitsDouble (number_in k (numerators c xs))
