-- Calculations lane by lane.
use Rattle.std.proofs.Common.{◌≡◌, ℤ, ◌*ℤ◌, refl}
use Rattle.pf_num.specs.Fx.{one}
use Rattle.pf_num.specs.Round.{near}
use Rattle.pf_lanes.specs.Lanes.{Lane, First, Second, Third, Fourth, Lanes, number_in}

-- f of each lane
abbrev pub map_lanes : (ℤ → ℤ) → Lanes → Lanes
map_lanes f a = record {
  first = f a.first;
  second = f a.second;
  third = f a.third;
  fourth = f a.fourth;
}

pub number_in-map_lanes : (f : ℤ → ℤ) (a : Lanes) (k : Lane) → number_in k (map_lanes f a) ≡ f (number_in k a)
number_in-map_lanes f a First = refl
number_in-map_lanes f a Second = refl
number_in-map_lanes f a Third = refl
number_in-map_lanes f a Fourth = refl

-- f of the two numbers of each lane
abbrev pub zip_lanes : (ℤ → ℤ → ℤ) → Lanes → Lanes → Lanes
zip_lanes f a b = record {
  first = f a.first b.first;
  second = f a.second b.second;
  third = f a.third b.third;
  fourth = f a.fourth b.fourth;
}

pub number_in-zip_lanes : (f : ℤ → ℤ → ℤ) (a b : Lanes) (k : Lane) → number_in k (zip_lanes f a b) ≡ f (number_in k a) (number_in k b)
number_in-zip_lanes f a b First = refl
number_in-zip_lanes f a b Second = refl
number_in-zip_lanes f a b Third = refl
number_in-zip_lanes f a b Fourth = refl

-- the same number in each lane
abbrev pub four_of : ℤ → Lanes
four_of z = record { first = z; second = z; third = z; fourth = z }

pub number_in-four_of : (z : ℤ) (k : Lane) → number_in k (four_of z) ≡ z
number_in-four_of z First = refl
number_in-four_of z Second = refl
number_in-four_of z Third = refl
number_in-four_of z Fourth = refl

-- what holds in each of the four lanes
pub in_each : (P : Lane → Type 0) → P First × P Second × P Third × P Fourth → (k : Lane) → P k
in_each P h First = h.0
in_each P h Second = h.1
in_each P h Third = h.2
in_each P h Fourth = h.3

-- a whole number times a factor in units of 2^-24, rounded to the nearest even
abbrev pub rounded_product : ℤ → ℤ → ℤ
rounded_product x c = near (x *ℤ c) one
