-- Four numbers side by side, each in a lane of its own.
use Rattle.std.specs.Prelude.{ℤ, pos, List, [], ◌∷◌, slice_index_or}

pub data Lane : Type 0 where
  First : Lane
  Second : Lane
  Third : Lane
  Fourth : Lane

pub record Lanes : Type 0 where
  pub first : ℤ
  pub second : ℤ
  pub third : ℤ
  pub fourth : ℤ

-- the number in a lane
abbrev pub number_in : Lane → Lanes → ℤ
number_in First a = a.first
number_in Second a = a.second
number_in Third a = a.third
number_in Fourth a = a.fourth

-- the lanes of four numbers, and the four numbers of lanes
abbrev pub lanes_of : List ℤ → Lanes
lanes_of ns = record {
  first = slice_index_or ns 0 (pos 0);
  second = slice_index_or ns 1 (pos 0);
  third = slice_index_or ns 2 (pos 0);
  fourth = slice_index_or ns 3 (pos 0);
}

abbrev pub list_of : Lanes → List ℤ
list_of a = a.first ∷ a.second ∷ a.third ∷ a.fourth ∷ []
