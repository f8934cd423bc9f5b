-- Where the search for a level with room goes on behind a full level.
use Rattle.std.specs.Prelude.{◌≡◌, ◌<◌, ◌≤◌, ℕ, List, length, slice_index_or}

-- each of `count` levels has a link to a later one, or to the place behind the last
pub record AreLinks (count : ℕ) (links : List ℕ) : Type 0 where
  pub each : length links ≡ count
  pub later : (k : ℕ) → k < count → k < slice_index_or links k 0
  pub within : (k : ℕ) → k < count → slice_index_or links k 0 ≤ count
