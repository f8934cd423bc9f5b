-- The islands of a tick, as Box2D 2.x's b2World::Solve makes them: one for each group that is
-- simulated, with the bodies of the group and the contacts that touch them.
use Rattle.std.specs.Prelude.{◌≡◌, ℕ, ◌<◌, ◌==◌, Bool, true, false, ◌&&◌, ◌||◌, List, [], All}
use Rattle.std.specs.Prelude.{length, map, filter, slice_index_or}
use Rattle.std.specs.List.{range_with_len}
use Rattle.pf_shapes.specs.Body.{BodyState}
use Rattle.pf_shapes.specs.Scene.{Scene}
use Rattle.pf_rows.specs.declared.row.Side.{Side}
use Rattle.pf_rows.specs.declared.row.Side.TheVariants.{Static, Dynamic}
use Rattle.pf_rows.specs.Row.{IsSide, Row}
use Rattle.pf_islands.specs.Island.{group_members, rows_among, states_of}
use Rattle.pf_islands.specs.Rows.{IsRowOf, is_awake_at}

-- some bodies by their numbers, their states, and the contacts that touch them
pub record Island : Type 0 where
  pub numbers : List ℕ
  pub bodies : List BodyState
  pub rows : List Row

-- an island of the scene: one state for each number, and contacts of its own bodies and static ones
pub record IsIslandOf (s : Scene) (i : Island) : Type 0 where
  pub paired : length i.bodies ≡ length i.numbers
  pub rows : All (IsRowOf s (length i.bodies)) i.rows

-- an island without bodies
abbrev pub no_island : Island
no_island = record { numbers = []; bodies = []; rows = [] }

-- this is the label of a group that is simulated: the number of a body that is its own group's
-- least body, and awake
abbrev pub is_active_label : List ℕ → List BodyState → ℕ → Bool
is_active_label labels bodies i = (slice_index_or labels i 0 == i) && is_awake_at bodies i

-- the labels of the groups that are simulated, in ascending order
abbrev pub active_labels : List ℕ → List BodyState → List ℕ
active_labels labels bodies =
    filter (is_active_label labels bodies) (range_with_len 0 (length labels))

-- what an island of these bodies has of all bodies and contacts
abbrev pub island_of : List BodyState → List Row → List ℕ → Island
island_of bodies rows numbers = record {
  numbers = numbers;
  bodies = states_of numbers bodies;
  rows = rows_among numbers rows;
}

-- one island for each group that is simulated, in the order of their least bodies
abbrev pub islands : List ℕ → List BodyState → List Row → List Island
islands labels bodies rows =
    map (λ label. island_of bodies rows (group_members labels label)) (active_labels labels bodies)

-- groups are awake as wholes: the awake bodies are those of the groups that are simulated
pub record AreWoken (labels : List ℕ) (bodies : List BodyState) : Type 0 where
  pub active :
      (i : ℕ) → i < length labels → is_awake_at bodies i ≡ true
      → is_active_label labels bodies (slice_index_or labels i 0) ≡ true
  pub whole :
      (i : ℕ) → i < length labels → is_active_label labels bodies (slice_index_or labels i 0) ≡ true
      → is_awake_at bodies i ≡ true

-- the body on a side is awake
abbrev pub is_awake_side : List BodyState → Side → Bool
is_awake_side bodies Static = false
is_awake_side bodies (Dynamic n) = is_awake_at bodies n

-- two dynamic bodies are in one group
abbrev pub AreTogether : List ℕ → Side → Side → Type 0
AreTogether labels (Dynamic a) (Dynamic b) = slice_index_or labels a 0 ≡ slice_index_or labels b 0
AreTogether labels first second = Unit {0}

-- a contact with a body that is simulated; its dynamic bodies are in one group
pub record IsActiveRow (labels : List ℕ) (bodies : List BodyState) (r : Row) : Type 0 where
  pub first : IsSide (length labels) r.entry.first
  pub second : IsSide (length labels) r.entry.second
  pub active : (is_awake_side bodies r.entry.first || is_awake_side bodies r.entry.second) ≡ true
  pub together : AreTogether labels r.entry.first r.entry.second
