-- Bodies that no contact touches: their islands have no contacts, so a tick may leave these islands
-- out and advance the bodies by themselves.
use Rattle.std.specs.Prelude.{◌≡◌, ℕ, ◌==◌, Bool, true, false, not, List, [], ◌∷◌, length, filter}
use Rattle.std.specs.Prelude.{map, slice_index_or}
use Rattle.std.specs.List.{enumerate_from, flat_map}
use Rattle.pf_shapes.specs.Body.{BodyState, no_state}
use Rattle.pf_shapes.specs.Scene.{Scene}
use Rattle.pf_manifold.specs.Touches.{Touch}
use Rattle.pf_rows.specs.Row.{Row}
use Rattle.pf_islands.specs.declared.splitting.LoneBodies.{LoneBodies}
use Rattle.pf_islands.specs.declared.splitting.LoneBodies.TheVariants.{AreIslands, AreListed}
use Rattle.pf_islands.specs.Dealing.{group_of_sides}
use Rattle.pf_islands.specs.Flags.{awake_numbers}
use Rattle.pf_islands.specs.Island.{has_number}
use Rattle.pf_islands.specs.Rows.{is_awake_at, side_of}
use Rattle.pf_islands.specs.Split.{Island}

-- whether there are rows
abbrev pub has_rows : List Row → Bool
has_rows [] = false
has_rows (r ∷ rows) = true

-- whether an island has a contact
abbrev pub is_touched : Island → Bool
is_touched i = has_rows i.rows

-- whether an island is made
abbrev pub is_made : LoneBodies → Island → Bool
is_made AreIslands i = true
is_made AreListed i = is_touched i

-- the islands that are made, of all islands of a tick
abbrev pub made_islands : LoneBodies → List Island → List Island
made_islands lone islands = filter (is_made lone) islands

-- the numbers of the bodies of the other islands
abbrev pub lone_numbers : LoneBodies → List Island → List ℕ
lone_numbers lone islands = flat_map (λ i. i.numbers) (filter (λ i. not (is_made lone i)) islands)

-- the label of the group of a contact point: that of its first dynamic body
abbrev pub group_of_touch : Scene → List ℕ → Touch → ℕ
group_of_touch s labels t = group_of_sides labels (side_of s t.a) (side_of s t.b)

-- whether the bodies of a group with so many contacts go into an island
abbrev pub is_dealt : LoneBodies → ℕ → Bool
is_dealt AreIslands count = true
is_dealt AreListed count = not (count == 0)

-- these bodies, where only those with these numbers are awake
abbrev pub only_awake : List ℕ → List BodyState → List BodyState
only_awake numbers bodies =
    map (λ m. record m.1 { awake = has_number numbers m.0 }) (enumerate_from 0 bodies)

-- these are the numbers of some of `count` bodies, all of them awake, in ascending order: among
-- `only_awake` bodies they are the awake ones, with the states that they have in `bodies`
pub record AreSomeAwake (count : ℕ) (numbers : List ℕ) (bodies : List BodyState) : Type 0 where
  pub as_many : length (only_awake numbers bodies) ≡ count
  pub in_order : numbers ≡ awake_numbers (only_awake numbers bodies)
  pub states :
      (k : ℕ) → is_awake_at (only_awake numbers bodies) k ≡ true
      → slice_index_or bodies k no_state ≡ slice_index_or (only_awake numbers bodies) k no_state
