-- A contact that is simulated, as it is added to the island of its group.
use Rattle.std.proofs.Common.{◌≡◌, ◌∙◌, ◌<◌, ◌+◌, ◌++◌, ◌∷◌, [], ℕ, List, ap, arith, get_or, length, map, set, take, sym, true}
use Rattle.std.specs.Prelude.{All}
use Rattle.std.proofs.lemmas.List.{map_more}
use Rattle.pf_shapes.specs.Body.{BodyState}
use Rattle.pf_shapes.specs.Scene.{Scene}
use Rattle.pf_manifold.specs.Touches.{IsTouchOf, Touch}
use Rattle.pf_cache.specs.Contact.{Contact}
use Rattle.pf_rows.specs.Row.{Row}
use Rattle.pf_islands.specs.Dealing.{AreIslandPlaces, ArePlaces, HasIsland, group_of_row, island_place, placed_row, with_row}
use Rattle.pf_islands.specs.Group.{groups}
use Rattle.pf_islands.specs.Rows.{active_points, row_of}
use Rattle.pf_islands.specs.Settled.{AreSettled, touches_of}
use Rattle.pf_islands.specs.Split.{AreWoken, IsActiveRow, Island, active_labels, is_active_label, no_island}
use Rattle.pf_islands.proofs.ActiveRows.{row_at}
use Rattle.pf_islands.proofs.Filled.{full_part, group_active, island_place_within, row_dealt}
use Rattle.pf_islands.proofs.SettledGroups.{labels_low, labels_rows, labels_woken}
use Rattle.pf_islands.proofs.Together.{read_row_is_active}

module _ (s : Scene) (bodies : List BodyState) (touches : List Touch) (contacts : List Contact)
    (points : List (ℕ × Touch)) (labels island_places : List ℕ)
    (count : length bodies ≡ length s.fixtures) (settled : AreSettled s bodies touches)
    (of : All (IsTouchOf (length bodies)) touches) (as_many : length contacts ≡ length touches)
    (are : points ≡ active_points s bodies touches)
    (labelled : labels ≡ groups s (touches_of points)) (placed : AreIslandPlaces labels bodies island_places)
    (k : ℕ) (m : ℕ × Touch) (c : Contact) (within : k < length points)
    (m_is : m ≡ get_or points k m) (c_is : c ≡ get_or contacts m.0 c) where
  abbrev row : Row
  row = row_of s m.0 m.1 c

  -- the rows of the first contacts
  abbrev first_rows : ℕ → List Row
  first_rows n = map (row_at s contacts) (take n points)

  low : All (λ label. label < length labels) labels
  low = labels_low s bodies touches count settled labels points are labelled

  woken : AreWoken labels bodies
  woken = labels_woken s bodies touches count settled labels points are labelled

  read : IsActiveRow labels bodies row × (row ≡ row_at s contacts (get_or points k m))
  read =
      read_row_is_active s touches bodies contacts labels points k m c
      (labels_rows s bodies touches count settled labels points are labelled contacts of) as_many are within m_is c_is

  own : (group_of_row labels row < length labels) × (is_active_label labels bodies (group_of_row labels row) ≡ true)
  own = group_active labels bodies row low woken read.0

  island_place_is : get_or island_places (group_of_row labels row) 0 ≡ island_place labels bodies (group_of_row labels row)
  island_place_is = placed (group_of_row labels row) own.0 own.1

  module _ (now : List Island) (now_is : now ≡ map (full_part labels bodies (first_rows k)) (active_labels labels bodies)) where
    -- its group has an island
    pub has_island : HasIsland labels island_places (length now) row
    has_island =
        let inside = island_place_within labels bodies (full_part labels bodies (first_rows k)) (group_of_row labels row) own.0 own.1 in
        let long = ap length now_is in
        record { first = read.0.first; second = read.0.second; group = own.0; island_place = omega (arith, island_place_is, inside, long) }

    -- which then has one row more
    pub one_dealt : (places : List ℕ) (after : List Island) → ArePlaces labels bodies places
        → after ≡ set now (get_or island_places (group_of_row labels row) 0)
        (with_row (placed_row places row) (get_or now (get_or island_places (group_of_row labels row) 0) no_island))
        → after ≡ map (full_part labels bodies (first_rows (k + 1))) (active_labels labels bodies)
    one_dealt places after noted after_is =
        row_dealt labels bodies (first_rows k) row places now after low woken noted read.0 now_is
        (after_is ∙ ap (λ n. set now n (with_row (placed_row places row) (get_or now n no_island))) island_place_is)
        ∙ ap (λ (rows : List Row). map (full_part labels bodies rows) (active_labels labels bodies))
        (ap (λ (r : Row). first_rows k ++ r ∷ []) read.1 ∙ sym (map_more (row_at s contacts) points k m within))
