-- Bundles of the levels of a batch: their seats are those of its rows, and their lanes hold them.
use Rattle.std.proofs.Common.{◌≡◌, ◌∙◌, ℕ, zero, suc, ◌<◌, ◌≤◌, ◌∷◌, Some, List, [], length, map, refl, sym, ap, ap₂, subst, arith}
use Rattle.std.proofs.lemmas.List.{get_or_default, length-map}
use Rattle.std.proofs.lemmas.List.Elements.{All-cons, All-get_or, All-head, All-nil, All-tail, All-weaker}
use Rattle.std.proofs.lemmas.Option.{get_or_from_slice_get, none-some, same_Some, slice_get-get_or, slice_get_within}
use Rattle.std.proofs.Math.ListN.{get_or-map}
use Rattle.std.specs.Prelude.{All, slice_get, slice_index_or}
use Rattle.pf_islands.proofs.Elements.{all_from}
use Rattle.pf_rows.specs.declared.row.Side.{Side}
use Rattle.pf_rows.specs.declared.row.Side.TheVariants.{Dynamic, Static}
use Rattle.pf_rows.specs.Row.{IsEntryOf, IsSide, Row}
use Rattle.pf_levels.specs.Levels.{ArePairsOf, IsRowPairOf, RowPair, pair_of}
use Rattle.pf_levels.proofs.InOrder.{numbers_within}
use Rattle.pf_bundles.proofs.Bundles.{as_many}
use Rattle.pf_bundles.specs.Bundle.{AreBundlesOf, Bundle, IsBundleOf, Seat, lane_number, lane_row_or, seat_at}
use Rattle.pf_bundles.specs.LaneRow.{IsHeldBy, LaneRow}
use Rattle.pf_bundles.specs.Unknowns.{Unknowns}
use Rattle.pf_solver.specs.Beside.{IsBatch}
use Rattle.pf_solver.specs.Order.{AreLevelsOf}
use Rattle.pf_solver.specs.Velocities.{Batch}
use Rattle.pf_batches.specs.Islands.{AreHeldBy, IsLoaded, IsOverlapLoaded}
use Rattle.pf_batches.specs.Unknowns.{AreBundlesFor, AreUnknownsOf, AreSeatsOf, HoldEach, IsBundleOn, seat_of, seats_of}
use Rattle.pf_bundles.specs.Seats.{IsSeatIn}
use Rattle.pf_batches.proofs.Levels.{rows_at_places}
use Rattle.pf_batches.proofs.Unknowns.{unknowns_fit}

-- ---- rows that lanes hold

pub hold_each : (lanes : List LaneRow) (rows : List Row) → AreHeldBy lanes rows → HoldEach lanes rows
hold_each [] [] held p r at = absurd (none-some r at)
hold_each [] (x ∷ rows) held p r at = absurd held
hold_each (l ∷ lanes) [] held p r at = absurd held
hold_each (l ∷ lanes) (x ∷ rows) held zero r at = subst (IsHeldBy l) (same_Some x r at) held.0
hold_each (l ∷ lanes) (x ∷ rows) held (suc p) r at = hold_each lanes rows held.1 p r at

pub as_many_held : (lanes : List LaneRow) (rows : List Row) → AreHeldBy lanes rows → length lanes ≡ length rows
as_many_held [] [] held = refl
as_many_held [] (x ∷ rows) held = absurd held
as_many_held (l ∷ lanes) [] held = absurd held
as_many_held (l ∷ lanes) (x ∷ rows) held = ap suc (as_many_held lanes rows held.1)

-- ---- seats

-- the seat of a place is that of its row
seat_is : (rows : List Row) (p : ℕ) (d : Row) → p < length rows → seat_at (map pair_of rows) p ≡ seat_of p (slice_index_or rows p d)
seat_is rows p d within =
    ap (λ (pair : RowPair). record { place = p; first = pair.first; second = pair.second })
    (get_or_default (map pair_of rows) p (record { first = Static; second = Static }) (pair_of d) (subst (λ n. p < n) (sym (length-map rows pair_of)) within)
    ∙ get_or-map pair_of rows p d)

seats_are : (rows : List Row) (d : Row) (level : List ℕ) → All (λ p. p < length rows) level
    → map (seat_at (map pair_of rows)) level ≡ seats_of level (map (λ p. slice_index_or rows p d) level)
seats_are rows d [] within = refl
seats_are rows d (p ∷ level) within =
    ap₂ (λ x xs. x ∷ xs) (seat_is rows p d (All-head (λ p. p < length rows) p level within))
    (seats_are rows d level (All-tail (λ p. p < length rows) p level within))

seats_at : (rows : List Row) (level : List ℕ) (seats : List Seat) → All (λ p. p < length rows) level
    → seats ≡ map (seat_at (map pair_of rows)) level → AreSeatsOf rows level seats
seats_at [] [] seats within are = ([], refl, are)
seats_at [] (p ∷ level) seats within are = absurd (omega (arith, All-head (λ p. p < 0) p level within))
seats_at (r ∷ rows) level seats within are =
    (map (λ p. slice_index_or (r ∷ rows) p r) level, rows_at_places (r ∷ rows) level r within, are ∙ seats_are (r ∷ rows) r level within)

-- the place of a seat is that of its lane in the level
place_of_seat : (pairs : List RowPair) (level : List ℕ) (i : ℕ) (seat : Seat) → slice_get (map (seat_at pairs) level) i ≡ Some seat
    → slice_get level i ≡ Some seat.place
place_of_seat pairs [] i seat at = absurd (none-some seat at)
place_of_seat pairs (p ∷ level) zero seat at = ap (λ (s : Seat). Some s.place) (same_Some (seat_at pairs p) seat at)
place_of_seat pairs (p ∷ level) (suc i) seat at = place_of_seat pairs level i seat at

-- ---- one bundle

module _ (b : Batch) (n : Unknowns) (lanes : List LaneRow) (fit : AreUnknownsOf b n) (held : AreHeldBy lanes b.rows) where
  -- a seat of a row stands in the unknowns
  seat_in : (p : ℕ) (d : Row) → IsBatch b → p < length b.rows → IsSeatIn n (seat_at (map pair_of b.rows) p)
  seat_in p d batch within =
      let own = All-get_or (λ r. IsEntryOf (length b.bodies) r.entry) b.rows p d within batch in
      subst (IsSeatIn n) (sym (seat_is b.rows p d within))
      (record {
        place = omega (arith, fit.impulses, within);
        first = subst (λ count. IsSide count (slice_index_or b.rows p d).entry.first) (sym fit.velocities) own.first;
        second = subst (λ count. IsSide count (slice_index_or b.rows p d).entry.second) (sym fit.velocities) own.second;
      })

  seats_in : (d : Row) (level : List ℕ) → IsBatch b → All (λ p. p < length b.rows) level
      → All (IsSeatIn n) (map (seat_at (map pair_of b.rows)) level)
  seats_in d [] batch within = All-nil (IsSeatIn n)
  seats_in d (p ∷ level) batch within =
      All-cons (IsSeatIn n) (seat_at (map pair_of b.rows) p) (map (seat_at (map pair_of b.rows)) level)
      (seat_in p d batch (All-head (λ q. q < length b.rows) p level within))
      (seats_in d level batch (All-tail (λ q. q < length b.rows) p level within))

  places_in : (level : List ℕ) → All (λ p. p < length b.rows) level
      → All (λ (seat : Seat). seat.place < length lanes) (map (seat_at (map pair_of b.rows)) level)
  places_in [] within = All-nil (λ (seat : Seat). seat.place < length lanes)
  places_in (p ∷ level) within =
      let here : p < length b.rows = All-head (λ q. q < length b.rows) p level within in
      let many = as_many_held lanes b.rows held in
      All-cons (λ (seat : Seat). seat.place < length lanes) (seat_at (map pair_of b.rows) p) (map (seat_at (map pair_of b.rows)) level)
      (omega (arith, many, here))
      (places_in level (All-tail (λ q. q < length b.rows) p level within))

  all_seats_in : (rows : List Row) (level : List ℕ) → rows ≡ b.rows → IsBatch b → All (λ p. p < length b.rows) level
      → All (IsSeatIn n) (map (seat_at (map pair_of b.rows)) level)
  all_seats_in [] [] same batch within = All-nil (IsSeatIn n)
  all_seats_in [] (p ∷ level) same batch within =
      absurd (omega (arith, All-head (λ q. q < length b.rows) p level within, ap length same))
  all_seats_in (r ∷ rows) level same batch within = seats_in r level batch within

  bundle_on : (level : List ℕ) (bundle : Bundle) → IsBatch b → All (λ p. p < length b.rows) level
      → IsBundleOf (map pair_of b.rows) lanes level bundle → IsBundleOn lanes n bundle
  bundle_on level bundle batch within of = record {
    seats = subst (All (IsSeatIn n)) (sym of.seats) (all_seats_in b.rows level refl batch within);
    places = subst (All (λ (seat : Seat). seat.place < length lanes)) (sym of.seats) (places_in level within);
    held = λ k seat at.
        of.lanes k
        ∙ ap (lane_row_or lanes)
        (place_of_seat (map pair_of b.rows) level (lane_number k) seat (ap (λ seats. slice_get seats (lane_number k)) (sym of.seats) ∙ at));
  }

-- ---- all bundles

-- each level has its bundle
abbrev pub EachIsBundle : List RowPair → List LaneRow → List (List ℕ) → List Bundle → Type 0
EachIsBundle pairs lanes levels bundles =
    (i : ℕ) (level : List ℕ) (bundle : Bundle) → slice_get levels i ≡ Some level → slice_get bundles i ≡ Some bundle
    → IsBundleOf pairs lanes level bundle

-- bundles that are one for each level
pub each_bundle : (pairs : List RowPair) (lanes : List LaneRow) (levels : List (List ℕ)) (bundles : List Bundle)
    → AreBundlesOf pairs lanes levels bundles → EachIsBundle pairs lanes levels bundles
each_bundle pairs lanes [] bundles are i level bundle here own = absurd (none-some level here)
each_bundle pairs lanes (l ∷ levels) [] are i level bundle here own = absurd (none-some bundle own)
each_bundle pairs lanes (l ∷ levels) (x ∷ bundles) are zero level bundle here own =
    subst (λ y. IsBundleOf pairs lanes level y) (same_Some x bundle own)
    (subst (λ y. IsBundleOf pairs lanes y x) (same_Some l level here) are.0)
each_bundle pairs lanes (l ∷ levels) (x ∷ bundles) are (suc i) level bundle here own =
    each_bundle pairs lanes levels bundles are.1 i level bundle here own

-- bundles of levels whose places are those of rows
module _ (b : Batch) (lanes : List LaneRow) (levels : List (List ℕ)) (bundles : List Bundle)
    (held : AreHeldBy lanes b.rows) (within : All (All (λ p. p < length b.rows)) levels)
    (are : AreBundlesOf (map pair_of b.rows) lanes levels bundles) where
  many : length bundles ≡ length levels
  many = as_many (map pair_of b.rows) lanes levels bundles are

  each : EachIsBundle (map pair_of b.rows) lanes levels bundles
  each = each_bundle (map pair_of b.rows) lanes levels bundles are

  -- the places of a level are those of rows
  level_within : (i : ℕ) (level : List ℕ) → slice_get levels i ≡ Some level → All (λ p. p < length b.rows) level
  level_within i level at =
      subst (All (λ p. p < length b.rows)) (get_or_from_slice_get levels i level level at)
      (All-get_or (All (λ p. p < length b.rows)) levels i level (slice_get_within levels i level at) within)

  pub bundles_for : AreBundlesFor b levels lanes bundles
  bundles_for = record {
    count = many;
    seats = λ i level bundle here own.
        seats_at b.rows level bundle.seats (level_within i level here) (each i level bundle here own).seats;
    hold = hold_each lanes b.rows held;
  }

  pub bundles_on : (n : Unknowns) → AreUnknownsOf b n → IsBatch b → All (IsBundleOn lanes n) bundles
  bundles_on n fit batch = all_from (IsBundleOn lanes n) bundles (λ i bundle own.
      let in_bundles = slice_get_within bundles i bundle own in
      let in_levels : i < length levels = omega (arith, in_bundles, many) in
      let level = slice_index_or levels i [] in
      let here : slice_get levels i ≡ Some level = slice_get-get_or levels i [] in_levels in
      bundle_on b n lanes fit held level bundle batch (level_within i level here) (each i level bundle here own))

-- the places of the levels of a batch are those of rows
pub levels_within : (b : Batch) (levels : List (List ℕ)) → AreLevelsOf b levels → All (All (λ p. p < length b.rows)) levels
levels_within b levels of =
    subst (λ n. All (All (λ p. p < n)) levels) (length-map b.rows pair_of) (numbers_within (map pair_of b.rows) levels of)

-- where rounds do not overlap, no level is early, and all levels stand for those across two rounds
pub no_overlap : (b : Batch) (levels : List (List ℕ)) (lanes : List LaneRow) (n : Unknowns) (bundles : List Bundle)
    → IsLoaded b levels lanes n bundles → IsOverlapLoaded (map pair_of b.rows) lanes 0 levels levels bundles
no_overlap b levels lanes n bundles loaded = record {
  early_in_levels = omega arith;
  does_late_and_early = λ step x is. refl;
  within = numbers_within (map pair_of b.rows) levels loaded.order;
  each = loaded.each;
}

-- a batch that is loaded, with levels across two rounds
module _ (b : Batch) (levels across : List (List ℕ)) (early_levels : ℕ) (lanes : List LaneRow) (n : Unknowns) (bundles overlap_bundles : List Bundle)
    (loaded : IsLoaded b levels lanes n bundles)
    (joint : IsOverlapLoaded (map pair_of b.rows) lanes early_levels levels across overlap_bundles) where
  fit : AreUnknownsOf b n
  fit = subst (AreUnknownsOf b) (sym loaded.unknowns) (unknowns_fit b)

  across_within : All (All (λ p. p < length b.rows)) across
  across_within = subst (λ m. All (All (λ p. p < m)) across) (length-map b.rows pair_of) joint.within

  pub early_in : early_levels ≤ length bundles
  early_in = omega (arith, joint.early_in_levels, as_many (map pair_of b.rows) lanes levels bundles loaded.each)

  pub loaded_for : AreBundlesFor b levels lanes bundles
  loaded_for = bundles_for b lanes levels bundles loaded.rows (levels_within b levels loaded.order) loaded.each

  pub loaded_on : IsBatch b → All (IsBundleOn lanes n) bundles
  loaded_on = bundles_on b lanes levels bundles loaded.rows (levels_within b levels loaded.order) loaded.each n fit

  pub overlap_for : AreBundlesFor b across lanes overlap_bundles
  overlap_for = bundles_for b lanes across overlap_bundles loaded.rows across_within joint.each

  pub overlap_on : IsBatch b → All (IsBundleOn lanes n) overlap_bundles
  overlap_on = bundles_on b lanes across overlap_bundles loaded.rows across_within joint.each n fit

-- ---- sides of more bodies

more_side : (n m : ℕ) (side : Side) → n ≤ m → IsSide n side → IsSide m side
more_side n m Static h is = tt
more_side n m (Dynamic place) h is = omega (arith, h, is)

pub more_bodies : (n m : ℕ) (pairs : List RowPair) → n ≤ m → ArePairsOf n pairs → ArePairsOf m pairs
more_bodies n m pairs h all =
    All-weaker (IsRowPairOf n) (IsRowPairOf m) (λ pair of. record { first = more_side n m pair.first h of.first; second = more_side n m pair.second h of.second }) pairs all
