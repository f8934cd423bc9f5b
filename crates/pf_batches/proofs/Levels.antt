-- Levels that are solved on the unknowns of a batch are solved as those of the batch.
use Rattle.std.proofs.Common.{◌≡◌, ◌∙◌, ℕ, zero, suc, ◌+◌, ◌-◌, ◌<◌, None, Option, Some, List, [], ◌∷◌, drop, length, map, take, refl, sym, ap, subst, arith}
use Rattle.std.proofs.lemmas.List.{take_more}
use Rattle.std.proofs.lemmas.List.Elements.{All-head, All-tail}
use Rattle.std.proofs.lemmas.List.Sums.{fold-append}
use Rattle.std.proofs.lemmas.Option.{slice_get-get_or}
use Rattle.std.specs.List.{fold}
use Rattle.std.specs.Prelude.{All, slice_get, slice_index_or, slice_set}
use Rattle.pf_rows.specs.Row.{Row}
use Rattle.pf_levels.specs.Levels.{AreLevels, pair_of}
use Rattle.pf_solver.specs.declared.velocities.TheConstants.{ROUNDS}
use Rattle.pf_solver.specs.Beside.{velocities_of}
use Rattle.pf_solver.specs.Impulse.{ContactState, after_round, after_warm_start}
use Rattle.pf_solver.specs.Order.{AreLevelsOf, DoLateAndEarly, after_overlapping_passes, passes_in_levels, solved_at_once, solved_by_levels, stored_where}
use Rattle.pf_solver.specs.Velocities.{Batch, Step, bodies_with, pass, passes, row_with}
use Rattle.pf_solver.proofs.Levels.{pairs_passed, passes_by_levels}
use Rattle.pf_solver.proofs.Overlap.{passes_by_overlap}
use Rattle.pf_solver.proofs.Passes.{passes_more, passes_none}
use Rattle.pf_batches.specs.Unknowns.{AreUnknownsAfter, AreUnknownsOf, AreResults, AreRowsAtPlaces, batch_with_unknowns, unknowns_after, unknowns_after_all, unknowns_at_once, unknowns_in_levels, batch_unknowns, unknowns_where, result_at, seat_of, seats_of}
use Rattle.pf_bundles.specs.Unknowns.{Unknowns}
use Rattle.pf_bundles.specs.Bundle.{Seat}
use Rattle.pf_batches.proofs.Unknowns.{fit_after, impulses_none, unknowns_fit, own_unknowns, pairs_loaded, row_read, row_stored, state_read}

-- ---- rows and results by their places in the level

-- rows stand at places if each one does
pub rows_from_each : (rows : List Row) (places : List ℕ) (found : List Row) → length found ≡ length places
    → ((k p : ℕ) (r : Row) → slice_get places k ≡ Some p → slice_get found k ≡ Some r → slice_get rows p ≡ Some r)
    → AreRowsAtPlaces rows places found
rows_from_each rows [] [] long each = refl
rows_from_each rows [] (r ∷ found) long each = absurd (omega (arith, long))
rows_from_each rows (p ∷ places) [] long each = absurd (omega (arith, long))
rows_from_each rows (p ∷ places) (r ∷ found) long each = (
  each 0 p r refl refl,
  rows_from_each rows places found (omega (arith, long)) (λ k q x place row. each (suc k) q x place row),
)

-- what a step makes of rows is what it makes of each
pub results_from_each : (step : Step) (n : Unknowns) (places : List ℕ) (found : List Row) (states : List ContactState)
    → length found ≡ length places → length states ≡ length places
    → ((k p : ℕ) (r : Row) (m : ContactState) → slice_get places k ≡ Some p → slice_get found k ≡ Some r
    → slice_get states k ≡ Some m → m ≡ result_at step n p r)
    → AreResults step n places found states
results_from_each step n [] found [] long many each = refl
results_from_each step n [] found (m ∷ states) long many each = absurd (omega (arith, many))
results_from_each step n (p ∷ places) [] states long many each = absurd (omega (arith, long))
results_from_each step n (p ∷ places) (r ∷ found) [] long many each = absurd (omega (arith, many))
results_from_each step n (p ∷ places) (r ∷ found) (m ∷ states) long many each = (
  each 0 p r m refl refl refl,
  results_from_each step n places found states (omega (arith, long)) (omega (arith, many))
      (λ k q x s place row state. each (suc k) q x s place row state),
)

-- places below the number of rows have the rows that are read there
pub rows_at_places : (rows : List Row) (places : List ℕ) (d : Row) → All (λ p. p < length rows) places
    → AreRowsAtPlaces rows places (map (λ p. slice_index_or rows p d) places)
rows_at_places rows [] d within = refl
rows_at_places rows (p ∷ places) d within = (
  slice_get-get_or rows p d (All-head (λ x. x < length rows) p places within),
  rows_at_places rows places d (All-tail (λ x. x < length rows) p places within),
)

-- after one more row is stored
stored_next : (seats : List Seat) (states : List ContactState) (n : Unknowns) (k : ℕ) (seat : Seat) (m : ContactState)
    → slice_get seats k ≡ Some seat → slice_get states k ≡ Some m
    → unknowns_after_all (take (suc k) seats) (take (suc k) states) n
    ≡ unknowns_after seat m (unknowns_after_all (take k seats) (take k states) n)
stored_next [] states n k seat m here there = absurd cc
stored_next (s ∷ seats) [] n k seat m here there = absurd cc
stored_next (s ∷ seats) (x ∷ states) n zero seat m here there =
    let same_seat : s ≡ seat = cc in
    let same_state : x ≡ m = cc in
    ap (λ y. unknowns_after y x n) same_seat ∙ ap (λ y. unknowns_after seat y n) same_state
stored_next (s ∷ seats) (x ∷ states) n (suc k) seat m here there =
    stored_next seats states (unknowns_after s x n) k seat m here there

-- a step of a loop that stores rows one after the other
pub stored_more : (seats : List Seat) (states : List ContactState) (n : Unknowns) (k : ℕ) (seat : Seat) (m : ContactState)
    → slice_get seats k ≡ Some seat → slice_get states k ≡ Some m
    → unknowns_after_all (take (k + 1) seats) (take (k + 1) states) n
    ≡ unknowns_after seat m (unknowns_after_all (take k seats) (take k states) n)
stored_more seats states n k seat m here there =
    let more : k + 1 ≡ suc k = omega arith in
    ap (λ j. unknowns_after_all (take j seats) (take j states) n) more ∙ stored_next seats states n k seat m here there

-- ---- one level

module _ (step : Step) (b : Batch) where
  module _ (n : Unknowns) (fit : AreUnknownsOf b n) where
    -- one row of a level is stored in the unknowns as in the batch
    stored_as_row : (now : Unknowns) (p : ℕ) (o : Option Row) → AreUnknownsOf b now → slice_get b.rows p ≡ o
        → batch_with_unknowns (unknowns_where step n now p o) b
        ≡ stored_where step (batch_with_unknowns n b).bodies (batch_with_unknowns now b) p (slice_get (batch_with_unknowns n b).rows p)
    stored_as_row now p None still at =
        ap (stored_where step (batch_with_unknowns n b).bodies (batch_with_unknowns now b) p) (sym (impulses_none n.impulses b.rows p at))
    stored_as_row now p (Some r) still at =
        let then = batch_with_unknowns now b in
        row_stored b now still p r (result_at step n p r) at
        ∙ ap
        (λ (s : ContactState).
        record {
          bodies = bodies_with (step r.constraint s) then.bodies r;
          rows = slice_set then.rows p (row_with (step r.constraint s) r);
        })
        (sym (state_read b n fit p r))
        ∙ ap (stored_where step (batch_with_unknowns n b).bodies then p) (sym (row_read b n fit p r at))

    -- there are still as many unknowns
    fit_where : (now : Unknowns) (p : ℕ) (o : Option Row) → AreUnknownsOf b now → AreUnknownsOf b (unknowns_where step n now p o)
    fit_where now p None still = still
    fit_where now p (Some r) still = fit_after b now still (seat_of p r) (result_at step n p r)

    -- and so after the rest of the level
    stored_as_level : (level : List ℕ) (now : Unknowns) → AreUnknownsOf b now
        → batch_with_unknowns (fold (λ now p. unknowns_where step n now p (slice_get b.rows p)) now level) b
        ≡ fold (λ now p. stored_where step (batch_with_unknowns n b).bodies now p (slice_get (batch_with_unknowns n b).rows p))
        (batch_with_unknowns now b) level
    stored_as_level [] now still = refl
    stored_as_level (p ∷ level) now still =
        let o = slice_get b.rows p in
        stored_as_level level (unknowns_where step n now p o) (fit_where now p o still)
        ∙ ap
        (λ x. fold (λ (x : Batch) q. stored_where step (batch_with_unknowns n b).bodies x q (slice_get (batch_with_unknowns n b).rows q)) x level)
        (stored_as_row now p o still refl)

    -- and so along a level
    fit_along : (level : List ℕ) (now : Unknowns) → AreUnknownsOf b now
        → AreUnknownsOf b (fold (λ now p. unknowns_where step n now p (slice_get b.rows p)) now level)
    fit_along [] now still = still
    fit_along (p ∷ level) now still =
        let o = slice_get b.rows p in fit_along level (unknowns_where step n now p o) (fit_where now p o still)

    -- what became of the rows of a level is stored one after the other
    stored_along : (level : List ℕ) (found : List Row) (states : List ContactState) (now : Unknowns)
        → AreRowsAtPlaces b.rows level found → AreResults step n level found states
        → unknowns_after_all (seats_of level found) states now
        ≡ fold (λ now p. unknowns_where step n now p (slice_get b.rows p)) now level
    stored_along [] found states now rows results = refl
    stored_along (p ∷ level) [] states now rows results = absurd rows
    stored_along (p ∷ level) (r ∷ found) [] now rows results = absurd results
    stored_along (p ∷ level) (r ∷ found) (m ∷ states) now rows results =
        let next = λ (o : Option Row). unknowns_where step n now p o in
        stored_along level found states (unknowns_after (seat_of p r) m now) rows.1 results.1
        ∙ ap (λ x. fold (λ now q. unknowns_where step n now q (slice_get b.rows q)) (unknowns_after (seat_of p r) x now) level) results.0
        ∙ ap (λ o. fold (λ now q. unknowns_where step n now q (slice_get b.rows q)) (next o) level) (sym rows.0)

    -- a level that is solved at once on the unknowns is solved at once in the batch
    pub level_on_unknowns : (level : List ℕ)
        → batch_with_unknowns (unknowns_at_once level step b.rows n) b ≡ solved_at_once level step (batch_with_unknowns n b)
    level_on_unknowns level = stored_as_level level n fit

    -- there are still as many unknowns after a level
    pub fit_at_once : (level : List ℕ) → AreUnknownsOf b (unknowns_at_once level step b.rows n)
    fit_at_once level = fit_along level n fit

    module _ (level : List ℕ) (found : List Row) (states : List ContactState) (rows : AreRowsAtPlaces b.rows level found)
        (results : AreResults step n level found states) where
      -- what became of the rows of a level, stored one after the other, is the level at once
      pub results_at_once : unknowns_after_all (seats_of level found) states n ≡ unknowns_at_once level step b.rows n
      results_at_once = stored_along level found states n rows results

      -- a batch with the results of a level is the batch with the level solved at once
      pub level_stored : batch_with_unknowns (unknowns_after_all (seats_of level found) states n) b
          ≡ solved_at_once level step (batch_with_unknowns n b)
      level_stored = ap (λ x. batch_with_unknowns x b) results_at_once ∙ level_on_unknowns level

      -- there are still as many unknowns after the results of a level
      pub fit_after_all : AreUnknownsOf b (unknowns_after_all (seats_of level found) states n)
      fit_after_all = subst (AreUnknownsOf b) (sym results_at_once) (fit_at_once level)

-- ---- levels one after the other

module _ (step : Step) (b : Batch) where
  -- levels one after the other on the unknowns are those of the batch
  levels_on_unknowns : (some : List (List ℕ)) (n : Unknowns) → AreUnknownsOf b n
      → batch_with_unknowns (fold (λ now level. unknowns_at_once level step b.rows now) n some) b
      ≡ solved_by_levels some step (batch_with_unknowns n b)
  levels_on_unknowns [] n fit = refl
  levels_on_unknowns (g ∷ some) n fit =
      levels_on_unknowns some (unknowns_at_once g step b.rows n) (fit_at_once step b n fit g)
      ∙ ap (solved_by_levels some step) (level_on_unknowns step b n fit g)

  -- there are still as many unknowns
  fit_by_levels : (some : List (List ℕ)) (n : Unknowns) → AreUnknownsOf b n
      → AreUnknownsOf b (fold (λ now level. unknowns_at_once level step b.rows now) n some)
  fit_by_levels [] n fit = fit
  fit_by_levels (g ∷ some) n fit = fit_by_levels some (unknowns_at_once g step b.rows n) (fit_at_once step b n fit g)

  -- after one level more
  pub level_more : (levels : List (List ℕ)) (after : Batch) (i : ℕ) (d : List ℕ) (now : Unknowns) → i < length levels
      → AreUnknownsAfter b (solved_by_levels (take i levels) step after) now
      → AreUnknownsAfter b (solved_by_levels (take (i + 1) levels) step after) (unknowns_at_once (slice_index_or levels i d) step b.rows now)
  level_more levels after i d now within done =
      let f = λ (x : Batch) (level : List ℕ). solved_at_once level step x in
      let level = slice_index_or levels i d in
      record {
        unknowns = fit_at_once step b now done.unknowns level;
        batch =
            level_on_unknowns step b now done.unknowns level
            ∙ ap (solved_at_once level step) done.batch
            ∙ sym (ap (fold f after) (take_more levels i d within) ∙ fold-append f after (take i levels) (level ∷ []));
      }

  -- so many passes on the unknowns
  passes_on_unknowns : (k : ℕ) (levels : List (List ℕ)) (n : Unknowns) → AreUnknownsOf b n
      → AreUnknownsAfter b (passes_in_levels k levels step (batch_with_unknowns n b)) (unknowns_in_levels k levels step b.rows n)
  passes_on_unknowns zero levels n fit = record { unknowns = fit; batch = refl }
  passes_on_unknowns (suc k) levels n fit =
      let before = unknowns_in_levels k levels step b.rows n in
      let done = passes_on_unknowns k levels n fit in
      record {
        unknowns = fit_by_levels levels before done.unknowns;
        batch = levels_on_unknowns levels before done.unknowns ∙ ap (solved_by_levels levels step) done.batch;
      }

  -- so many passes level by level are as many along the list of rows
  pub passes_of_unknowns : (k : ℕ) (levels : List (List ℕ)) (n : Unknowns) → AreUnknownsOf b n → AreLevelsOf b levels
      → batch_with_unknowns (unknowns_in_levels k levels step b.rows n) b ≡ passes k step (batch_with_unknowns n b)
  passes_of_unknowns k levels n fit of =
      (passes_on_unknowns k levels n fit).batch
      ∙ passes_by_levels step k (batch_with_unknowns n b) levels
      (subst (λ pairs. AreLevels pairs levels) (sym (pairs_loaded n.impulses b.rows)) of)

-- ---- the velocity phase

-- the unknowns of a batch before its velocity phase
pub own_start : (b : Batch) (now : Unknowns) → now ≡ batch_unknowns b → AreUnknownsAfter b b now
own_start b now same = record {
  unknowns = subst (AreUnknownsOf b) (sym same) (unknowns_fit b);
  batch = ap (λ n. batch_with_unknowns n b) same ∙ own_unknowns b;
}

-- a warm start level by level, and rounds that overlap, are the velocity phase
pub velocities_by_overlap : (b : Batch) (levels across : List (List ℕ)) (early_levels : ℕ) → AreLevelsOf b levels
    → DoLateAndEarly (map pair_of b.rows) (take early_levels levels) (drop early_levels levels) across
    → after_overlapping_passes (ROUNDS - 1) (take early_levels levels) across (drop early_levels levels) after_round
    (solved_by_levels levels after_warm_start b) ≡ velocities_of b
velocities_by_overlap b levels across early_levels of done =
    let warm = passes 1 after_warm_start b in
    let started : solved_by_levels levels after_warm_start b ≡ warm = passes_by_levels after_warm_start 1 b levels of in
    let pairs : map pair_of warm.rows ≡ map pair_of b.rows = pairs_passed after_warm_start 1 b in
    ap (after_overlapping_passes (ROUNDS - 1) (take early_levels levels) across (drop early_levels levels) after_round) started
    ∙ sym (passes_by_overlap after_round warm levels across early_levels (subst (λ ps. AreLevels ps levels) (sym pairs) of)
    (subst (λ ps. DoLateAndEarly ps (take early_levels levels) (drop early_levels levels) across) (sym pairs) done) (ROUNDS - 1))
    ∙ ap (passes ROUNDS after_round) (one_pass b)
  where
    -- one pass is the pass along the rows
    one_pass : (x : Batch) → passes 1 after_warm_start x ≡ pass after_warm_start x.bodies x.rows
    one_pass x =
        passes_more 0 after_warm_start x ∙ ap (λ (y : Batch). pass after_warm_start y.bodies y.rows) (sym (passes_none after_warm_start x))
