-- Passes overlap: the late levels of one and the early levels of the next are solved together.
use Rattle.std.proofs.Common.{◌≡◌, ◌∙◌, ℕ, zero, suc, ◌+◌, ◌<◌, List, drop, length, map, refl, sym, ap, subst, take, arith}
use Rattle.std.proofs.lemmas.List.{length-map, take-append-drop}
use Rattle.std.proofs.lemmas.List.Elements.{All-drop, All-take}
use Rattle.std.proofs.lemmas.List.Folds.{fold-map}
use Rattle.std.proofs.lemmas.List.Sums.{fold-append}
use Rattle.std.specs.List.{concat, fold, range_with_len}
use Rattle.std.specs.Prelude.{All}
use Rattle.pf_levels.specs.Levels.{AreLevels, IsLevel, IsOrder, IsReordering, RowPair, ShareNoBodyAt, pair_of}
use Rattle.pf_levels.specs.Order.{row_pair_at, place_at}
use Rattle.pf_levels.specs.Overlap.{AreLevelsInOrder, late_then_early}
use Rattle.pf_levels.proofs.InOrder.{AreDistinct, all_places, apart_by_places, concat_places, late_early_distinct, levels_by_places, places_apart, within_order}
use Rattle.pf_solver.specs.Laws.{solved_at}
use Rattle.pf_solver.specs.Order.{AreLevelsOf, DoLateAndEarly, after_overlapping_passes, passes_in_levels, solved_at_once, solved_by_levels}
use Rattle.pf_solver.specs.Velocities.{Batch, Step, passes}
use Rattle.pf_solver.proofs.Commute.{commute, pairs_kept}
use Rattle.pf_solver.proofs.Levels.{by_levels, pairs_after, passes_by_levels}
use Rattle.pf_solver.proofs.Reorder.{reordered}

module _ (step : Step) where
  -- ---- levels of rows in another order

  module _ (pairs : List RowPair) (order : List ℕ) (distinct : AreDistinct order) where
    -- the step of the row that has this number in the order
    abbrev step_of : Batch → ℕ → Batch
    step_of b k = solved_at step b (place_at order k)

    commutes : (b : Batch) (p q : ℕ) → map pair_of b.rows ≡ pairs → p < q → q < length order
        → ShareNoBodyAt (map (row_pair_at pairs) order) p q → step_of (step_of b q) p ≡ step_of (step_of b p) q
    commutes b p q is less within apart =
        let here : p < length order = omega (arith, less, within) in
        let far = apart_by_places pairs order p q here within apart in
        sym (commute step b (place_at order q) (place_at order p) (places_apart order p q distinct (omega (arith, less)) here within)
        (subst (λ ps. ShareNoBodyAt ps (place_at order p) (place_at order q)) (sym is) far))

    -- rows that keep the order of each body's rows
    in_order : (numbers : List ℕ) (b : Batch) → map pair_of b.rows ≡ pairs → IsOrder (map (row_pair_at pairs) order) numbers
        → fold (solved_at step) b (map (place_at order) numbers) ≡ fold (solved_at step) b order
    in_order numbers b are is =
        fold-map (solved_at step) (place_at order) b numbers
        ∙ reordered step_of (map (row_pair_at pairs) order) (λ (x : Batch). map pair_of x.rows ≡ pairs) (length order)
        (λ x p same. pairs_kept step x (place_at order p) ∙ same) commutes (length order) 0 numbers b (omega arith) are
        (subst (λ n. IsReordering (range_with_len 0 n) numbers) (length-map order (row_pair_at pairs)) is.all) is.keeps
        ∙ sym (fold-map (solved_at step) (place_at order) b (range_with_len 0 (length order)))
        ∙ ap (fold (solved_at step) b) (all_places order)

    -- levels of rows in an order are solved as that order
    levels_in_order : (levels : List (List ℕ)) (b : Batch) → map pair_of b.rows ≡ pairs → AreLevelsInOrder pairs order levels
        → solved_by_levels levels step b ≡ fold (solved_at step) b order
    levels_in_order levels b are of =
        let places = map (map (place_at order)) of.numbered in
        let apart = levels_by_places pairs order distinct of.numbered (within_order pairs order of.numbered of.are) of.are.apart in
        ap (λ ls. solved_by_levels ls step b) of.places
        ∙ by_levels step places b (subst (λ ps. All (IsLevel ps) places) (sym are) apart)
        ∙ ap (fold (solved_at step) b) (concat_places order of.numbered)
        ∙ in_order (concat of.numbered) b are of.are.order

  -- the pairs stay
  pairs_by_levels : (levels : List (List ℕ)) (b : Batch) → All (IsLevel (map pair_of b.rows)) levels
      → map pair_of (solved_by_levels levels step b).rows ≡ map pair_of b.rows
  pairs_by_levels levels b apart =
      ap (λ (x : Batch). map pair_of x.rows) (by_levels step levels b apart) ∙ pairs_after step (concat levels) b

  -- levels of rows that are listed as late ones and then early ones do the late levels and then the early ones
  pub late_and_early : (pairs : List RowPair) (levels across : List (List ℕ)) (early : ℕ) (b : Batch) → AreLevels pairs levels
      → AreLevelsInOrder pairs (late_then_early early levels) across → map pair_of b.rows ≡ pairs
      → solved_by_levels across step b ≡ solved_by_levels (take early levels) step (solved_by_levels (drop early levels) step b)
  late_and_early pairs levels across early b are of is =
      let first = take early levels in
      let late = drop early levels in
      let late_apart = subst (λ ps. All (IsLevel ps) late) (sym is) (All-drop (IsLevel pairs) early levels are.apart) in
      let then = pairs_by_levels late b late_apart ∙ is in
      let first_apart = subst (λ ps. All (IsLevel ps) first) (sym then) (All-take (IsLevel pairs) early levels are.apart) in
      levels_in_order pairs (late_then_early early levels) (late_early_distinct pairs levels are early) across b is of
      ∙ fold-append (solved_at step) b (concat late) (concat first)
      ∙ ap (λ x. fold (solved_at step) x (concat first)) (sym (by_levels step late b late_apart))
      ∙ sym (by_levels step first (solved_by_levels late step b) first_apart)

  -- ---- passes that overlap

  module _ (b : Batch) (levels across : List (List ℕ)) (early : ℕ) (of : AreLevelsOf b levels)
      (done : DoLateAndEarly (map pair_of b.rows) (take early levels) (drop early levels) across) where
    abbrev first : List (List ℕ)
    first = take early levels

    abbrev late : List (List ℕ)
    late = drop early levels

    -- the early levels and then the late ones are all
    in_two : (x : Batch) → solved_by_levels levels step x ≡ solved_by_levels late step (solved_by_levels first step x)
    in_two x =
        ap (λ ls. solved_by_levels ls step x) (sym (take-append-drop early levels))
        ∙ fold-append (λ now level. solved_at_once level step now) x first late

    -- the pairs stay
    pairs_first : (x : Batch) → map pair_of x.rows ≡ map pair_of b.rows → map pair_of (solved_by_levels first step x).rows ≡ map pair_of b.rows
    pairs_first x is =
        pairs_by_levels first x (subst (λ ps. All (IsLevel ps) first) (sym is) (All-take (IsLevel (map pair_of b.rows)) early levels of.apart)) ∙ is

    pairs_late : (x : Batch) → map pair_of x.rows ≡ map pair_of b.rows → map pair_of (solved_by_levels late step x).rows ≡ map pair_of b.rows
    pairs_late x is =
        pairs_by_levels late x (subst (λ ps. All (IsLevel ps) late) (sym is) (All-drop (IsLevel (map pair_of b.rows)) early levels of.apart)) ∙ is

    pairs_across : (n : ℕ) (x : Batch) → map pair_of x.rows ≡ map pair_of b.rows
        → map pair_of (passes_in_levels n across step x).rows ≡ map pair_of b.rows
    pairs_across zero x is = is
    pairs_across (suc n) x is =
        let before = passes_in_levels n across step x in
        let still = pairs_across n x is in
        ap (λ (y : Batch). map pair_of y.rows) (done step before still)
        ∙ pairs_first (solved_by_levels late step before) (pairs_late before still)

    -- one pass more, by levels
    by_overlap : (n : ℕ) → passes_in_levels (suc n) levels step b ≡ after_overlapping_passes n first across late step b
    by_overlap zero = in_two b
    by_overlap (suc n) =
        let now = passes_in_levels n across step (solved_by_levels first step b) in
        ap (solved_by_levels levels step) (by_overlap n)
        ∙ in_two (solved_by_levels late step now)
        ∙ ap (solved_by_levels late step) (sym (done step now (pairs_across n (solved_by_levels first step b) (pairs_first b refl))))

    -- passes that overlap are passes along the list
    pub passes_by_overlap : (n : ℕ) → passes (n + 1) step b ≡ after_overlapping_passes n first across late step b
    passes_by_overlap n =
        let more : n + 1 ≡ suc n = omega arith in
        sym (passes_by_levels step (n + 1) b levels of)
        ∙ ap (λ m. passes_in_levels m levels step b) more
        ∙ by_overlap n
