-- Passes level by level, each level by its bundle.
use Rattle.std.proofs.Common.{◌≡◌, ◌∙◌, ℕ, zero, suc, ◌+◌, ◌<◌, ◌≤◌, Some, List, [], ◌∷◌, drop, length, take, sym, ap, subst, arith}
use Rattle.std.proofs.lemmas.List.Elements.{All-get_or, All-weaker}
use Rattle.std.proofs.lemmas.List.{length-drop, length-take, take_all}
use Rattle.std.proofs.lemmas.Option.{none-some, slice_get-get_or}
use Rattle.std.specs.Prelude.{All, slice_get, slice_index_or}
use Rattle.pf_bundles.specs.Bundle.{Bundle}
use Rattle.pf_bundles.specs.LaneRow.{LaneRow}
use Rattle.pf_bundles.specs.Unknowns.{Unknowns}
use Rattle.pf_solver.specs.Order.{solved_by_levels}
use Rattle.pf_solver.specs.Velocities.{Batch, Step}
use Rattle.pf_batches.specs.Unknowns.{AreBundlesFor, AreUnknownsAfter, AreUnknownsOf, AreSeatsOf, HoldEach, IsBundleOn, unknowns_at_once}
use Rattle.pf_bundles.specs.Seats.{AreAsMany}
use Rattle.pf_batches.proofs.Bundles.{seats_stay}
use Rattle.pf_batches.proofs.Levels.{level_more}

-- a bundle of a list, on numbers that are as many as before
bundle_stays : (rows : List LaneRow) (before now : Unknowns) (bundle : Bundle) → AreAsMany before now
    → IsBundleOn rows before bundle → IsBundleOn rows now bundle
bundle_stays rows before now bundle many on =
    record { seats = seats_stay before now bundle.seats many on.seats; places = on.places; held = on.held }

pub bundle_at : (rows : List LaneRow) (before now : Unknowns) (bundles : List Bundle) (i : ℕ) (bundle : Bundle)
    → i < length bundles → bundle ≡ slice_index_or bundles i bundle → AreAsMany before now
    → All (IsBundleOn rows before) bundles → IsBundleOn rows now bundle
bundle_at rows before now bundles i bundle within is many all =
    bundle_stays rows before now bundle many
    (subst (IsBundleOn rows before) (sym is) (All-get_or (IsBundleOn rows before) bundles i bundle within all))

pub bundles_stay : (rows : List LaneRow) (before now : Unknowns) (bundles : List Bundle) → AreAsMany before now
    → All (IsBundleOn rows before) bundles → All (IsBundleOn rows now) bundles
bundles_stay rows before now bundles many all =
    All-weaker (IsBundleOn rows before) (IsBundleOn rows now) (λ bundle. bundle_stays rows before now bundle many) bundles all

pub many_after : (before now after : Unknowns) → AreAsMany before now → AreAsMany now after → AreAsMany before after
many_after before now after a b = record {
  velocities = b.velocities ∙ a.velocities;
  impulses = b.impulses ∙ a.impulses;
}

-- the bundles up to this one are solved
module _ (step : Step) (rows : List LaneRow) (bundles : List Bundle) (before : Unknowns) where
  abbrev pub AreSolvedTo : ℕ → Unknowns → Type 0
  AreSolvedTo i now =
      (b after : Batch) (levels : List (List ℕ))
      → AreBundlesFor b levels rows bundles → AreUnknownsAfter b after before
      → AreUnknownsAfter b (solved_by_levels (take i levels) step after) now

  pub bundle_more : (i : ℕ) (bundle : Bundle) (now after : Unknowns) → i < length bundles → bundle ≡ slice_index_or bundles i bundle
      → ((b : Batch) (level : List ℕ) → AreUnknownsOf b now → AreSeatsOf b.rows level bundle.seats → HoldEach rows b.rows
      → after ≡ unknowns_at_once level step b.rows now)
      → AreSolvedTo i now → AreSolvedTo (i + 1) after
  bundle_more i bundle now after within is solved up b x levels for start =
      let done = up b x levels for start in
      let level = slice_index_or levels i [] in
      let in_levels : i < length levels = omega (arith, within, for.count) in
      let here : slice_get levels i ≡ Some level = slice_get-get_or levels i [] in_levels in
      let own : slice_get bundles i ≡ Some bundle = slice_get-get_or bundles i bundle within ∙ ap (λ x. Some x) (sym is) in
      subst (AreUnknownsAfter b (solved_by_levels (take (i + 1) levels) step x))
      (sym (solved b level done.unknowns (for.seats i level bundle here own) for.hold))
      (level_more step b levels x i [] now in_levels done)

  -- after all bundles all levels are solved
  pub all_solved : (i : ℕ) (now : Unknowns) → length bundles < i + 1 → AreSolvedTo i now
      → (b after : Batch) (levels : List (List ℕ))
      → AreBundlesFor b levels rows bundles → AreUnknownsAfter b after before
      → AreUnknownsAfter b (solved_by_levels levels step after) now
  all_solved i now over up b after levels for start =
      subst (λ some. AreUnknownsAfter b (solved_by_levels some step after) now) (take_all i levels (omega (arith, over, for.count)))
      (up b after levels for start)

-- what stands in the first part of a list stands at the same place in the list
in_first : {X : Type 0} (xs : List X) (n i : ℕ) (x : X) → slice_get (take n xs) i ≡ Some x → slice_get xs i ≡ Some x
in_first [] zero i x at = at
in_first [] (suc n) i x at = at
in_first (y ∷ xs) zero i x at = absurd (none-some x at)
in_first (y ∷ xs) (suc n) zero x at = at
in_first (y ∷ xs) (suc n) (suc i) x at = in_first xs n i x at

-- what stands in the rest stands behind the first part
in_rest : {X : Type 0} (xs : List X) (n i : ℕ) (x : X) → slice_get (drop n xs) i ≡ Some x → slice_get xs (n + i) ≡ Some x
in_rest [] zero i x at = absurd (none-some x at)
in_rest [] (suc n) i x at = absurd (none-some x at)
in_rest (y ∷ xs) zero i x at =
    let same : i ≡ 0 + i = omega arith in subst (λ k. slice_get (y ∷ xs) k ≡ Some x) same at
in_rest (y ∷ xs) (suc n) i x at =
    let same : suc (n + i) ≡ suc n + i = omega arith in
    subst (λ k. slice_get (y ∷ xs) k ≡ Some x) same (in_rest xs n i x at)

-- the first bundles and the others are those of the first levels and of the others
module _ (b : Batch) (levels : List (List ℕ)) (rows : List LaneRow) (bundles : List Bundle) (early_levels : ℕ)
    (within : early_levels ≤ length bundles) (for : AreBundlesFor b levels rows bundles) where
  pub early_for : AreBundlesFor b (take early_levels levels) rows (take early_levels bundles)
  early_for = record {
    count = omega (arith, length-take early_levels bundles, length-take early_levels levels, for.count);
    seats = λ i level bundle here own.
        for.seats i level bundle (in_first levels early_levels i level here) (in_first bundles early_levels i bundle own);
    hold = for.hold;
  }

  pub late_for : AreBundlesFor b (drop early_levels levels) rows (drop early_levels bundles)
  late_for = record {
    count = omega (arith, length-drop early_levels bundles, length-drop early_levels levels, for.count);
    seats = λ i level bundle here own.
        for.seats (early_levels + i) level bundle (in_rest levels early_levels i level here) (in_rest bundles early_levels i bundle own);
    hold = for.hold;
  }
