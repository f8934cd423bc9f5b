-- Passes level by level are passes along the list.
use Rattle.std.proofs.Common.{◌≡◌, ◌∙◌, ℕ, zero, suc, List, [], ◌∷◌, length, map, refl, sym, ap, subst}
use Rattle.std.proofs.lemmas.List.Elements.{All-head, All-tail}
use Rattle.std.proofs.lemmas.List.Sums.{fold-append}
use Rattle.std.specs.List.{concat, fold, range_with_len}
use Rattle.std.specs.Prelude.{All}
use Rattle.pf_solver.specs.Laws.{solved_at}
use Rattle.pf_levels.specs.Levels.{AreLevels, IsLevel, pair_of}
use Rattle.pf_solver.specs.Order.{AreLevelsOf, passes_in_levels, solved_by_levels}
use Rattle.pf_solver.specs.Velocities.{Batch, Step, passes}
use Rattle.pf_solver.proofs.AtOnce.{level_at_once}
use Rattle.pf_solver.proofs.Commute.{pairs_kept}
use Rattle.pf_solver.proofs.OneList.{pass_behind}
use Rattle.pf_solver.proofs.Reorder.{pass_in_order}

module _ (step : Step) where
  -- the pairs stay
  pub pairs_after : (order : List ℕ) (b : Batch) → map pair_of (fold (solved_at step) b order).rows ≡ map pair_of b.rows
  pairs_after [] b = refl
  pairs_after (p ∷ order) b = pairs_after order (solved_at step b p) ∙ pairs_kept step b p

  pub pairs_passed : (n : ℕ) (b : Batch) → map pair_of (passes n step b).rows ≡ map pair_of b.rows
  unfolding passes
  pairs_passed zero b = refl
  pairs_passed (suc n) b =
      let before = passes n step b in
      ap (λ (x : Batch). map pair_of x.rows) (sym (pass_behind step before.bodies [] before.rows))
      ∙ pairs_after (range_with_len 0 (length before.rows)) before ∙ pairs_passed n b

  -- level by level is row by row
  pub by_levels : (levels : List (List ℕ)) (b : Batch) → All (IsLevel (map pair_of b.rows)) levels
      → solved_by_levels levels step b ≡ fold (solved_at step) b (concat levels)
  by_levels [] b apart = refl
  by_levels (g ∷ levels) b apart =
      let pairs = map pair_of b.rows in
      let next = fold (solved_at step) b g in
      ap (solved_by_levels levels step) (level_at_once step b g (All-head (IsLevel pairs) g levels apart))
      ∙ by_levels levels next
      (subst (λ ps. All (IsLevel ps) levels) (sym (pairs_after g b)) (All-tail (IsLevel pairs) g levels apart))
      ∙ sym (fold-append (solved_at step) b g (concat levels))

  pub passes_by_levels : (n : ℕ) (b : Batch) (levels : List (List ℕ)) → AreLevelsOf b levels
      → passes_in_levels n levels step b ≡ passes n step b
  unfolding passes
  passes_by_levels zero b levels of = refl
  passes_by_levels (suc n) b levels of =
      let before = passes n step b in
      let still : AreLevelsOf before levels = subst (λ ps. AreLevels ps levels) (sym (pairs_passed n b)) of in
      ap (solved_by_levels levels step) (passes_by_levels n b levels of)
      ∙ by_levels levels before still.apart ∙ pass_in_order step before (concat levels) still.order
