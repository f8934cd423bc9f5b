-- The bundle of each level.
use Rattle.std.proofs.Common.{◌≡◌, ℕ, zero, suc, ◌<◌, List, [], ◌∷◌, ◌++◌, length, refl, sym, ap, subst, arith}
use Rattle.std.specs.Prelude.{slice_index_or}
use Rattle.pf_levels.specs.Levels.{RowPair}
use Rattle.pf_bundles.specs.Bundle.{AreBundlesOf, Bundle, IsBundleOf}
use Rattle.pf_bundles.specs.LaneRow.{LaneRow}

module _ (pairs : List RowPair) (rows : List LaneRow) where
  -- there are as many bundles as levels
  pub as_many : (levels : List (List ℕ)) (bundles : List Bundle) → AreBundlesOf pairs rows levels bundles → length bundles ≡ length levels
  as_many [] [] are = refl
  as_many [] (bundle ∷ bundles) are = absurd are
  as_many (level ∷ levels) [] are = absurd are
  as_many (level ∷ levels) (bundle ∷ bundles) are = ap suc (as_many levels bundles are.1)

  at_index : (levels : List (List ℕ)) (bundles : List Bundle) → AreBundlesOf pairs rows levels bundles
      → (i : ℕ) (level : List ℕ) (bundle : Bundle) → i < length levels
      → IsBundleOf pairs rows (slice_index_or levels i level) (slice_index_or bundles i bundle)
  at_index [] [] are i level bundle h = absurd (omega arith)
  at_index [] (b ∷ bundles) are i level bundle h = absurd are
  at_index (l ∷ levels) [] are i level bundle h = absurd are
  at_index (l ∷ levels) (b ∷ bundles) are zero level bundle h = are.0
  at_index (l ∷ levels) (b ∷ bundles) are (suc i) level bundle h = at_index levels bundles are.1 i level bundle (omega (arith, h))

  -- the bundle at an index is that of the level there
  pub bundle_at : (levels : List (List ℕ)) (bundles : List Bundle) (i : ℕ) (level : List ℕ) (bundle : Bundle)
      → AreBundlesOf pairs rows levels bundles → i < length levels
      → level ≡ slice_index_or levels i level → bundle ≡ slice_index_or bundles i bundle
      → IsBundleOf pairs rows level bundle
  bundle_at levels bundles i level bundle are h level_is bundle_is =
      subst (λ x. IsBundleOf pairs rows x bundle) (sym level_is)
      (subst (λ x. IsBundleOf pairs rows (slice_index_or levels i level) x) (sym bundle_is) (at_index levels bundles are i level bundle h))

  -- a level and its bundle more
  pub one_more : (levels : List (List ℕ)) (bundles : List Bundle) (level : List ℕ) (bundle : Bundle) → AreBundlesOf pairs rows levels bundles
      → IsBundleOf pairs rows level bundle → AreBundlesOf pairs rows (levels ++ level ∷ []) (bundles ++ bundle ∷ [])
  one_more [] [] level bundle are is = (is, tt)
  one_more [] (b ∷ bundles) level bundle are is = absurd are
  one_more (l ∷ levels) [] level bundle are is = absurd are
  one_more (l ∷ levels) (b ∷ bundles) level bundle are is = (are.0, one_more levels bundles level bundle are.1 is)
