-- Parents that are roots, body by body.
use Rattle.std.proofs.Common.{◌≡◌, ◌∙◌, ⊎_elim, ◌⊎◌, inl, inr, ℕ, ◌+◌, ◌<◌, Bool, false, List, ◌++◌, length, filter, take, get_or, set, sym, ap, arith}
use Rattle.std.proofs.lemmas.Bool.{cases_eq, cases_lt}
use Rattle.std.proofs.lemmas.List.{get_or-set_other, length-set, take_at}
use Rattle.std.specs.List.{range_with_len}
use Rattle.pf_shapes.specs.Scene.{Scene}
use Rattle.pf_manifold.specs.Touches.{Touch}
use Rattle.pf_islands.specs.Forest.{OthersAreRoots, IsDownward, IsForest}
use Rattle.pf_islands.specs.Group.{OthersAreAlone, group}
use Rattle.pf_islands.proofs.Roots.{flat_more}
use Rattle.pf_islands.proofs.Starting.{group_low}

module _ (is_listed : ℕ → Bool) (root : ℕ → ℕ) where
  -- the parents of the bodies below a number, and of those that are not listed, are their roots
  abbrev pub AreFlat : List ℕ → ℕ → Type 0
  AreFlat parents k =
      (i : ℕ) → i < length parents → (i < k) ⊎ (is_listed i ≡ false) → get_or parents i 0 ≡ root i

  -- at first each other body is its own parent
  pub none_flat : (parents : List ℕ) → IsForest root parents
      → ((i : ℕ) → i < length parents → is_listed i ≡ false → get_or parents i 0 ≡ i) → AreFlat parents 0
  none_flat parents forest own = λ i small either.
      ⊎_elim (λ below. absurd (omega (arith, below)))
      (λ other. let is = own i small other in is ∙ sym (forest.own i small is))
      either

  -- a body that is not listed
  pub flat_other : (parents : List ℕ) (k : ℕ) → is_listed k ≡ false → AreFlat parents k → AreFlat parents (k + 1)
  flat_other parents k other before = λ i small either.
      ⊎_elim
      (λ below. ⊎_elim (λ e. before i small (inr (ap is_listed e ∙ other)))
      (λ apart. before i small (inl (omega (arith, below, apart)))) (cases_eq i k))
      (λ unlisted. before i small (inr unlisted))
      either

  -- the parent of a body becomes the parent of its parent
  pub flat_next : (parents : List ℕ) (place : ℕ) → place < length parents → IsDownward parents → IsForest root parents
      → AreFlat parents place → AreFlat (set parents place (get_or parents (get_or parents place 0) 0)) (place + 1)
  flat_next parents place within down forest before = λ i small either.
      let above = get_or parents (get_or parents place 0) 0 in
      let long = length-set parents place above in
      let inside : i < length parents = omega (arith, small, long) in
      ⊎_elim
      (λ below.
      flat_more parents place within down root forest
      (λ j less. before j (omega (arith, less, within)) (inl less)) i below)
      (λ beyond.
      get_or-set_other parents place i above 0 (λ e. omega (arith, e, beyond))
      ∙ ⊎_elim (λ below. absurd (omega (arith, below, beyond))) (λ other. before i inside (inr other)) either)
      (cases_lt i (place + 1))

-- where bodies are alone in their groups, they are their own parents
pub others_own : (s : Scene) (touches : List Touch) (len : ℕ) (linked lent behind numbers : List ℕ)
    → len ≡ length s.fixtures → length linked ≡ len → lent ≡ take len (linked ++ behind)
    → IsForest (group s touches) linked → IsDownward linked → OthersAreAlone s touches numbers
    → OthersAreRoots lent numbers
others_own s touches len linked lent behind numbers count long back forest down others =
    let lent_is = back ∙ take_at linked behind len long in
    let many : length s.fixtures ≡ length lent = sym count ∙ sym long ∙ sym (ap length lent_is) in
    record {
      is_listed = others.is_listed;
      listed = others.listed ∙ ap (λ n. filter others.is_listed (range_with_len 0 n)) many;
      others = λ i small other.
          ap (λ ps. get_or ps i 0) lent_is
          ∙ own_parent i (omega (arith, small, ap length lent_is)) (others.others i (omega (arith, small, many)) other);
    }
  where
    own_parent : (i : ℕ) → i < length linked → group s touches i ≡ i → get_or linked i 0 ≡ i
    own_parent i small alone =
        let parent = get_or linked i 0 in
        let low = down i small in
        let same = forest.same i small in
        let least = group_low s touches parent in
        omega (arith, low, same, least, alone)
