-- Bodies that are each alone, and the labels that a union-find leaves.
use Rattle.std.proofs.Common.{◌≡◌, ◌∙◌, ℕ, ◌<◌, ◌≤◌, ◌==◌, List, [], ◌∷◌, ◌++◌, length, map, take, get_or, max, min, refl, sym, ap, subst, arith}
use Rattle.std.proofs.lemmas.Bool.{cond_both, eqb-true}
use Rattle.std.proofs.lemmas.List.{take_at}
use Rattle.std.proofs.lemmas.List.FromFn.{get_or-map-range_with_len, get_or-range_with_len, length-map-range_with_len, length-range_with_len}
use Rattle.std.specs.List.{range_with_len}
use Rattle.std.specs.Prelude.{All}
use Rattle.pf_shapes.specs.Scene.{Scene}
use Rattle.pf_shapes.specs.declared.scene.TheConstants.{MAX_BODIES}
use Rattle.pf_manifold.specs.Touches.{Touch}
use Rattle.pf_islands.specs.Forest.{IsDownward, IsForest}
use Rattle.pf_islands.specs.Group.{IsGroups, group, groups, merged_label}
use Rattle.pf_islands.specs.Reach.{connects}

-- each body is its own parent
module _ (n : ℕ) where
  -- the parent at each place
  own_parent : (i : ℕ) → i < length (range_with_len 0 n) → get_or (range_with_len 0 n) i 0 ≡ i
  own_parent i small = get_or-range_with_len 0 n i 0 (omega (arith, length-range_with_len 0 n, small)) ∙ omega arith

  -- no parent is greater
  pub singles_downward : IsDownward (range_with_len 0 n)
  singles_downward i small = let own = own_parent i small in omega (arith, own)

  -- each body is its own root
  pub singles_forest : IsForest (λ i. i) (range_with_len 0 n)
  singles_forest = record { same = own_parent; own = λ i small e. refl }

-- a merged label is not greater
merged_low : (a b label : ℕ) → merged_label a b label ≤ label
merged_low a b label =
    cond_both (label == max a b) (min a b) label (λ x. x ≤ label)
    (λ e. let same = eqb-true label (max a b) e in omega (arith, same)) (λ e. omega arith)

-- a group is labelled by a body that is not greater
pub group_low : (s : Scene) (touches : List Touch) (i : ℕ) → group s touches i ≤ i
unfolding group
group_low s [] i = omega arith
group_low s (t ∷ touches) i =
    let low = group_low s touches i in
    cond_both (connects s t) (merged_label (group s touches t.a) (group s touches t.b) (group s touches i)) (group s touches i)
    (λ x. x ≤ i)
    (λ e. omega (arith, low, merged_low (group s touches t.a) (group s touches t.b) (group s touches i)))
    (λ e. low)

-- each body has a label
pub groups_long : (s : Scene) (touches : List Touch) → length (groups s touches) ≡ length s.fixtures
groups_long s touches = length-map-range_with_len (group s touches) 0 (length s.fixtures)

-- each label is the number of a body
pub groups_named : (s : Scene) (touches : List Touch)
    → All (λ label. label < length (groups s touches)) (groups s touches)
groups_named s touches i d small =
    let long = groups_long s touches in
    let n = length s.fixtures in
    let inside : i < n = omega (arith, long, small) in
    let is = get_or-map-range_with_len (group s touches) 0 n i i d inside (omega arith) in
    let low = group_low s touches i in
    omega (arith, is, low, long, inside)

-- the labels that are left where the parents were lent, linked and written back, lent, flattened and written back
pub names_found : (s : Scene) (touches : List Touch) (len : ℕ) (linked lent flat behind rest : List ℕ)
    → len ≡ length s.fixtures → length linked ≡ len → lent ≡ take len (linked ++ behind)
    → IsForest (group s touches) linked
    → ((root : ℕ → ℕ) → IsForest root lent → flat ≡ map root (range_with_len 0 (length lent)))
    → take len (flat ++ rest) ≡ groups s touches
names_found s touches len linked lent flat behind rest count long back forest flattened =
    let lent_is = back ∙ take_at linked behind len long in
    let lent_long = ap length lent_is ∙ long in
    let flat_is = flattened (group s touches) (subst (IsForest (group s touches)) (sym lent_is) forest) in
    let flat_long = ap length flat_is ∙ length-map-range_with_len (group s touches) 0 (length lent) ∙ lent_long in
    take_at flat rest len flat_long ∙ flat_is
    ∙ ap (λ n. map (group s touches) (range_with_len 0 n)) (lent_long ∙ count)

-- these labels are groups of the scene
pub found_are_groups : (s : Scene) (touches : List Touch) (labels : List ℕ) → length s.fixtures ≤ MAX_BODIES
    → labels ≡ groups s touches → IsGroups labels
found_are_groups s touches labels few are = record {
  few = let long = ap length are ∙ groups_long s touches in omega (arith, long, few);
  labelled = subst (λ ns. All (λ label. label < length ns) ns) (sym are) (groups_named s touches);
}
