-- The walk along contact points, the last first, that links their bodies.
use Rattle.std.proofs.Common.{◌≡◌, ◌∙◌, ⊎_elim, ℕ, true, false, not, ◌&&◌, List, [], ◌∷◌, ◌++◌, max, get_or, append_assoc, refl, sym, ap, ap₂, subst, arith}
use Rattle.std.proofs.lemmas.Bool.{cases_Bool, cases_eq, cond_both, cond-false, cond-true, eq-eqb, ne_eqb}
use Rattle.std.proofs.lemmas.List.{map-append}
use Rattle.std.proofs.lemmas.List.Elements.{All-cons, All-head, All-nil, All-tail}
use Rattle.std.specs.Prelude.{All}
use Rattle.pf_shapes.specs.Scene.{Scene, is_static_at}
use Rattle.pf_manifold.specs.Touches.{Touch}
use Rattle.pf_islands.specs.Forest.{IsForest}
use Rattle.pf_islands.specs.Group.{group, merged_label}
use Rattle.pf_islands.specs.Reach.{connects}
use Rattle.pf_islands.specs.Settled.{touches_of}
use Rattle.pf_islands.proofs.Chains.{linked_one_name}

-- roots that agree
forest_agree : (f g : ℕ → ℕ) (parents : List ℕ) → ((i : ℕ) → f i ≡ g i) → IsForest f parents → IsForest g parents
forest_agree f g parents agree forest = record {
  same = λ i small. sym (agree (get_or parents i 0)) ∙ forest.same i small ∙ agree i;
  own = λ i small e. sym (agree i) ∙ forest.own i small e;
}

-- the last of the points that are left is passed
pub passed_more : (all rest less passed : List Touch) (t : Touch) → rest ≡ less ++ t ∷ [] → all ≡ rest ++ passed
    → all ≡ less ++ t ∷ passed
passed_more all rest less passed t step were =
    were ∙ ap (λ xs. xs ++ passed) step ∙ append_assoc less (t ∷ []) passed

-- and so is the last of the points with places that are left
pub point_more : (rest less : List (ℕ × Touch)) (m : ℕ × Touch) → rest ≡ less ++ m ∷ []
    → touches_of rest ≡ touches_of less ++ m.1 ∷ []
point_more rest less m step = ap touches_of step ∙ map-append (λ (n : ℕ × Touch). n.1) less (m ∷ [])

-- what holds of all points holds of those before the last
pub all_before : (P : ℕ × Touch → Type 0) (rest less : List (ℕ × Touch)) (m : ℕ × Touch) → rest ≡ less ++ m ∷ [] → All P rest
    → All P less
all_before P rest less m step all = before less (subst (All P) step all)
  where
    before : (ms : List (ℕ × Touch)) → All P (ms ++ m ∷ []) → All P ms
    before [] h = All-nil P
    before (n ∷ ms) h =
        All-cons P n ms (All-head P n (ms ++ m ∷ []) h) (before ms (All-tail P n (ms ++ m ∷ []) h))

-- all points are passed
pub passed_all : (all rest passed : List Touch) → rest ≡ [] → all ≡ rest ++ passed → passed ≡ all
passed_all all rest passed none were = sym (were ∙ ap (λ xs. xs ++ passed) none)

module _ (s : Scene) (t : Touch) (passed : List Touch) (parents : List ℕ) where
  -- a point that does not connect its bodies
  pub forest_unlinked : connects s t ≡ false → IsForest (group s passed) parents
      → IsForest (group s (t ∷ passed)) parents
  unfolding group
  forest_unlinked apart =
      forest_agree (group s passed) (group s (t ∷ passed)) parents (λ i. sym (cond-false (connects s t) _ _ apart))

  -- a point that connects its bodies, a and b
  pub forest_of_link : (a b : ℕ) → a ≡ t.a → b ≡ t.b → connects s t ≡ true
      → IsForest (λ i. merged_label (group s passed a) (group s passed b) (group s passed i)) parents
      → IsForest (group s (t ∷ passed)) parents
  unfolding group
  forest_of_link a b first second joined =
      forest_agree (λ i. merged_label (group s passed a) (group s passed b) (group s passed i)) (group s (t ∷ passed)) parents
      (λ i.
      ap (λ x. merged_label (group s passed x) (group s passed b) (group s passed i)) first
      ∙ ap (λ y. merged_label (group s passed t.a) (group s passed y) (group s passed i)) second
      ∙ sym (cond-true (connects s t) _ _ joined))

-- the label of one group does not change where the group is merged with itself
merged_one : (x y label : ℕ) → x ≡ y → merged_label x y label ≡ label
merged_one x y label same =
    ⊎_elim
    (λ e. cond-true _ _ _ (eq-eqb label (max x y) e) ∙ omega (arith, e, same))
    (λ apart. cond-false _ _ _ (ne_eqb label (max x y) apart)) (cases_eq label (max x y))

-- a point of two bodies of one group changes no label
of_one_group : (s : Scene) (t : Touch) (passed : List Touch) (i : ℕ) → group s passed t.a ≡ group s passed t.b
    → group s (t ∷ passed) i ≡ group s passed i
unfolding group
of_one_group s t passed i same =
    cond_both (connects s t) _ _ (λ label. label ≡ group s passed i) (λ _. merged_one _ _ _ same) (λ _. refl)

-- a point of these bodies changes no label
abbrev pub ChangesNone : Scene → ℕ → ℕ → List Touch → Type 0
ChangesNone s a b passed =
    (t : Touch) → t.a ≡ a → t.b ≡ b → (i : ℕ) → group s (t ∷ passed) i ≡ group s passed i

-- as with a body and itself
pub none_of_one : (s : Scene) (a : ℕ) (passed : List Touch) → ChangesNone s a a passed
none_of_one s a passed = λ t first second i.
    of_one_group s t passed i (ap (group s passed) (first ∙ sym second))

-- and with the bodies of the point before
pub none_of_last : (s : Scene) (t : Touch) (passed : List Touch) (a b : ℕ) → t.a ≡ a → t.b ≡ b
    → ChangesNone s a b (t ∷ passed)
unfolding group
none_of_last s t passed a b first second = λ u u_first u_second i.
    let one = u_first ∙ sym first in
    let two = u_second ∙ sym second in
    ⊎_elim
    (λ joins.
    of_one_group s u (t ∷ passed) i
    (ap (group s (t ∷ passed)) one ∙ linked_one_name s t passed joins ∙ ap (group s (t ∷ passed)) (sym two)))
    (λ apart.
    cond-false (connects s u) _ _
    (ap₂ (λ x y. not (is_static_at s x) && not (is_static_at s y)) one two ∙ apart))
    (cases_Bool (connects s t))

-- so such a point is passed over
pub forest_passed : (s : Scene) (t : Touch) (passed : List Touch) (parents : List ℕ) (a b : ℕ) → t.a ≡ a → t.b ≡ b
    → ChangesNone s a b passed → IsForest (group s passed) parents → IsForest (group s (t ∷ passed)) parents
forest_passed s t passed parents a b first second none =
    forest_agree (group s passed) (group s (t ∷ passed)) parents (λ i. sym (none t first second i))
