-- Writes to the parents of a union-find.
use Rattle.std.proofs.Common.{◌≡◌, ℕ, ◌+◌, ◌<◌, ◌≤◌, ⊎_elim, List, [], ◌∷◌, ◌++◌, length, get_or, set, min, max, refl, sym, ◌∙◌, ap, subst, subst₂, arith}
use Rattle.std.proofs.lemmas.Bool.{cases_eq, cases_lt, eq-eqb, ne_eqb, cond-true, cond-false}
use Rattle.std.proofs.lemmas.List.{get_or-set_same, get_or-set_other, length-set, map-id}
use Rattle.std.proofs.lemmas.List.FromFn.{map-range_with_len_more}
use Rattle.std.specs.List.{range_with_len}
use Rattle.pf_islands.specs.Forest.{IsDownward, IsForest}
use Rattle.pf_islands.specs.Group.{merged_label}

-- a parent is written
module _ (parents : List ℕ) (place above : ℕ) (within : place < length parents) where
  -- what holds of the new parent, and of each other parent as before, holds of each parent
  each_parent : (P : ℕ → ℕ → Type 0) → P place above
      → ((i : ℕ) → i < length parents → (i ≡ place → ⊥) → P i (get_or parents i 0))
      → (i : ℕ) → i < length (set parents place above) → P i (get_or (set parents place above) i 0)
  each_parent P here other i small =
      let long = length-set parents place above in
      ⊎_elim
      (λ e. subst (λ j. P j (get_or (set parents place above) j 0)) (sym e)
      (subst (P place) (sym (get_or-set_same parents place above 0 within)) here))
      (λ apart. subst (P i) (sym (get_or-set_other parents place i above 0 apart))
      (other i (omega (arith, long, small)) apart))
      (cases_eq i place)

  -- a parent that is not greater than its body
  pub downward_set : above ≤ place → IsDownward parents → IsDownward (set parents place above)
  downward_set low down = each_parent (λ i p. p ≤ i) low (λ i small _. down i small)

  -- a parent of the same root
  pub forest_set : (root : ℕ → ℕ) → root above ≡ root place → (above ≡ place → root place ≡ place)
      → IsForest root parents → IsForest root (set parents place above)
  forest_set root same own forest = record {
    same = each_parent (λ i p. root p ≡ root i) same (λ i small _. forest.same i small);
    own = each_parent (λ i p. p ≡ i → root i ≡ i) own (λ i small _. forest.own i small);
  }

-- the parent of a parent is written
module _ (parents : List ℕ) (place : ℕ) (within : place < length parents) (down : IsDownward parents) where
  abbrev parent : ℕ
  parent = get_or parents place 0

  abbrev above : ℕ
  above = get_or parents parent 0

  -- the way up leads to lesser bodies
  pub parent_low : parent ≤ place
  parent_low = down place within

  parent_within : parent < length parents
  parent_within = omega (arith, parent_low, within)

  pub above_low : above ≤ parent
  above_low = down parent parent_within

  -- the way up still does after the write
  pub downward_halved : IsDownward (set parents place above)
  downward_halved = downward_set parents place above within (omega (arith, above_low, parent_low)) down

  module _ (root : ℕ → ℕ) (forest : IsForest root parents) where
    -- the parent of a parent has the same root
    pub same_above : root above ≡ root place
    same_above = forest.same parent parent_within ∙ forest.same place within

    -- each body keeps its root
    pub forest_halved : IsForest root (set parents place above)
    forest_halved =
        forest_set parents place above within root same_above
        (λ e. forest.own place within (omega (arith, e, above_low, parent_low))) forest

    -- where the parents below are roots, the parent of the parent is the root
    above_is_root : ((i : ℕ) → i < place → get_or parents i 0 ≡ root i) → above ≡ root place
    above_is_root flat =
        ⊎_elim
        (λ less. flat parent less ∙ forest.same place within)
        (λ more.
        let e : parent ≡ place = omega (arith, more, parent_low) in
        ap (λ p. get_or parents p 0) e ∙ e ∙ sym (forest.own place within e))
        (cases_lt parent place)

    -- so one parent more is a root
    pub flat_more : ((i : ℕ) → i < place → get_or parents i 0 ≡ root i)
        → (i : ℕ) → i < place + 1 → get_or (set parents place above) i 0 ≡ root i
    flat_more flat i low =
        ⊎_elim
        (λ e. rw e (get_or-set_same parents place above 0 within ∙ above_is_root flat))
        (λ apart. get_or-set_other parents place i above 0 apart ∙ flat i (omega (arith, low, apart)))
        (cases_eq i place)

-- two roots are linked, the greater to the lesser
module _ (parents : List ℕ) (x y : ℕ) (root : ℕ → ℕ) (x_in : x < length parents) (y_in : y < length parents)
    (x_own : root x ≡ x) (y_own : root y ≡ y) where
  -- the roots after the link
  abbrev after : ℕ → ℕ
  after i = merged_label x y (root i)

  -- the greater root is a body
  max_within : max x y < length parents
  max_within = omega (arith, x_in, y_in)

  -- what holds of both roots holds of the greater and of the lesser
  root_at : (P : ℕ → Type 0) → P x → P y → P (max x y) × P (min x y)
  root_at P px py =
      ⊎_elim
      (λ less. let top : max x y ≡ y = omega (arith, less) in let low : min x y ≡ x = omega (arith, less) in
      (subst P (sym top) py, subst P (sym low) px))
      (λ more. let top : max x y ≡ x = omega (arith, more) in let low : min x y ≡ y = omega (arith, more) in
      (subst P (sym top) px, subst P (sym low) py))
      (cases_lt x y)

  -- the greater root is merged into the lesser, and all others stay
  merged_max : merged_label x y (max x y) ≡ min x y
  merged_max = cond-true _ _ _ (eq-eqb (max x y) (max x y) refl)

  merged_min : merged_label x y (min x y) ≡ min x y
  merged_min =
      ⊎_elim
      (λ e. cond-true _ _ _ (eq-eqb (min x y) (max x y) e))
      (λ apart. cond-false _ _ _ (ne_eqb (min x y) (max x y) apart))
      (cases_eq (min x y) (max x y))

  merged_other : (i : ℕ) → (i ≡ max x y → ⊥) → merged_label x y i ≡ i
  merged_other i apart = cond-false _ _ _ (ne_eqb i (max x y) apart)

  -- the link leads to a lesser body
  pub downward_linked : IsDownward parents → IsDownward (set parents (max x y) (min x y))
  downward_linked down = downward_set parents (max x y) (min x y) max_within (omega arith) down

  -- a link gives each body its merged root
  forest_linked : IsForest root parents → IsForest after (set parents (max x y) (min x y))
  forest_linked forest =
      let owns = root_at (λ i. root i ≡ i) x_own y_own in
      let at_max : after (max x y) ≡ min x y = ap (merged_label x y) owns.0 ∙ merged_max in
      let at_min : after (min x y) ≡ min x y = ap (merged_label x y) owns.1 ∙ merged_min in
      record {
        same = each_parent parents (max x y) (min x y) max_within (λ i p. after p ≡ after i) (at_min ∙ sym at_max)
            (λ i small _. ap (merged_label x y) (forest.same i small));
        own = each_parent parents (max x y) (min x y) max_within (λ i p. p ≡ i → after i ≡ i) (λ e. at_max ∙ e)
            (λ i small apart e. ap (merged_label x y) (forest.own i small e) ∙ merged_other i apart);
      }

-- a link of the roots that were found for two bodies, at the greater and the lesser that were computed
pub found_linked : (parents : List ℕ) (x y high low first second : ℕ) (root : ℕ → ℕ)
    → x < length parents → y < length parents → root x ≡ x → root y ≡ y → x ≡ first → y ≡ second
    → high ≡ max x y → low ≡ min x y → IsForest root parents
    → IsForest (λ i. merged_label first second (root i)) (set parents high low)
found_linked parents x y high low first second root x_in y_in x_own y_own one two top least forest =
    let linked = forest_linked parents x y root x_in y_in x_own y_own forest in
    let labelled = subst₂ (λ a b. IsForest (λ i. merged_label a b (root i)) (set parents (max x y) (min x y))) one two linked in
    subst₂ (λ m l. IsForest (λ i. merged_label first second (root i)) (set parents m l)) (sym top) (sym least) labelled

-- the list of numbers, with one more
pub range_more : (n : ℕ) → range_with_len 0 n ++ n ∷ [] ≡ range_with_len 0 (n + 1)
range_more n =
    ap (λ xs. xs ++ n ∷ []) (sym (map-id (range_with_len 0 n)))
    ∙ sym (map-range_with_len_more (λ x. x) 0 n n (omega arith)) ∙ map-id (range_with_len 0 (n + 1))
