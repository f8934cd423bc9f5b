-- Chains of contacts, and the labels of the groups that they lead through.
use Rattle.std.proofs.Common.{◌≡◌, ◌∙◌, inl, inr, ⊎_elim, ℕ, ◌==◌, ◌≤◌, true, List, [], ◌∷◌, max, min, refl, sym, ap, subst, subst₂, arith}
use Rattle.std.proofs.lemmas.Bool.{cases_eq, cases_lt, cond_both, cond-false, cond-true, eq-eqb, eqb-true, ne_eqb}
use Rattle.std.specs.Prelude.{if◌then◌else◌}
use Rattle.pf_shapes.specs.Scene.{Scene}
use Rattle.pf_manifold.specs.Touches.{Touch}
use Rattle.pf_islands.specs.Group.{group, merged_label}
use Rattle.pf_islands.specs.Reach.{AreNeighbours, IsChain, Reaches, connects}
use Rattle.pf_islands.proofs.Starting.{group_low}

-- neighbours in either order
neighbours_turned : (s : Scene) (touches : List Touch) (a b : ℕ) → AreNeighbours s touches a b
    → AreNeighbours s touches b a
neighbours_turned s [] a b h = absurd h
neighbours_turned s (t ∷ touches) a b h =
    ⊎_elim (λ here. inl (here.0, ⊎_elim (λ x. inr x) (λ y. inl y) here.1)) (λ rest. inr (neighbours_turned s touches a b rest)) h

module _ (s : Scene) (touches : List Touch) where
  -- one chain behind another
  joined : (chain : List ℕ) (a b c : ℕ) → IsChain s touches a chain b → Reaches s touches b c → Reaches s touches a c
  joined [] a b c same rest = subst (λ x. Reaches s touches x c) (sym same) rest
  joined (next ∷ chain) a b c along rest =
      let behind = joined chain next b c along.1 rest in
      (next ∷ behind.0, (along.0, behind.1))

  -- by way of a body
  pub reaches_through : (a b c : ℕ) → Reaches s touches a b → Reaches s touches b c → Reaches s touches a c
  reaches_through a b c first rest = joined first.0 a b c first.1 rest

  -- a neighbour is reached
  reaches_next : (a b : ℕ) → AreNeighbours s touches a b → Reaches s touches a b
  reaches_next a b near = (b ∷ [], (near, refl))

  -- a chain the other way round
  turned : (chain : List ℕ) (a b : ℕ) → IsChain s touches a chain b → Reaches s touches b a
  turned [] a b same = ([], sym same)
  turned (next ∷ chain) a b along =
      reaches_through b next a (turned chain next b along.1)
      (reaches_next next a (neighbours_turned s touches a next along.0))

  -- the way back
  pub reaches_back : (a b : ℕ) → Reaches s touches a b → Reaches s touches b a
  reaches_back a b reach = turned reach.0 a b reach.1

-- with one contact point more, a chain is still a chain
chain_more : (s : Scene) (t : Touch) (touches : List Touch) (chain : List ℕ) (a b : ℕ) → IsChain s touches a chain b
    → IsChain s (t ∷ touches) a chain b
chain_more s t touches [] a b same = same
chain_more s t touches (next ∷ chain) a b along = (inr along.0, chain_more s t touches chain next b along.1)

-- and what was reached is still reached
reaches_more : (s : Scene) (t : Touch) (touches : List Touch) (a b : ℕ) → Reaches s touches a b
    → Reaches s (t ∷ touches) a b
reaches_more s t touches a b reach = (reach.0, chain_more s t touches reach.0 a b reach.1)

-- two bodies that reach each other, the greater and the lesser
reaches_lesser : (s : Scene) (touches : List Touch) (x y : ℕ) → Reaches s touches x y
    → Reaches s touches (max x y) (min x y)
reaches_lesser s touches x y reach =
    ⊎_elim
    (λ less. let top : max x y ≡ y = omega (arith, less) in let low : min x y ≡ x = omega (arith, less) in
    subst₂ (Reaches s touches) (sym top) (sym low) (reaches_back s touches x y reach))
    (λ more. let top : max x y ≡ x = omega (arith, more) in let low : min x y ≡ y = omega (arith, more) in
    subst₂ (Reaches s touches) (sym top) (sym low) reach)
    (cases_lt x y)

-- the labels of the bodies of a contact point, where these reach their labels without it
names_reach : (s : Scene) (t : Touch) (touches : List Touch) (x y : ℕ) → connects s t ≡ true
    → Reaches s touches t.a x → Reaches s touches t.b y → Reaches s (t ∷ touches) x y
names_reach s t touches x y joins first second =
    let all = t ∷ touches in
    let back = reaches_back s all t.a x (reaches_more s t touches t.a x first) in
    let on = reaches_more s t touches t.b y second in
    let step : Reaches s (t ∷ touches) t.a t.b = reaches_next s all t.a t.b (inl (joins, inl (refl, refl))) in
    reaches_through s all x t.a y back (reaches_through s all t.a t.b y step on)

-- each body reaches the body that its group is labelled by
pub reaches_name : (s : Scene) (touches : List Touch) (i : ℕ) → Reaches s touches i (group s touches i)
unfolding group
reaches_name s [] i = ([], refl)
reaches_name s (t ∷ touches) i =
    let all = t ∷ touches in
    let x = group s touches t.a in
    let y = group s touches t.b in
    let label = group s touches i in
    let here = reaches_more s t touches i label (reaches_name s touches i) in
    cond_both (connects s t) (merged_label x y label) label (λ n. Reaches s all i n)
    (λ joins.
    cond_both (label == max x y) (min x y) label (λ n. Reaches s all i n)
    (λ e.
    let labels = reaches_lesser s all x y (names_reach s t touches x y joins (reaches_name s touches t.a) (reaches_name s touches t.b)) in
    reaches_through s all i label (min x y) here
    (subst (λ m. Reaches s all m (min x y)) (sym (eqb-true label (max x y) e)) labels))
    (λ e. here))
    (λ e. here)

-- both labels that are merged become the lesser
merged_first : (x y : ℕ) → merged_label x y x ≡ min x y
merged_first x y =
    ⊎_elim (λ e. cond-true _ _ _ (eq-eqb x (max x y) e))
    (λ apart. cond-false _ _ _ (ne_eqb x (max x y) apart) ∙ omega (arith, apart)) (cases_eq x (max x y))

merged_second : (x y : ℕ) → merged_label x y y ≡ min x y
merged_second x y =
    ⊎_elim (λ e. cond-true _ _ _ (eq-eqb y (max x y) e))
    (λ apart. cond-false _ _ _ (ne_eqb y (max x y) apart) ∙ omega (arith, apart)) (cases_eq y (max x y))

-- the bodies of a contact point that connects them are in one group
pub linked_one_name : (s : Scene) (t : Touch) (touches : List Touch) → connects s t ≡ true
    → group s (t ∷ touches) t.a ≡ group s (t ∷ touches) t.b
unfolding group
linked_one_name s t touches joins =
    let x = group s touches t.a in
    let y = group s touches t.b in
    cond-true (connects s t) _ _ joins ∙ merged_first x y ∙ sym (merged_second x y)
    ∙ sym (cond-true (connects s t) _ _ joins)

-- neighbours are in one group
neighbours_one_name : (s : Scene) (touches : List Touch) (a b : ℕ) → AreNeighbours s touches a b
    → group s touches a ≡ group s touches b
unfolding group
neighbours_one_name s [] a b h = absurd h
neighbours_one_name s (t ∷ touches) a b h =
    ⊎_elim
    (λ here.
    let one = linked_one_name s t touches here.0 in
    ⊎_elim
    (λ same. ap (group s (t ∷ touches)) (sym same.0) ∙ one ∙ ap (group s (t ∷ touches)) same.1)
    (λ same. ap (group s (t ∷ touches)) (sym same.1) ∙ sym one ∙ ap (group s (t ∷ touches)) same.0)
    here.1)
    (λ rest.
    ap (λ n. if connects s t then merged_label (group s touches t.a) (group s touches t.b) n else n)
    (neighbours_one_name s touches a b rest))
    h

-- a chain stays in one group
chain_one_name : (s : Scene) (touches : List Touch) (chain : List ℕ) (a b : ℕ) → IsChain s touches a chain b
    → group s touches a ≡ group s touches b
chain_one_name s touches [] a b same = ap (group s touches) same
chain_one_name s touches (next ∷ chain) a b along =
    neighbours_one_name s touches a next along.0 ∙ chain_one_name s touches chain next b along.1

-- what is reached is in the same group
pub one_name : (s : Scene) (touches : List Touch) (a b : ℕ) → Reaches s touches a b
    → group s touches a ≡ group s touches b
one_name s touches a b reach = chain_one_name s touches reach.0 a b reach.1

-- what is in the same group is reached
pub reaches_one : (s : Scene) (touches : List Touch) (a b : ℕ) → group s touches a ≡ group s touches b
    → Reaches s touches a b
reaches_one s touches a b same =
    reaches_through s touches a (group s touches b) b
    (subst (Reaches s touches a) same (reaches_name s touches a))
    (reaches_back s touches b (group s touches b) (reaches_name s touches b))

-- the label is the least body that is reached
pub name_least : (s : Scene) (touches : List Touch) (i j : ℕ) → Reaches s touches i j → group s touches i ≤ j
name_least s touches i j reach =
    let same = one_name s touches i j reach in
    let low = group_low s touches j in
    omega (arith, same, low)
