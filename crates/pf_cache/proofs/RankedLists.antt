-- Elements in the order of their ranks, read from a place on: contacts, rows and slots.
use Rattle.std.proofs.Common.{◌≡◌, ◌≢◌, ℕ, zero, suc, ◌+◌, ◌≤◌, ◌<◌, ◌==◌, Bool, true, false, List, [], ◌∷◌, length, map, set, refl, sym, ap, ap₂, subst, true≢false, arith}
use Rattle.std.proofs.lemmas.Bool.Decides.{Decides-eqb}
use Rattle.std.proofs.lemmas.List.{drop_more, drop_all}
use Rattle.std.proofs.lemmas.List.Elements.{All-nil, All-cons, All-head}
use Rattle.std.specs.Prelude.{All, drop, get_or, if◌then◌else◌}
use Rattle.pf_manifold.specs.Key.{IsRising}
use Rattle.pf_manifold.proofs.Rising.{rising-weaken, rising-all, rising-drop}

-- elements with their ranks and their values
module _ {X V : Type 0} (ranked : X → ℕ) (value : X → V) where
  -- the value of the element of this rank, or another where there is no such element
  abbrev pub value_or : V → ℕ → List X → V
  value_or v n [] = v
  value_or v n (x ∷ xs) = if ranked x == n then value x else value_or v n xs

  -- an element of another rank has no part
  pub other_rank : (v : V) (n : ℕ) (x : X) (xs : List X) → ranked x < n → value_or v n (x ∷ xs) ≡ value_or v n xs
  other_rank v n x xs below = by (ranked x == n) refl
    where
      by : (t : Bool) → (ranked x == n) ≡ t → (if t then value x else value_or v n xs) ≡ value_or v n xs
      by true e = let same : ranked x ≡ n = (Decides-eqb (ranked x) n).0 e in absurd (omega (arith, same))
      by false e = refl

  -- an element whose rank is too low is passed by
  pub passed : (v : V) (xs : List X) (place least n : ℕ) (d : X) → place < length xs
      → ranked (get_or xs place d) < least → least ≤ n
      → value_or v n (drop (place + 1) xs) ≡ value_or v n (drop place xs)
  passed v xs place least n d within low high =
      rw (drop_more xs place d within)
      (sym (other_rank v n (get_or xs place d) (drop (place + 1) xs) (omega (arith, low))))

  -- the first element has this rank
  pub first_alone : (v : V) (n : ℕ) (x : X) (xs : List X) → ranked x ≡ n → value_or v n (x ∷ xs) ≡ value x
  first_alone v n x xs same = by (ranked x == n) ((Decides-eqb (ranked x) n).1 same)
    where
      by : (t : Bool) → t ≡ true → (if t then value x else value_or v n xs) ≡ value x
      by true e = refl
      by false e = absurd (true≢false (sym e))

  -- where all ranks are above, there is no element of this rank
  none_above : (v : V) (n : ℕ) (xs : List X) → IsRising (suc n) (map ranked xs) → value_or v n xs ≡ v
  none_above v n [] h = refl
  none_above v n (x ∷ xs) h =
      by (ranked x == n) refl
      (none_above v n xs (rising-weaken (suc n) (suc (ranked x)) (map ranked xs) (omega (arith, h.0)) h.1))
    where
      by : (t : Bool) → (ranked x == n) ≡ t → value_or v n xs ≡ v → (if t then value x else value_or v n xs) ≡ v
      by true e behind = let same : ranked x ≡ n = (Decides-eqb (ranked x) n).0 e in absurd (omega (arith, same, h.0))
      by false e behind = behind

  -- from a place where all ranks are at least this one, an element of this rank stands first
  pub found_here : (v : V) (xs : List X) (place n : ℕ) (d : X) → place < length xs
      → ranked (get_or xs place d) ≡ n → value_or v n (drop place xs) ≡ value (get_or xs place d)
  found_here v xs place n d within same =
      rw (drop_more xs place d within) (first_alone v n (get_or xs place d) (drop (place + 1) xs) same)

  -- and if the first element is another, there is none
  pub found_other : (v : V) (xs : List X) (place n : ℕ) (d : X) → place < length xs → IsRising 0 (map ranked xs)
      → All (λ x. n ≤ ranked x) (drop place xs) → (ranked (get_or xs place d) ≡ n → ⊥)
      → value_or v n (drop place xs) ≡ v
  found_other v xs place n d within rising reached other =
      let split = drop_more xs place d within in
      let here = get_or xs place d in
      let behind = drop (place + 1) xs in
      let from = subst (λ ys. IsRising 0 (map ranked ys)) split (rising-drop ranked place xs rising) in
      let above = All-head (λ x. n ≤ ranked x) here behind (subst (All (λ x. n ≤ ranked x)) split reached) in
      let beyond : suc n ≤ ranked here = beyond n (ranked here) above other in
      rw split (none_above v n (here ∷ behind) (beyond, from.1))
    where
      beyond : (m k : ℕ) → m ≤ k → (k ≡ m → ⊥) → suc m ≤ k
      beyond m k low apart = omega (arith, low, apart)

  -- after the last element there is none
  pub found_nowhere : (v : V) (xs : List X) (place n : ℕ) → length xs ≤ place → value_or v n (drop place xs) ≡ v
  found_nowhere v xs place n over = rw (drop_all place xs over) refl

module _ {X : Type 0} (ranked : X → ℕ) where
  -- from an element whose rank is high enough, all are
  pub all_reached : (xs : List X) (place least : ℕ) (d : X) → place < length xs → IsRising 0 (map ranked xs)
      → least ≤ ranked (get_or xs place d) → All (λ x. least ≤ ranked x) (drop place xs)
  all_reached xs place least d within rising reached =
      let split = drop_more xs place d within in
      let here = get_or xs place d in
      let behind = drop (place + 1) xs in
      let from = subst (λ ys. IsRising 0 (map ranked ys)) split (rising-drop ranked place xs rising) in
      let above = rising-weaken least (suc (ranked here)) (map ranked behind) (omega (arith, reached)) from.1 in
      rw split (All-cons (λ x. least ≤ ranked x) here behind reached (rising-all ranked least behind above))

  -- after the last element, all are
  pub none_left : (xs : List X) (place least : ℕ) → length xs ≤ place → All (λ x. least ≤ ranked x) (drop place xs)
  none_left xs place least over = rw (drop_all place xs over) (All-nil (λ x. least ≤ ranked x))

  -- functions that differ at elements of one rank alone are the same above it
  map_above : (f g : X → X) (n : ℕ) (xs : List X) → IsRising (suc n) (map ranked xs)
      → ((x : X) → ranked x ≢ n → f x ≡ g x) → map f xs ≡ map g xs
  map_above f g n [] h other = refl
  map_above f g n (x ∷ xs) h other =
      ap₂ (λ y ys. y ∷ ys) (other x (λ e. omega (arith, e, h.0)))
      (map_above f g n xs (rising-weaken (suc n) (suc (ranked x)) (map ranked xs) (omega (arith, h.0)) h.1) other)

  -- functions that differ at elements of one rank alone: the one element of this rank is set
  pub set_one : (f g : X → X) (least : ℕ) (xs : List X) (place : ℕ) (d : X) → place < length xs
      → IsRising least (map ranked xs) → ((x : X) → ranked x ≢ ranked (get_or xs place d) → f x ≡ g x)
      → set (map f xs) place (g (get_or xs place d)) ≡ map g xs
  set_one f g least [] place d within h other = absurd (omega (arith, within))
  set_one f g least (x ∷ xs) zero d within h other = ap (λ ys. g x ∷ ys) (map_above f g (ranked x) xs h.1 other)
  set_one f g least (x ∷ xs) (suc place) d within h other =
      let inside : place < length xs = omega (arith, within) in
      let above = rising-all ranked (suc (ranked x)) xs h.1 place d inside in
      ap₂ (λ y ys. y ∷ ys) (other x (λ e. omega (arith, e, above)))
      (set_one f g (suc (ranked x)) xs place d inside h.1 other)
