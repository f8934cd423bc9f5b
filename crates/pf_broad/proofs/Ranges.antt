-- Filters of ranges, one number more at a time, and what stands in them.
use Rattle.std.proofs.Common.{◌≡◌, ℕ, zero, suc, ◌+◌, ◌<◌, Bool, true, false, cond, ◌&&◌, ◌||◌, All, List, [], ◌∷◌, ◌++◌, refl, sym, subst, ap, ◌∙◌, arith, nat_lt, nat_le, nat_eq, eqb-true, append-nil, append_assoc}
use Rattle.std.proofs.lemmas.Bool.Decides.{nat_tests}
use Rattle.std.proofs.lemmas.List.Elements.{All-head, All-tail}
use Rattle.std.specs.List.{range_with_len, filter, flat_map}
use Rattle.pf_broad.specs.Partners.{has_body}

-- the range has j more
pub filter-range_suc : (p : ℕ → Bool) (a n j : ℕ) → a + n ≡ j
    → filter p (range_with_len a (suc n)) ≡ filter p (range_with_len a n) ++ cond (p j) (j ∷ []) []
filter-range_suc p a zero j e = let k : a ≡ j = omega arith in rw k refl
filter-range_suc p a (suc n) j e =
    let h = filter-range_suc p (a + 1) n j (omega arith) in
    let more = range_with_len (a + 1) (suc n) in
    let less = range_with_len (a + 1) n in
    elim (p a) as (λ b. cond b (a ∷ filter p more) (filter p more) ≡ cond b (a ∷ filter p less) (filter p less) ++ cond (p j) (j ∷ []) []) [
      | true ↦ ap (λ l. a ∷ l) h
      | false ↦ h
    ]

pub flat_map-range_suc : {X : Type 0} (f : ℕ → List X) (a n j : ℕ) → a + n ≡ j
    → flat_map f (range_with_len a (suc n)) ≡ flat_map f (range_with_len a n) ++ f j
flat_map-range_suc f a zero j e = let k : a ≡ j = omega arith in rw k (append-nil (f j))
flat_map-range_suc f a (suc n) j e =
    ap (λ l. f a ++ l) (flat_map-range_suc f (a + 1) n j (omega arith)) ∙ sym (append_assoc (f a) (flat_map f (range_with_len (a + 1) n)) (f j))

-- a filter that no number of the range passes
pub filter-range_none : (p : ℕ → Bool) (a n : ℕ) → ((k : ℕ) → k < a + n → p k ≡ false) → filter p (range_with_len a n) ≡ []
filter-range_none p a zero h = refl
filter-range_none p a (suc n) h = rw (h a (omega arith)) (filter-range_none p (a + 1) n (λ k l. h k (omega arith)))

-- tests that agree on a range
pub filter-same : (p q : ℕ → Bool) (a n : ℕ) → ((k : ℕ) → k < a + n → p k ≡ q k) → filter p (range_with_len a n) ≡ filter q (range_with_len a n)
filter-same p q a zero h = refl
filter-same p q a (suc n) h =
    ap (λ b. cond b (a ∷ filter p (range_with_len (a + 1) n)) (filter p (range_with_len (a + 1) n))) (h a (omega arith))
    ∙ ap (λ l. cond (q a) (a ∷ l) l) (filter-same p q (a + 1) n (λ k below. h k (omega (arith, below))))

-- a test of a number that is asked only where the number is j
pub at_equal : (p : ℕ → Bool) (x j : ℕ) → (nat_eq x j && p x) ≡ (nat_eq x j && p j)
at_equal p x j =
    elim (nat_eq x j) as (λ b. nat_eq x j ≡ b → (b && p x) ≡ (b && p j)) [
      | true ↦ λ same. ap p (eqb-true x j same)
      | false ↦ λ _. refl
    ] refl

-- a number that is left out, and one that is kept
kept_or_not : (e p q h : Bool) → (e && p) ≡ (e && q) → cond p (e || (q && h)) (q && h) ≡ (q && (e || h))
kept_or_not true true q h same = rw (← same) refl
kept_or_not true false q h same = rw (← same) refl
kept_or_not false p true h same = elim p as (λ b. cond b h h ≡ h) [ true ↦ refl | false ↦ refl ]
kept_or_not false p false h same = elim p as (λ b. cond b false false ≡ false) [ true ↦ refl | false ↦ refl ]

has_body-cond : (p : ℕ → Bool) (x : ℕ) (ys : List ℕ) (j : ℕ) → has_body (cond (p x) (x ∷ ys) ys) j ≡ cond (p x) (nat_eq x j || has_body ys j) (has_body ys j)
has_body-cond p x ys j = elim (p x) as (λ b. has_body (cond b (x ∷ ys) ys) j ≡ cond b (nat_eq x j || has_body ys j) (has_body ys j)) [ true ↦ refl | false ↦ refl ]

-- a filter has a number where the list has it and it passes
pub has_body-filter : (p : ℕ → Bool) (xs : List ℕ) (j : ℕ) → has_body (filter p xs) j ≡ (p j && has_body xs j)
has_body-filter p [] j = elim (p j) as (λ b. false ≡ (b && false)) [ true ↦ refl | false ↦ refl ]
has_body-filter p (x ∷ xs) j =
    has_body-cond p x (filter p xs) j
    ∙ ap (λ h. cond (p x) (nat_eq x j || h) h) (has_body-filter p xs j)
    ∙ kept_or_not (nat_eq x j) (p x) (p j) (has_body xs j) (at_equal p x j)

has_body-range : (a n j : ℕ) → has_body (range_with_len a n) j ≡ (nat_le a j && nat_lt j (a + n))
has_body-range a zero j = grind (arith, nat_tests)
has_body-range a (suc n) j = rw (has_body-range (a + 1) n j) (grind (arith, nat_tests))

pub has_body-below : (n j : ℕ) → has_body (range_with_len 0 n) j ≡ nat_lt j n
has_body-below n j = rw (has_body-range 0 n j) (grind (arith, nat_tests))

-- what holds of each number of a list
pub All-has_body : (P : ℕ → Type 0) (xs : List ℕ) (k : ℕ) → All P xs → has_body xs k ≡ true → P k
All-has_body P [] k all there = absurd (cc)
All-has_body P (x ∷ xs) k all there =
    elim (nat_eq x k) as (λ b. nat_eq x k ≡ b → P k) [
      | true ↦ λ is. subst P (same x k is) (All-head P x xs all)
      | false ↦ λ is. All-has_body P xs k (All-tail P x xs all) (sym (ap (λ b. b || has_body xs k) is) ∙ there)
    ] refl
  where
    same : (x k : ℕ) → nat_eq x k ≡ true → x ≡ k
    same x k is = grind (arith, nat_tests)
