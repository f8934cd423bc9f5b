-- Lists of ascending numbers: one is what stands in it, so sorting a list and leaving out what is
-- twice there makes a filter of a range.
use Rattle.std.proofs.Common.{◌≡◌, ℕ, zero, suc, ◌+◌, ◌<◌, ◌≤◌, Bool, true, false, cond, ◌&&◌, ◌||◌, List, [], ◌∷◌, length, get_or, refl, sym, ap, ◌∙◌, subst, arith, nat_eq, nat_lt, eqb, eqb-true, ⊎_elim}
use Rattle.std.proofs.lemmas.Bool.{cases_lt}
use Rattle.std.specs.Ordering.{nat_cmp}
use Rattle.std.specs.List.{range_with_len, filter, dedup, dedup_from}
use Rattle.std.specs.List.Sorted.{IsPermutation, IsSorted, IsStrictlyIncreasing}
use Rattle.std.proofs.lemmas.Bool.Decides.{nat_tests}
use Rattle.std.proofs.lemmas.List.Sorted.{list_any-IsPermutation}
use Rattle.std.proofs.lemmas.Map.Keys.{IsStrictlyIncreasing-dedup}
use Rattle.pf_broad.specs.Partners.{has_body}
use Rattle.pf_broad.proofs.Ranges.{has_body-filter, has_body-below}

-- ascending numbers, from low on
abbrev pub IsUp : ℕ → List ℕ → Type 0
IsUp low [] = Unit {0}
IsUp low (x ∷ xs) = (low ≤ x) × IsUp (x + 1) xs

IsUp-from : (low low' : ℕ) (xs : List ℕ) → low' ≤ low → IsUp low xs → IsUp low' xs
IsUp-from low low' [] h up = tt
IsUp-from low low' (x ∷ xs) h up = (omega arith, up.1)

pub IsUp-filter : (p : ℕ → Bool) (a n : ℕ) → IsUp a (filter p (range_with_len a n))
IsUp-filter p a zero = tt
IsUp-filter p a (suc n) =
    let rest = filter p (range_with_len (a + 1) n) in
    elim (p a) as (λ b. IsUp a (cond b (a ∷ rest) rest)) [
      | true ↦ (omega arith, IsUp-filter p (a + 1) n)
      | false ↦ IsUp-from (a + 1) a rest (omega arith) (IsUp-filter p (a + 1) n)
    ]

-- nothing below low stands in a list from low on
has_body-up : (low : ℕ) (xs : List ℕ) (j : ℕ) → IsUp low xs → j < low → has_body xs j ≡ false
has_body-up low [] j up h = refl
has_body-up low (x ∷ xs) j up h =
    let here : nat_eq x j ≡ false = grind (arith, nat_tests, up.0) in
    rw here (has_body-up (x + 1) xs j up.1 (omega (arith, up.0)))

has_body-head : (x : ℕ) (xs : List ℕ) → has_body (x ∷ xs) x ≡ true
has_body-head x xs = let same : nat_eq x x ≡ true = grind (arith, nat_tests) in rw same refl

-- the first of two lists with the same numbers isn't lower
first_le : (low x y : ℕ) (xs ys : List ℕ) → IsUp low (y ∷ ys) → has_body (y ∷ ys) x ≡ has_body (x ∷ xs) x → y ≤ x
first_le low x y xs ys up same =
    ⊎_elim
    (λ (less : x < y). let no = has_body-up y (y ∷ ys) x (omega arith, up.1) less in let yes = has_body-head x xs in absurd (cc))
    (λ (not_less : y ≤ x). not_less)
    (cases_lt x y)

-- where the firsts are the same, so are the numbers of the rests
rests_same : (x : ℕ) (xs ys : List ℕ) → IsUp (x + 1) xs → IsUp (x + 1) ys → ((j : ℕ) → has_body (x ∷ xs) j ≡ has_body (x ∷ ys) j) → (j : ℕ) → has_body xs j ≡ has_body ys j
rests_same x xs ys up up' same j =
    elim (nat_eq x j) as (λ b. nat_eq x j ≡ b → (b || has_body xs j) ≡ (b || has_body ys j) → has_body xs j ≡ has_body ys j) [
      | true ↦ λ is _.
          let e : x ≡ j = eqb-true x j is in
          has_body-up (x + 1) xs j up (omega arith) ∙ sym (has_body-up (x + 1) ys j up' (omega arith))
      | false ↦ λ _ h. h
    ] refl (same j)

-- ascending lists with the same numbers are equal
pub same_up : (low : ℕ) (xs ys : List ℕ) → IsUp low xs → IsUp low ys → ((j : ℕ) → has_body xs j ≡ has_body ys j) → xs ≡ ys
same_up low [] [] up up' same = refl
same_up low [] (y ∷ ys) up up' same = let no = same y in let yes = has_body-head y ys in absurd (cc)
same_up low (x ∷ xs) [] up up' same = let no = same x in let yes = has_body-head x xs in absurd (cc)
same_up low (x ∷ xs) (y ∷ ys) up up' same =
    let le = first_le low x y xs ys up' (sym (same x)) in
    let ge = first_le low y x ys xs up (same y) in
    let e : y ≡ x = omega arith in
    let P : ℕ → Type 0 = λ z. IsUp (z + 1) ys in
    let Q : ℕ → Type 0 = λ z. (j : ℕ) → has_body (x ∷ xs) j ≡ has_body (z ∷ ys) j in
    let up'' : IsUp (x + 1) ys = subst P e up'.1 in
    let rests = rests_same x xs ys up.1 up'' (subst Q e same) in
    rw e (ap (λ l. x ∷ l) (same_up (x + 1) xs ys up.1 up'' rests))

twice : (a b : Bool) → (a || b) ≡ (a || (a || b))
twice true b = refl
twice false b = refl

has_body-dedup_from : (x : ℕ) (xs : List ℕ) (j : ℕ) → has_body (dedup_from eqb x xs) j ≡ (nat_eq x j || has_body xs j)
has_body-dedup_from x [] j = refl
has_body-dedup_from x (y ∷ ys) j =
    elim (nat_eq y x) as (λ b. nat_eq y x ≡ b → has_body (cond b (dedup_from eqb x ys) (x ∷ dedup_from eqb y ys)) j ≡ (nat_eq x j || (nat_eq y j || has_body ys j))) [
      | true ↦ λ is. has_body-dedup_from x ys j ∙ twice (nat_eq x j) (has_body ys j) ∙ ap (λ z. nat_eq x j || (nat_eq z j || has_body ys j)) (sym (eqb-true y x is))
      | false ↦ λ _. ap (λ b. nat_eq x j || b) (has_body-dedup_from y ys j)
    ] refl

has_body-dedup : (xs : List ℕ) (j : ℕ) → has_body (dedup eqb xs) j ≡ has_body xs j
has_body-dedup [] j = refl
has_body-dedup (x ∷ xs) j = has_body-dedup_from x xs j

up_increasing : (x : ℕ) (xs : List ℕ) → ((k : ℕ) → suc k < length (x ∷ xs) → get_or (x ∷ xs) k 0 < get_or (x ∷ xs) (suc k) 0) → IsUp (x + 1) xs
up_increasing x [] h = tt
up_increasing x (y ∷ ys) h = let first = h 0 (omega arith) in (omega (arith, first), up_increasing y ys (λ k l. h (suc k) (omega arith)))

IsUp-increasing : (xs : List ℕ) → IsStrictlyIncreasing xs → IsUp 0 xs
IsUp-increasing [] h = tt
IsUp-increasing (x ∷ xs) h = (
  omega arith,
  up_increasing x xs (λ k l.
      let next : k + 1 ≡ suc k = omega arith in
      let P : ℕ → Type 0 = λ m. get_or (x ∷ xs) k 0 < get_or (x ∷ xs) m 0 in
      subst P next (h k (omega arith))),
)

-- a list of numbers, sorted, each once
pub sorted_once : (p : ℕ → Bool) (n : ℕ) (xs ys : List ℕ) → ((j : ℕ) → has_body xs j ≡ (p j && nat_lt j n)) → IsPermutation xs ys → IsSorted nat_cmp ys
    → dedup eqb ys ≡ filter p (range_with_len 0 n)
sorted_once p n xs ys has permuted sorted =
    same_up 0 (dedup eqb ys) (filter p (range_with_len 0 n)) (IsUp-increasing (dedup eqb ys) (IsStrictlyIncreasing-dedup ys sorted)) (IsUp-filter p 0 n)
    (λ j. has_body-dedup ys j ∙ sym (list_any-IsPermutation (λ k. nat_eq k j) xs ys permuted) ∙ has j
    ∙ sym (has_body-filter p (range_with_len 0 n) j ∙ ap (λ b. p j && b) (has_body-below n j)))
