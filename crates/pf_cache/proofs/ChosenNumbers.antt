-- Loops over chosen numbers alone keep what a step at any other number would keep.
use Rattle.std.proofs.Common.{◌≡◌, ◌∙◌, ℕ, zero, suc, ◌+◌, ◌<◌, ◌≤◌, Bool, true, false, cond, List, [], ◌∷◌, Some, length, filter, get_or, refl, sym, ap, subst, arith, slice_get}
use Rattle.std.proofs.lemmas.List.{get_or_default}
use Rattle.std.proofs.lemmas.List.Elements.{All-cons, All-filter, All-nil}
use Rattle.std.proofs.lemmas.Option.{none-some, same_Some, slice_get-get_or}
use Rattle.std.specs.List.{range_with_len}
use Rattle.std.specs.Prelude.{All}

-- ---- chosen elements, and a range

-- they pass the test
pub chosen_pass : {X : Type 0} (p : X → Bool) (xs : List X) → All (λ x. p x ≡ true) (filter p xs)
chosen_pass p [] = All-nil (λ x. p x ≡ true)
chosen_pass p (x ∷ xs) = by (p x) refl (chosen_pass p xs)
  where
    by : (e : Bool) → p x ≡ e → All (λ y. p y ≡ true) (filter p xs)
        → All (λ y. p y ≡ true) (cond e (x ∷ filter p xs) (filter p xs))
    by true e rest = All-cons (λ y. p y ≡ true) x (filter p xs) e rest
    by false e rest = rest

-- a range is below its end
pub range_within : (start count limit : ℕ) → start + count ≤ limit
    → All (λ n. n < limit) (range_with_len start count)
range_within start zero limit low = All-nil (λ n. n < limit)
range_within start (suc count) limit low =
    All-cons (λ n. n < limit) start (range_with_len (start + 1) count) (omega (arith, low))
    (range_within (start + 1) count limit (omega (arith, low)))

-- ---- from one chosen number to the next

-- a fact of each number below a limit, which numbers that are not chosen keep
module _ (p : ℕ → Bool) (limit : ℕ) (P : ℕ → Type 0)
    (same : (j : ℕ) → j < limit → p j ≡ false → P j → P (j + 1)) where
  first_gap : (start count : ℕ) → start + count ≡ limit → P start
      → P (get_or (filter p (range_with_len start count)) 0 limit)
  first_gap start zero e h = let end : start ≡ limit = omega (arith, e) in subst P end h
  first_gap start (suc count) e h =
      by (p start) refl (λ behind. first_gap (start + 1) count (omega (arith, e)) behind)
    where
      rest : List ℕ
      rest = filter p (range_with_len (start + 1) count)

      by : (t : Bool) → p start ≡ t → (P (start + 1) → P (get_or rest 0 limit))
          → P (get_or (cond t (start ∷ rest) rest) 0 limit)
      by true chosen further = h
      by false other further = further (same start (omega (arith, e)) other h)

  next_gap : (start count k m : ℕ) → start + count ≡ limit
      → slice_get (filter p (range_with_len start count)) k ≡ Some m → P (m + 1)
      → P (get_or (filter p (range_with_len start count)) (suc k) limit)
  next_gap start zero k m e is h = absurd (none-some m is)
  next_gap start (suc count) k m e is h =
      by (p start) k is (λ behind. first_gap (start + 1) count (omega (arith, e)) behind)
      (λ i there. next_gap (start + 1) count i m (omega (arith, e)) there h)
    where
      rest : List ℕ
      rest = filter p (range_with_len (start + 1) count)

      by : (t : Bool) (i : ℕ) → slice_get (cond t (start ∷ rest) rest) i ≡ Some m
          → (P (start + 1) → P (get_or rest 0 limit))
          → ((j : ℕ) → slice_get rest j ≡ Some m → P (get_or rest (suc j) limit))
          → P (get_or (cond t (start ∷ rest) rest) (suc i) limit)
      by true zero here first further = first (subst (λ n. P (n + 1)) (sym (same_Some start m here)) h)
      by true (suc i) there first further = further i there
      by false i there first further = further i there

-- ---- the chosen numbers below a limit

module _ (p : ℕ → Bool) (limit : ℕ) (numbers : List ℕ) (are : numbers ≡ filter p (range_with_len 0 limit)) where
  -- each is below the limit
  pub number_low : All (λ n. n < limit) numbers
  number_low =
      subst (All (λ n. n < limit)) (sym are)
      (All-filter p (λ n. n < limit) (range_with_len 0 limit) (range_within 0 limit limit (omega arith)))

  -- and chosen
  pub number_chosen : All (λ n. p n ≡ true) numbers
  number_chosen = subst (All (λ n. p n ≡ true)) (sym are) (chosen_pass p (range_with_len 0 limit))

  -- what the others keep
  module _ (P : ℕ → Type 0) (same : (j : ℕ) → j < limit → p j ≡ false → P j → P (j + 1)) where
    pub at_first : P 0 → P (get_or numbers 0 limit)
    at_first h =
        subst (λ ns. P (get_or ns 0 limit)) (sym are) (first_gap p limit P same 0 limit (omega arith) h)

    pub at_next : (k : ℕ) → k < length numbers → P (get_or numbers k 0 + 1) → P (get_or numbers (k + 1) limit)
    at_next k within h =
        let next : suc k ≡ k + 1 = omega arith in
        subst (λ i. P (get_or numbers i limit)) next
        (subst (λ ns. P (get_or ns (suc k) limit)) (sym are)
        (next_gap p limit P same 0 limit k (get_or numbers k 0) (omega arith)
        (sym (ap (λ ns. slice_get ns k) are) ∙ slice_get-get_or numbers k 0 within) h))

  -- what holds up to the next chosen number
  pub at_number : (P : ℕ → Type 0) (k : ℕ) → k < length numbers → P (get_or numbers k limit) → P (get_or numbers k 0)
  at_number P k within h = subst P (get_or_default numbers k limit 0 within) h
