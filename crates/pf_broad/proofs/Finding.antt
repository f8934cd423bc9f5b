-- The later bodies that a body may touch, one body at a time.
use Rattle.std.proofs.Common.{◌≡◌, ℕ, ◌+◌, ◌≤◌, true, false, cond, ◌&&◌, List, [], ◌∷◌, ◌++◌, refl, sym, ap, ◌∙◌, arith, nat_lt, add-one, append-nil, append_assoc}
use Rattle.std.proofs.lemmas.Bool.Decides.{nat_tests}
use Rattle.std.specs.List.{range_with_len, filter, flat_map}
use Rattle.pf_shapes.specs.Bounds.{Bounds}
use Rattle.pf_broad.specs.Pairs.{bounds_at, may_touch, is_pair, pairs_of}
use Rattle.pf_broad.proofs.Ranges.{filter-range_suc, filter-range_none, flat_map-range_suc}

is_pair-late : (bs : List Bounds) (i k : ℕ) → k ≤ i → is_pair bs i k ≡ false
is_pair-late bs i k h = let late : nat_lt i k ≡ false = grind (arith, nat_tests) in rw late refl

-- those of the bodies below j
abbrev pub below : List Bounds → ℕ → ℕ → List ℕ
below bs i j = filter (is_pair bs i) (range_with_len 0 j)

-- no body up to the one after i is later than i
pub below-start : (bs : List Bounds) (i j : ℕ) (old : List ℕ) → j ≤ i + 1 → old ≡ old ++ below bs i j
below-start bs i j old h = rw (filter-range_none (is_pair bs i) 0 j (λ k l. is_pair-late bs i k (omega arith))) (sym (append-nil old))

below-more : (bs : List Bounds) (i j : ℕ) → below bs i (j + 1) ≡ below bs i j ++ cond (is_pair bs i j) (j ∷ []) []
below-more bs i j = rw add-one (filter-range_suc (is_pair bs i) 0 j j (omega arith))

-- body j may touch body i, and is one more
below-touching : (bs : List Bounds) (i j : ℕ) → i + 1 ≤ j → may_touch (bounds_at bs i) (bounds_at bs j) ≡ true → below bs i (j + 1) ≡ below bs i j ++ j ∷ []
below-touching bs i j later touching = let early : nat_lt i j ≡ true = grind (arith, nat_tests) in below-more bs i j ∙ rw (early, touching) refl

below-not_touching : (bs : List Bounds) (i j : ℕ) → may_touch (bounds_at bs i) (bounds_at bs j) ≡ false → below bs i (j + 1) ≡ below bs i j
below-not_touching bs i j not_touching =
    below-more bs i j ∙ elim (nat_lt i j) as (λ b. below bs i j ++ cond (b && may_touch (bounds_at bs i) (bounds_at bs j)) (j ∷ []) [] ≡ below bs i j) [
      | true ↦ rw not_touching (append-nil (below bs i j))
      | false ↦ append-nil (below bs i j)
    ]

-- so a list that ends with those so far ends with those up to body j
pub then-touching : (bs : List Bounds) (i j : ℕ) (old now : List ℕ) → now ≡ old ++ below bs i j → i + 1 ≤ j → may_touch (bounds_at bs i) (bounds_at bs j) ≡ true
    → now ++ j ∷ [] ≡ old ++ below bs i (j + 1)
then-touching bs i j old now ends later touching =
    ap (λ l. l ++ j ∷ []) ends ∙ append_assoc old (below bs i j) (j ∷ []) ∙ ap (λ l. old ++ l) (sym (below-touching bs i j later touching))

pub then-not_touching : (bs : List Bounds) (i j : ℕ) (old now : List ℕ) → now ≡ old ++ below bs i j → may_touch (bounds_at bs i) (bounds_at bs j) ≡ false
    → now ≡ old ++ below bs i (j + 1)
then-not_touching bs i j old now ends not_touching = ends ∙ ap (λ l. old ++ l) (sym (below-not_touching bs i j not_touching))

-- the pairs of one body more
pub pairs-more : (bs : List Bounds) (i : ℕ) → flat_map (pairs_of bs) (range_with_len 0 (i + 1)) ≡ flat_map (pairs_of bs) (range_with_len 0 i) ++ pairs_of bs i
pairs-more bs i = rw add-one (flat_map-range_suc (pairs_of bs) 0 i i (omega arith))
