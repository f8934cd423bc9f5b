-- The pairs are those of bodies that may touch, and no others.
use Rattle.std.proofs.Common.{◌≡◌, ℕ, Bool, true, false, ◌&&◌, ◌||◌, List, [], ◌∷◌, length, refl, sym, ap, ◌∙◌, arith, map, nat_lt, nat_eq}
use Rattle.std.proofs.lemmas.Bool.Decides.{nat_tests}
use Rattle.std.proofs.lemmas.List.Folds.{list_any-append}
use Rattle.std.proofs.Math.Bool.{and-or_distrib_left, and_comm}
use Rattle.std.specs.List.{range_with_len, filter, flat_map}
use Rattle.pf_shapes.specs.Bounds.{Bounds}
use Rattle.pf_broad.specs.Pairs.{bounds_at, may_touch, is_pair, pair, pair_may_touch, pairs_of, pairs}
use Rattle.pf_broad.specs.Laws.{has_pair, ArePairsExact}
use Rattle.pf_shapes.specs.Pair.{IsPairOf, Pair}
use Rattle.pf_broad.specs.Partners.{has_body}
use Rattle.pf_broad.proofs.Ranges.{at_equal, has_body-filter, has_body-below}

-- pairs of body k have i as their first body where it is k
has_pair-map : (k i j : ℕ) (xs : List ℕ) → has_pair (map (pair k) xs) i j ≡ (nat_eq k i && has_body xs j)
has_pair-map k i j [] = elim (nat_eq k i) as (λ b. false ≡ (b && false)) [ true ↦ refl | false ↦ refl ]
has_pair-map k i j (x ∷ xs) =
    ap (λ h. (nat_eq k i && nat_eq x j) || h) (has_pair-map k i j xs) ∙ sym (and-or_distrib_left (nat_eq k i) (nat_eq x j) (has_body xs j))

-- one of the lists has it
has_pair-flat_map : (f : ℕ → List Pair) (g : ℕ → Bool) (i j : ℕ) → ((x : ℕ) → has_pair (f x) i j ≡ (nat_eq x i && g x))
    → (xs : List ℕ) → has_pair (flat_map f xs) i j ≡ (g i && has_body xs i)
has_pair-flat_map f g i j each [] = elim (g i) as (λ b. false ≡ (b && false)) [ true ↦ refl | false ↦ refl ]
has_pair-flat_map f g i j each (x ∷ xs) =
    list_any-append (λ (p : Pair). nat_eq p.a i && nat_eq p.b j) (f x) (flat_map f xs)
    ∙ ap (λ b. b || has_pair (flat_map f xs) i j) (each x ∙ at_equal g x i)
    ∙ ap (λ b. (nat_eq x i && g i) || b) (has_pair-flat_map f g i j each xs)
    ∙ ap (λ b. b || (g i && has_body xs i)) (and_comm (nat_eq x i) (g i))
    ∙ sym (and-or_distrib_left (g i) (nat_eq x i) (has_body xs i))

-- the first body is before the second, which is one of n, so the first is one of them
in_range : (m : Bool) (i j n : ℕ) → (((nat_lt i j && m) && nat_lt j n) && nat_lt i n) ≡ (nat_lt i j && (nat_lt j n && m))
in_range true i j n = grind (arith, nat_tests)
in_range false i j n = grind (arith, nat_tests)

-- (x, j) is a pair where x and j may touch and j is a body
pub has_pair-pairs_of : (bs : List Bounds) (x i j : ℕ) → has_pair (pairs_of bs x) i j ≡ (nat_eq x i && (is_pair bs x j && nat_lt j (length bs)))
has_pair-pairs_of bs x i j =
    has_pair-map x i j (filter (is_pair bs x) (range_with_len 0 (length bs)))
    ∙ ap (λ b. nat_eq x i && b) (has_body-filter (is_pair bs x) (range_with_len 0 (length bs)) j
    ∙ ap (λ b. is_pair bs x j && b) (has_body-below (length bs) j))

pub exact : (bs : List Bounds) → ArePairsExact bs
exact bs i j =
    has_pair-flat_map (pairs_of bs) (λ x. is_pair bs x j && nat_lt j (length bs)) i j (λ x. has_pair-pairs_of bs x i j) (range_with_len 0 (length bs))
    ∙ ap (λ b. (is_pair bs i j && nat_lt j (length bs)) && b) (has_body-below (length bs) i)
    ∙ in_range (may_touch (bounds_at bs i) (bounds_at bs j)) i j (length bs)

-- so a pair of two bodies is listed where they may touch
pub has_pair-may_touch : (bs : List Bounds) (p : Pair) → IsPairOf (length bs) p → has_pair (pairs bs) p.a p.b ≡ pair_may_touch bs p
has_pair-may_touch bs p of =
    let first : nat_lt p.a p.b ≡ true = grind (arith, nat_tests, of.0) in
    let second : nat_lt p.b (length bs) ≡ true = grind (arith, nat_tests, of.1) in
    exact bs p.a p.b ∙ (λ k. first k && (second k && pair_may_touch bs p))
