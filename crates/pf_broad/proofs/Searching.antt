-- New enlarged bounds of some bodies change the pairs with one of these bodies, and no others.
use Rattle.std.proofs.Common.{◌≡◌, ℕ, ◌<◌, Bool, true, false, cond, not, ◌&&◌, ◌||◌, List, [], ◌∷◌, length, map, get_or, nat_lt, refl, sym, ap, ◌∙◌, arith}
use Rattle.std.proofs.Math.Bool.{and-false, and_comm}
use Rattle.std.proofs.lemmas.List.{get_or_default}
use Rattle.std.specs.List.{range_with_len, filter, flat_map}
use Rattle.pf_shapes.specs.Bounds.{Bounds}
use Rattle.pf_shapes.specs.Pair.{Pair}
use Rattle.pf_broad.specs.Pairs.{may_touch, is_pair, pair, partners_of, pairs_of, pairs}
use Rattle.pf_broad.specs.Partners.{has_body, AreInOrder}
use Rattle.pf_broad.specs.Enlarged.{has_one_of, pairs_without, AreSameBut}
use Rattle.pf_broad.proofs.Enlarging.{filter-flat_map, filter-map, flat_map-same}

filter-both : (p q : ℕ → Bool) (xs : List ℕ) → filter p (filter q xs) ≡ filter (λ k. q k && p k) xs
filter-both p q [] = refl
filter-both p q (x ∷ xs) = both (q x) (filter-both p q xs)
  where
    both : (b : Bool) → filter p (filter q xs) ≡ filter (λ k. q k && p k) xs
        → filter p (cond b (x ∷ filter q xs) (filter q xs)) ≡ cond (b && p x) (x ∷ filter (λ k. q k && p k) xs) (filter (λ k. q k && p k) xs)
    both true e = ap (λ l. cond (p x) (x ∷ l) l) e
    both false e = e

filter-agree : (p q : ℕ → Bool) (xs : List ℕ) → ((k : ℕ) → p k ≡ q k) → filter p xs ≡ filter q xs
filter-agree p q [] same = refl
filter-agree p q (x ∷ xs) same =
    (λ j. cond (same x j) (x ∷ filter-agree p q xs same j) (filter-agree p q xs same j))

-- two filters, in either order
filter-swap : (p q : ℕ → Bool) (xs : List ℕ) → filter p (filter q xs) ≡ filter q (filter p xs)
filter-swap p q xs =
    filter-both p q xs ∙ filter-agree (λ k. q k && p k) (λ k. p k && q k) xs (λ k. and_comm (q k) (p k)) ∙ sym (filter-both q p xs)

filter-every : (p : ℕ → Bool) (xs : List ℕ) → ((k : ℕ) → p k ≡ true) → filter p xs ≡ xs
filter-every p [] all = refl
filter-every p (x ∷ xs) all = (λ j. cond (all x j) (x ∷ filter-every p xs all j) (filter-every p xs all j))

-- of the pairs of a body that left all have it
pub row_of_left : (bs : List Bounds) (left : List ℕ) (i : ℕ) → has_body left i ≡ true → filter (has_one_of left) (pairs_of bs i) ≡ pairs_of bs i
row_of_left bs left i is =
    filter-map (has_one_of left) i (partners_of bs i)
    ∙ ap (map (pair i)) (filter-every (λ j. has_one_of left (pair i j)) (partners_of bs i) (λ j. ap (λ b. b || has_body left j) is))

-- of another body's pairs those with a body that left are found among these
pub row_of_other : (bs : List Bounds) (left : List ℕ) (i : ℕ) → has_body left i ≡ false → AreInOrder bs left
    → filter (has_one_of left) (pairs_of bs i) ≡ map (pair i) (filter (is_pair bs i) left)
row_of_other bs left i is ordered =
    filter-map (has_one_of left) i (partners_of bs i)
    ∙ ap (map (pair i)) (filter-agree (λ j. has_one_of left (pair i j)) (has_body left) (partners_of bs i) (λ j. ap (λ b. b || has_body left j) is)
    ∙ filter-swap (has_body left) (is_pair bs i) (range_with_len 0 (length bs)) ∙ ap (filter (is_pair bs i)) (sym ordered))

-- pairs without a body that left are the same
pub others_same : (old new : List Bounds) (left : List ℕ) → length old ≡ length new → AreSameBut left old new
    → pairs_without left (pairs old) ≡ pairs_without left (pairs new)
others_same old new left as_many same =
    let t = λ (p : Pair). not (has_one_of left p) in
    filter-flat_map t (pairs_of old) (range_with_len 0 (length old))
    ∙ flat_map-same (λ i. filter t (pairs_of old i)) (λ i. filter t (pairs_of new i)) 0 (length old) (λ i below. row i)
    ∙ ap (λ n. flat_map (λ i. filter t (pairs_of new i)) (range_with_len 0 n)) as_many
    ∙ sym (filter-flat_map t (pairs_of new) (range_with_len 0 (length new)))
  where
    agree : (i j : ℕ) (a b : Bool) → has_body left i ≡ a → has_body left j ≡ b → (is_pair old i j && not (a || b)) ≡ (is_pair new i j && not (a || b))
    agree i j false false one other =
        (λ k. (nat_lt i j && may_touch (sym (same i one) k) (sym (same j other) k)) && true)
    agree i j true b one other = and-false (is_pair old i j) ∙ sym (and-false (is_pair new i j))
    agree i j false true one other = and-false (is_pair old i j) ∙ sym (and-false (is_pair new i j))

    row : (i : ℕ) → filter (λ p. not (has_one_of left p)) (pairs_of old i) ≡ filter (λ p. not (has_one_of left p)) (pairs_of new i)
    row i =
        let t = λ (j : ℕ). not (has_one_of left (pair i j)) in
        filter-map (λ p. not (has_one_of left p)) i (partners_of old i)
        ∙ ap (map (pair i)) (filter-both t (is_pair old i) (range_with_len 0 (length old))
        ∙ filter-agree (λ j. is_pair old i j && t j) (λ j. is_pair new i j && t j) (range_with_len 0 (length old))
        (λ j. agree i j (has_body left i) (has_body left j) refl refl)
        ∙ ap (λ n. filter (λ j. is_pair new i j && t j) (range_with_len 0 n)) as_many
        ∙ sym (filter-both t (is_pair new i) (range_with_len 0 (length new))))
        ∙ sym (filter-map (λ p. not (has_one_of left p)) i (partners_of new i))

-- whether a pair has a body that left, by the flags of these
pub has_one_read : (left : List ℕ) (is_left : List Bool) (n : ℕ) (p : Pair) (a b : Bool) → length is_left ≡ n
    → ((k : ℕ) → k < n → get_or is_left k false ≡ has_body left k) → (p.a < n) × (p.b < n)
    → a ≡ get_or is_left p.a a → b ≡ get_or is_left p.b b → has_one_of left p ≡ (a || b)
has_one_read left is_left n p a b count each below at_a at_b =
    let first = at_a ∙ get_or_default is_left p.a a false (omega (arith, below.0)) ∙ each p.a below.0 in
    let second = at_b ∙ get_or_default is_left p.b b false (omega (arith, below.1)) ∙ each p.b below.1 in
    (λ k. sym first k || sym second k)
