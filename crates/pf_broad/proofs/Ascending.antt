-- The pairs ascend.
use Rattle.std.proofs.Common.{◌≡◌, ℕ, zero, suc, ◌+◌, ◌<◌, ◌≤◌, true, List, [], ◌∷◌, ◌++◌, length, refl, arith, map, nat_lt}
use Rattle.std.proofs.lemmas.Bool.Decides.{nat_tests}
use Rattle.std.specs.List.{range_with_len, filter, flat_map, AllByRecursion}
use Rattle.pf_shapes.specs.Bounds.{Bounds}
use Rattle.pf_broad.specs.Pairs.{is_pair, pair, pairs_of, pairs}
use Rattle.pf_shapes.specs.Pair.{IsAscending, Pair, is_before}
use Rattle.pf_broad.proofs.Each.{append_each}
use Rattle.pf_broad.proofs.Rising.{IsUp, IsUp-filter}

-- the first body of each pair is low or later
abbrev pub AreFrom : ℕ → List Pair → Type 0
AreFrom low ps = AllByRecursion (λ p. low ≤ p.a) ps

AreFrom-map : (i : ℕ) (xs : List ℕ) → AreFrom i (map (pair i) xs)
AreFrom-map i [] = tt
AreFrom-map i (x ∷ xs) = (omega arith, AreFrom-map i xs)

AreFrom-less : (low low' : ℕ) (ps : List Pair) → low' ≤ low → AreFrom low ps → AreFrom low' ps
AreFrom-less low low' [] h from = tt
AreFrom-less low low' (p ∷ ps) h from = (omega (arith, from.0), AreFrom-less low low' ps h from.1)

-- a pair is before all of these
abbrev IsBeforeAll : Pair → List Pair → Type 0
IsBeforeAll p qs = AllByRecursion (λ q. is_before p q ≡ true) qs

before-second : (i j x : ℕ) → j < x → is_before (pair i j) (pair i x) ≡ true
before-second i j x h = grind (arith, nat_tests)

-- pairs of one body by their second
IsBeforeAll-map : (i j low : ℕ) (xs : List ℕ) → j < low → IsUp low xs → IsBeforeAll (pair i j) (map (pair i) xs)
IsBeforeAll-map i j low [] h up = tt
IsBeforeAll-map i j low (x ∷ xs) h up =
    let less : j < x = omega (arith, up.0) in
    (before-second i j x less, IsBeforeAll-map i j (x + 1) xs (omega arith) up.1)

before-first : (p q : Pair) → p.a < q.a → is_before p q ≡ true
before-first p q h = let yes : nat_lt p.a q.a ≡ true = grind (arith, nat_tests) in rw yes refl

-- the pairs of a body are before those of later bodies
IsBeforeAll-later : (p : Pair) (low : ℕ) (qs : List Pair) → p.a < low → AreFrom low qs → IsBeforeAll p qs
IsBeforeAll-later p low [] h from = tt
IsBeforeAll-later p low (q ∷ qs) h from =
    let less : p.a < q.a = omega (arith, from.0) in
    (before-first p q less, IsBeforeAll-later p low qs h from.1)

ascending-map : (i low : ℕ) (xs : List ℕ) → IsUp low xs → IsAscending (map (pair i) xs)
ascending-map i low [] up = tt
ascending-map i low (x ∷ xs) up = (IsBeforeAll-map i x (x + 1) xs (omega arith) up.1, ascending-map i (x + 1) xs up.1)

-- the pairs of one body, and then those of later bodies
ascending-append : (i low : ℕ) (xs : List ℕ) (qs : List Pair) → IsUp low xs → AreFrom (i + 1) qs → IsAscending qs → IsAscending (map (pair i) xs ++ qs)
ascending-append i low [] qs up from asc = asc
ascending-append i low (x ∷ xs) qs up from asc = (
  append_each (λ q. is_before (pair i x) q ≡ true) (map (pair i) xs) qs (IsBeforeAll-map i x (x + 1) xs (omega arith) up.1)
      (IsBeforeAll-later (pair i x) (i + 1) qs (omega arith) from),
  ascending-append i (x + 1) xs qs up.1 from asc,
)

pub AreFrom-flat_map : (bs : List Bounds) (a n : ℕ) → AreFrom a (flat_map (pairs_of bs) (range_with_len a n))
AreFrom-flat_map bs a zero = tt
AreFrom-flat_map bs a (suc n) =
    append_each (λ p. a ≤ p.a) (pairs_of bs a) (flat_map (pairs_of bs) (range_with_len (a + 1) n))
    (AreFrom-map a (filter (is_pair bs a) (range_with_len 0 (length bs))))
    (AreFrom-less (a + 1) a (flat_map (pairs_of bs) (range_with_len (a + 1) n)) (omega arith) (AreFrom-flat_map bs (a + 1) n))

ascending-flat_map : (bs : List Bounds) (a n : ℕ) → IsAscending (flat_map (pairs_of bs) (range_with_len a n))
ascending-flat_map bs a zero = tt
ascending-flat_map bs a (suc n) =
    ascending-append a 0 (filter (is_pair bs a) (range_with_len 0 (length bs))) (flat_map (pairs_of bs) (range_with_len (a + 1) n))
    (IsUp-filter (is_pair bs a) 0 (length bs)) (AreFrom-flat_map bs (a + 1) n) (ascending-flat_map bs (a + 1) n)

pub ascending : (bs : List Bounds) → IsAscending (pairs bs)
ascending bs = ascending-flat_map bs 0 (length bs)
