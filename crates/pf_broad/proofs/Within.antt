-- The pairs are of two bodies that there are, the lesser number first.
use Rattle.std.proofs.Common.{◌≡◌, ℕ, zero, suc, ◌+◌, ◌<◌, true, false, cond, List, [], ◌∷◌, length, get_or, refl, arith, map, nat_lt, ltb-true, ap, sym, subst, ◌∙◌}
use Rattle.std.proofs.lemmas.Bool.{and_parts}
use Rattle.std.proofs.lemmas.List.Elements.{All-from_recursion}
use Rattle.std.specs.List.{range_with_len, filter, flat_map, All, AllByRecursion}
use Rattle.pf_shapes.specs.Fixture.{Fixture}
use Rattle.pf_shapes.specs.Body.{BodyState}
use Rattle.pf_shapes.specs.Bounds.{Bounds}
use Rattle.pf_broad.specs.Pairs.{bounds_at, may_touch, is_pair, pair, pairs_of, pairs, all_bounds}
use Rattle.pf_shapes.specs.Pair.{IsPairOf, Pair}
use Rattle.pf_broad.proofs.Each.{append_each}

-- a body's pairs are of it and a later body
map-filter_within : (bs : List Bounds) (i a n m : ℕ) → a + n ≡ m
    → AllByRecursion (IsPairOf m) (map (pair i) (filter (is_pair bs i) (range_with_len a n)))
map-filter_within bs i a zero m e = tt
map-filter_within bs i a (suc n) m e =
    let more = map-filter_within bs i (a + 1) n m (omega arith) in
    let rest = filter (is_pair bs i) (range_with_len (a + 1) n) in
    elim (is_pair bs i a) as (λ b. is_pair bs i a ≡ b → AllByRecursion (IsPairOf m) (map (pair i) (cond b (a ∷ rest) rest))) [
      | true ↦ λ yes. ((ltb-true i a ((and_parts (nat_lt i a) (may_touch (bounds_at bs i) (bounds_at bs a)) yes).0), omega arith), more)
      | false ↦ λ _. more
    ] refl

flat_map_within : (bs : List Bounds) (xs : List ℕ) → AllByRecursion (IsPairOf (length bs)) (flat_map (pairs_of bs) xs)
flat_map_within bs [] = tt
flat_map_within bs (x ∷ xs) =
    append_each (IsPairOf (length bs)) (pairs_of bs x) (flat_map (pairs_of bs) xs) (map-filter_within bs x 0 (length bs) (length bs) (omega arith)) (flat_map_within bs xs)

pub length-all_bounds : (fixtures : List Fixture) (bodies : List BodyState) → length bodies ≡ length fixtures → length (all_bounds fixtures bodies) ≡ length bodies
length-all_bounds [] [] h = refl
length-all_bounds (f ∷ fs) (b ∷ bs) h = ap suc (length-all_bounds fs bs (omega arith))
length-all_bounds [] (b ∷ bs) h = absurd (omega arith)
length-all_bounds (f ∷ fs) [] h = absurd (omega arith)

within : (fixtures : List Fixture) (bodies : List BodyState) → length bodies ≡ length fixtures → All (IsPairOf (length bodies)) (pairs (all_bounds fixtures bodies))
within fixtures bodies h =
    rw (← length-all_bounds fixtures bodies h) (All-from_recursion (IsPairOf (length (all_bounds fixtures bodies))) (pairs (all_bounds fixtures bodies))
    (flat_map_within (all_bounds fixtures bodies) (range_with_len 0 (length (all_bounds fixtures bodies)))))

pub pairs_within : (fixtures : List Fixture) (bodies : List BodyState) (bs : List Bounds) (ps : List Pair) → length bodies ≡ length fixtures
    → bs ≡ all_bounds fixtures bodies → ps ≡ pairs bs → All (IsPairOf (length bodies)) ps
pairs_within fixtures bodies bs ps h e k = let P : List Pair → Type 0 = λ l. All (IsPairOf (length bodies)) l in subst P (sym (k ∙ ap pairs e)) (within fixtures bodies h)

pub pairs-IsPairOf : (bs : List Bounds) (ps : List Pair) (n : ℕ) → ps ≡ pairs bs → length bs ≡ n → All (IsPairOf n) ps
pairs-IsPairOf bs ps n e k =
    let all = All-from_recursion (IsPairOf (length bs)) (pairs bs) (flat_map_within bs (range_with_len 0 (length bs))) in
    let P : List Pair → Type 0 = λ l. All (IsPairOf n) l in
    let Q : ℕ → Type 0 = λ m. All (IsPairOf m) (pairs bs) in
    subst P (sym e) (subst Q k all)

-- the bodies of a pair of a list are in range
pub bodies_below : (n : ℕ) (cs : List Pair) (i : ℕ) (p q : Pair) → All (IsPairOf n) cs → i < length cs → p ≡ q → q ≡ get_or cs i q
    → (p.a < n) × (p.b < n)
bodies_below n cs i p q of below same is =
    let in_range : IsPairOf n (get_or cs i q) = of i q below in
    let a_is : p.a ≡ (get_or cs i q).a = ap (λ (q : Pair). q.a) (same ∙ is) in
    let b_is : p.b ≡ (get_or cs i q).b = ap (λ (q : Pair). q.b) (same ∙ is) in
    (omega (arith, a_is, in_range.0, in_range.1), omega (arith, b_is, in_range.1))
