-- Pairs are in the order of their ranks.
use Rattle.std.proofs.Common.{◌≡◌, ℕ, suc, ◌+◌, ◌^◌, ◌<◌, ◌==◌, ◌⊎◌, inl, inr, Bool, true, false, ◌&&◌, List, [], ◌∷◌, map, refl, sym, ap, ◌∙◌, true≢false, eqb-true, arith}
use Rattle.std.specs.Prelude.{All, nat_lt}
use Rattle.std.proofs.lemmas.Bool.{and_parts, cases_order}
use Rattle.std.proofs.lemmas.Bool.Decides.{Decides-eqb, nat_tests}
use Rattle.std.proofs.lemmas.List.Elements.{All-head, All-tail}
use Rattle.pf_shapes.specs.Pair.{IsAscending, IsPairOf, Pair, is_before}
use Rattle.pf_shapes.specs.declared.scene.TheConstants.{MAX_BODIES}
use Rattle.pf_manifold.specs.Key.{IsRising}
use Rattle.pf_manifold.proofs.KeyOrder.{AreFrom, behind_from, from_zero, lowest}
use Rattle.pf_manifold.proofs.Rising.{rising-weaken}
use Rattle.pf_cache.specs.Slots.{pair_rank}

-- a pair is before another exactly where its rank is lower
pub before_by_rank : (p q : Pair) → IsPairOf MAX_BODIES p → IsPairOf MAX_BODIES q
    → is_before p q ≡ nat_lt (pair_rank p) (pair_rank q)
before_by_rank p q hp hq = grind (arith, nat_tests)

rise_from : (least : ℕ) (pairs : List Pair) → IsAscending pairs → All (IsPairOf MAX_BODIES) pairs
    → AreFrom least pairs → IsRising least (map pair_rank pairs)
rise_from least [] up are from = tt
rise_from least (p ∷ pairs) up are from =
    let first = All-head (IsPairOf MAX_BODIES) p pairs are in
    let later = rise_from (lowest p + 2 ^ 8) pairs up.1 (All-tail (IsPairOf MAX_BODIES) p pairs are)
    (behind_from p pairs (omega (arith, first.1)) up.0) in
    (omega (arith, from.0), rising-weaken (suc (pair_rank p)) (lowest p + 2 ^ 8) _ (omega arith) later)

-- ascending pairs are in the order of their ranks
pub pairs_rise : (pairs : List Pair) → IsAscending pairs → All (IsPairOf MAX_BODIES) pairs
    → IsRising 0 (map pair_rank pairs)
pairs_rise pairs up are = rise_from 0 pairs up are (from_zero pairs)

-- two pairs of one rank are one pair
pub same_rank : (p q : Pair) → IsPairOf MAX_BODIES p → IsPairOf MAX_BODIES q → pair_rank p ≡ pair_rank q → p ≡ q
same_rank p q hp hq e = by (cases_order p.a q.a)
  where
    by : (p.a ≡ q.a) ⊎ ((p.a < q.a) ⊎ (q.a < p.a)) → p ≡ q
    by (inl same) =
        let seconds : p.b ≡ q.b = omega (arith, e, same) in
        λ i. record {
          a = same i;
          b = seconds i;
        }
    by (inr (inl less)) = absurd (omega (arith, e, less, hp.1, hq.1))
    by (inr (inr less)) = absurd (omega (arith, e, less, hp.1, hq.1))

-- the test of a pair is the test of its rank
pub same_test : (q p : Pair) → IsPairOf MAX_BODIES q → IsPairOf MAX_BODIES p
    → ((q.a == p.a) && (q.b == p.b)) ≡ (pair_rank q == pair_rank p)
same_test q p hq hp = by (pair_rank q == pair_rank p) refl
  where
    both : q ≡ p → ((q.a == p.a) && (q.b == p.b)) ≡ true
    both e =
        rw ((Decides-eqb q.a p.a).1 (ap (λ (r : Pair). r.a) e), (Decides-eqb q.b p.b).1 (ap (λ (r : Pair). r.b) e)) refl

    neither : (t : Bool) → ((q.a == p.a) && (q.b == p.b)) ≡ t → (pair_rank q == pair_rank p) ≡ false → t ≡ false
    neither false e apart = refl
    neither true e apart =
        let parts = and_parts _ _ e in
        let first = eqb-true q.a p.a parts.0 in
        let second = eqb-true q.b p.b parts.1 in
        let ranks : pair_rank q ≡ pair_rank p = omega (arith, first, second) in
        absurd (true≢false (sym ((Decides-eqb _ _).1 ranks) ∙ apart))

    by : (t : Bool) → (pair_rank q == pair_rank p) ≡ t → ((q.a == p.a) && (q.b == p.b)) ≡ t
    by true e = both (same_rank q p hq hp ((Decides-eqb _ _).0 e))
    by false e = neither ((q.a == p.a) && (q.b == p.b)) refl e
