-- When kept contact points are reused.
use Rattle.std.proofs.Common.{◌≡◌, ℕ, zero, suc, ◌<◌, ◌==◌, ◌||◌, Bool, true, false, ◌&&◌, Option, Some, None, List, [], ◌∷◌, length, refl, sym, ap, ap₂, ◌∙◌, true≢false, arith}
use Rattle.std.specs.Bool.{Decides}
use Rattle.std.specs.List.{Contains, slice_index_or}
use Rattle.std.proofs.lemmas.Bool.{and_parts}
use Rattle.std.proofs.lemmas.Bool.Decides.{Decides-and, Decides-eqb, Decides-like}
use Rattle.pf_shapes.specs.Pair.{Pair}
use Rattle.pf_manifold.specs.PlacedShape.{PlacedShape}
use Rattle.pf_cache.specs.Laws.{IsUnmoved}
use Rattle.pf_cache.specs.Manifolds.{Manifolds, are_same_shapes, lists_pair, is_reusable, is_unmoved}
use Rattle.pf_cache.proofs.Unmoved.{Decides-placed}

pub Decides-pair : (q p : Pair) → Decides ((q.a == p.a) && (q.b == p.b)) (q ≡ p)
Decides-pair q p =
    Decides-like ((q.a == p.a) && (q.b == p.b)) (λ e i. record {
      a = e.0 i;
      b = e.1 i;
    })
    (λ e. (ap (λ (x : Pair). x.a) e, ap (λ (x : Pair). x.b) e))
    (Decides-and _ _ (Decides-eqb q.a p.a) (Decides-eqb q.b p.b))

-- a pair is listed exactly where the test finds it
found : (pairs : List Pair) (p : Pair) → lists_pair pairs p ≡ true → Contains pairs p
found [] p e = absurd (true≢false (sym e))
found (q ∷ pairs) p e = by _ refl e (found pairs p)
  where
    by : (t : Bool) → ((q.a == p.a) && (q.b == p.b)) ≡ t → (t || lists_pair pairs p) ≡ true
        → (lists_pair pairs p ≡ true → Contains pairs p) → Contains (q ∷ pairs) p
    by true same here behind = (0, omega arith, (Decides-pair q p).0 same)
    by false other there behind =
        let at = behind there in
        (suc at.0, omega (arith, at.1), at.2)

pub listed : (pairs : List Pair) (p : Pair) → Contains pairs p → lists_pair pairs p ≡ true
listed pairs p at = by pairs at.0 at.1 at.2
  where
    any : (t : Bool) → (t || true) ≡ true
    any true = refl
    any false = refl

    by : (ps : List Pair) (k : ℕ) → k < length ps → slice_index_or ps k p ≡ p → lists_pair ps p ≡ true
    by [] k l e = absurd (omega (arith, l))
    by (q ∷ ps) zero l e = ap (λ t. t || lists_pair ps p) ((Decides-pair q p).1 e)
    by (q ∷ ps) (suc k) l e =
        ap (λ t. ((q.a == p.a) && (q.b == p.b)) || t) (by ps k (omega (arith, l)) e) ∙ any _

-- a body is unmoved exactly where both lists have the same shape of it
same_shapes : (o m : Option PlacedShape) → are_same_shapes o m ≡ true → (s : PlacedShape) × (o ≡ Some s) × (m ≡ Some s)
same_shapes (Some a) (Some b) e = (a, refl, ap Some (sym ((Decides-placed a b).0 e)))
same_shapes (Some a) None e = absurd (true≢false (sym e))
same_shapes None m e = absurd (true≢false (sym e))

shapes_same : (o m : Option PlacedShape) (s : PlacedShape) → o ≡ Some s → m ≡ Some s → are_same_shapes o m ≡ true
shapes_same o m s old new = ap₂ are_same_shapes old new ∙ (Decides-placed s s).1 refl

pub unmoved_is : (old shapes : List PlacedShape) (i : ℕ) → is_unmoved old shapes i ≡ true → IsUnmoved old shapes i
unmoved_is old shapes i e = same_shapes _ _ e

pub is_unmoved_where : (old shapes : List PlacedShape) (i : ℕ) → IsUnmoved old shapes i → is_unmoved old shapes i ≡ true
is_unmoved_where old shapes i h = shapes_same _ _ h.0 h.1 h.2

pub reused : (m : Manifolds) (shapes : List PlacedShape) (p : Pair) → is_reusable m shapes p ≡ true
    → Contains m.pairs p × IsUnmoved m.shapes shapes p.a × IsUnmoved m.shapes shapes p.b
reused m shapes p e =
    let parts = and_parts _ _ e in
    let both = and_parts _ _ parts.1 in
    (found m.pairs p parts.0, unmoved_is m.shapes shapes p.a both.0, unmoved_is m.shapes shapes p.b both.1)

pub reusable : (m : Manifolds) (shapes : List PlacedShape) (p : Pair)
    → Contains m.pairs p × IsUnmoved m.shapes shapes p.a × IsUnmoved m.shapes shapes p.b
    → is_reusable m shapes p ≡ true
reusable m shapes p h =
    ap₂ (λ s t. s && t) (listed m.pairs p h.0)
    (ap₂ (λ s t. s && t) (is_unmoved_where m.shapes shapes p.a h.1) (is_unmoved_where m.shapes shapes p.b h.2))
