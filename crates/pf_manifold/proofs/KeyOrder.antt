-- The contact points of ascending pairs are in the order of their keys.
use Rattle.std.proofs.Common.{◌≡◌, ℕ, ◌+◌, ◌*◌, ◌^◌, ◌<◌, ◌≤◌, ⊎_elim, true, List, [], ◌∷◌, Option, Some, None, map, refl, ltb-true, eqb-true, arith}
use Rattle.std.proofs.lemmas.Bool.{and_parts, or_cases}
use Rattle.std.proofs.lemmas.List.{map-append}
use Rattle.std.proofs.lemmas.List.Elements.{All-nil, All-append, All-head, All-map, All-tail, All-weaker}
use Rattle.std.specs.List.{AllByRecursion}
use Rattle.std.specs.Prelude.{All}
use Rattle.pf_shapes.specs.declared.fixture.Shape.{Shape}
use Rattle.pf_shapes.specs.declared.fixture.Shape.TheVariants.{Circle, Box}
use Rattle.pf_shapes.specs.declared.scene.TheConstants.{MAX_BODIES}
use Rattle.pf_shapes.specs.Fixture.{Fixture}
use Rattle.pf_shapes.specs.Body.{BodyState}
use Rattle.pf_shapes.specs.Pair.{IsAscending, IsPairOf, Pair, is_before}
use Rattle.pf_manifold.specs.ContactPoint.{ContactPoint}
use Rattle.pf_manifold.specs.PlacedShape.{PlacedShape}
use Rattle.pf_manifold.specs.Collide.{collide}
use Rattle.pf_manifold.specs.Touches.{IsTouchOf, Touch, placed_shape_at, touch_of, touches, touches_between, touches_of}
use Rattle.pf_manifold.specs.Key.{AreTouches, IsKey, IsRising, key_of, rank}
use Rattle.pf_manifold.proofs.Features.{AreAscending, bodies_ascend}
use Rattle.pf_manifold.proofs.FeatureRanges.{box_and_circle_features, boxes_features, circles_features}
use Rattle.pf_manifold.proofs.Rising.{AreBelow, rising-append, rising-weaken}

abbrev touch_rank : Touch → ℕ
touch_rank t = rank (key_of t)

abbrev HasFeature : ContactPoint → Type 0
HasFeature p = p.feature < 2 ^ 8

-- ---- one pair

has_features : (a b : PlacedShape) → All HasFeature (collide a b)
has_features a b = by a.shape refl b.shape refl
  where
    by : (s : Shape) → a.shape ≡ s → (t : Shape) → b.shape ≡ t → All HasFeature (collide a b)
    by (Circle ra) ea (Circle rb) eb = λ k d w. let h = circles_features a b ra rb ea eb k d w in omega (arith, h)
    by (Circle ra) ea (Box hx hy) eb = λ k d w. let h = (box_and_circle_features b a hx hy ra eb ea).1 k d w in omega (arith, h.high)
    by (Box hx hy) ea (Circle rb) eb = λ k d w. let h = (box_and_circle_features a b hx hy rb ea eb).0 k d w in omega (arith, h.high)
    by (Box hx hy) ea (Box kx ky) eb = λ k d w. let h = boxes_features a b hx hy kx ky ea eb k d w in omega (arith, h)

-- the least rank that a point of the pair can have
abbrev pub lowest : Pair → ℕ
lowest p = p.a * 2 ^ 24 + p.b * 2 ^ 8

points_rise : (p : Pair) (points : List ContactPoint) → AreAscending points
    → IsRising (lowest p) (map touch_rank (map (touch_of p) points))
points_rise p [] h = tt
points_rise p (x ∷ []) h = (omega arith, tt)
points_rise p (x ∷ (y ∷ [])) h = (omega arith, (omega (arith, h), tt))
points_rise p (x ∷ (y ∷ (z ∷ rest))) h = absurd h

points_below : (p : Pair) (points : List ContactPoint) → All HasFeature points
    → AreBelow (lowest p + 2 ^ 8) (map touch_rank (map (touch_of p) points))
points_below p [] h = tt
points_below p (x ∷ points) h =
    let first = All-head HasFeature x points h in
    (omega (arith, first), points_below p points (All-tail HasFeature x points h))

between_rise : (p : Pair) (a b : Option PlacedShape) → IsRising (lowest p) (map touch_rank (touches_between p a b))
between_rise p (Some a) (Some b) = points_rise p (collide a b) (bodies_ascend a b)
between_rise p (Some a) None = tt
between_rise p None b = tt

between_below : (p : Pair) (a b : Option PlacedShape)
    → AreBelow (lowest p + 2 ^ 8) (map touch_rank (touches_between p a b))
between_below p (Some a) (Some b) = points_below p (collide a b) (has_features a b)
between_below p (Some a) None = tt
between_below p None b = tt

between_keys : (n : ℕ) (p : Pair) (a b : Option PlacedShape) → n ≤ MAX_BODIES → IsPairOf n p
    → All (λ t. IsKey (key_of t)) (touches_between p a b)
between_keys n p (Some a) (Some b) few is =
    All-map (λ t. IsKey (key_of t)) (touch_of p) (collide a b)
    (All-weaker HasFeature (λ x. IsKey (key_of (touch_of p x))) (λ x small. record {
      order = is.0;
      bodies = omega (arith, is.1, few);
      feature = small;
    }) (collide a b) (has_features a b))
between_keys n p (Some a) None few is = All-nil (λ t. IsKey (key_of t))
between_keys n p None b few is = All-nil (λ t. IsKey (key_of t))

between_bodies : (n : ℕ) (p : Pair) (a b : Option PlacedShape) → IsPairOf n p
    → All (IsTouchOf n) (touches_between p a b)
between_bodies n p (Some a) (Some b) is =
    All-map (IsTouchOf n) (touch_of p) (collide a b)
    (All-weaker HasFeature (λ x. IsTouchOf n (touch_of p x)) (λ x small. is) (collide a b) (has_features a b))
between_bodies n p (Some a) None is = All-nil (IsTouchOf n)
between_bodies n p None b is = All-nil (IsTouchOf n)

-- ---- all pairs

-- a pair that comes before another has lower ranks
pub lower : (p q : Pair) → p.b < 2 ^ 16 → is_before p q ≡ true → lowest p + 2 ^ 8 ≤ lowest q
lower p q small e =
    ⊎_elim
    (λ x. let less = ltb-true p.a q.a x in omega (arith, less, small))
    (λ y.
    let both = and_parts _ _ y in
    let same = eqb-true p.a q.a both.0 in
    let less = ltb-true p.b q.b both.1 in
    omega (arith, same, less))
    (or_cases _ _ e)

-- no pair has a point of a rank below this one
abbrev pub AreFrom : ℕ → List Pair → Type 0
AreFrom least pairs = AllByRecursion (λ p. least ≤ lowest p) pairs

pub behind_from : (p : Pair) (pairs : List Pair) → p.b < 2 ^ 16 → AllByRecursion (λ q. is_before p q ≡ true) pairs
    → AreFrom (lowest p + 2 ^ 8) pairs
behind_from p [] small h = tt
behind_from p (q ∷ pairs) small h = (lower p q small h.0, behind_from p pairs small h.1)

pub from_zero : (pairs : List Pair) → AreFrom 0 pairs
from_zero [] = tt
from_zero (p ∷ pairs) = (omega arith, from_zero pairs)

module _ (fixtures : List Fixture) (bodies : List BodyState) where
  pair_rises : (p : Pair) → IsRising (lowest p) (map touch_rank (touches_of fixtures bodies p))
  unfolding touches_of
  pair_rises p = between_rise p (placed_shape_at fixtures bodies p.a) (placed_shape_at fixtures bodies p.b)

  pair_below : (p : Pair) → AreBelow (lowest p + 2 ^ 8) (map touch_rank (touches_of fixtures bodies p))
  unfolding touches_of
  pair_below p = between_below p (placed_shape_at fixtures bodies p.a) (placed_shape_at fixtures bodies p.b)

  pair_keys : (n : ℕ) (p : Pair) → n ≤ MAX_BODIES → IsPairOf n p
      → All (λ t. IsKey (key_of t)) (touches_of fixtures bodies p)
  unfolding touches_of
  pair_keys n p few is =
      between_keys n p (placed_shape_at fixtures bodies p.a) (placed_shape_at fixtures bodies p.b) few is

  pair_bodies : (n : ℕ) (p : Pair) → IsPairOf n p → All (IsTouchOf n) (touches_of fixtures bodies p)
  unfolding touches_of
  pair_bodies n p is =
      between_bodies n p (placed_shape_at fixtures bodies p.a) (placed_shape_at fixtures bodies p.b) is

  touches_rise : (n least : ℕ) (pairs : List Pair) → n ≤ MAX_BODIES → IsAscending pairs → All (IsPairOf n) pairs
      → AreFrom least pairs → IsRising least (map touch_rank (touches fixtures bodies pairs))
  touches_rise n least [] few up are from = tt
  touches_rise n least (p ∷ pairs) few up are from =
      let first = All-head (IsPairOf n) p pairs are in
      let behind = behind_from p pairs (omega (arith, first.1, few)) up.0 in
      let here = rising-weaken least (lowest p) _ from.0 (pair_rises p) in
      rw (map-append touch_rank (touches_of fixtures bodies p) (touches fixtures bodies pairs))
      (rising-append least (lowest p + 2 ^ 8) _ _ (omega (arith, from.0)) here (pair_below p)
      (touches_rise n (lowest p + 2 ^ 8) pairs few up.1 (All-tail (IsPairOf n) p pairs are) behind))

  touch_keys : (n : ℕ) (pairs : List Pair) → n ≤ MAX_BODIES → All (IsPairOf n) pairs
      → All (λ t. IsKey (key_of t)) (touches fixtures bodies pairs)
  touch_keys n [] few are = All-nil (λ t. IsKey (key_of t))
  touch_keys n (p ∷ pairs) few are =
      All-append (λ t. IsKey (key_of t)) (touches_of fixtures bodies p) (touches fixtures bodies pairs)
      (pair_keys n p few (All-head (IsPairOf n) p pairs are))
      (touch_keys n pairs few (All-tail (IsPairOf n) p pairs are))

  pub touches_in_order : (n : ℕ) (pairs : List Pair) → n ≤ MAX_BODIES → IsAscending pairs → All (IsPairOf n) pairs
      → AreTouches (touches fixtures bodies pairs)
  touches_in_order n pairs few up are = record {
    rising = touches_rise n 0 pairs few up are (from_zero pairs);
    keys = touch_keys n pairs few are;
  }

  pub touches_of_bodies : (n : ℕ) (pairs : List Pair) → All (IsPairOf n) pairs
      → All (IsTouchOf n) (touches fixtures bodies pairs)
  touches_of_bodies n [] are = All-nil (IsTouchOf n)
  touches_of_bodies n (p ∷ pairs) are =
      All-append (IsTouchOf n) (touches_of fixtures bodies p) (touches fixtures bodies pairs)
      (pair_bodies n p (All-head (IsPairOf n) p pairs are))
      (touches_of_bodies n pairs (All-tail (IsPairOf n) p pairs are))
