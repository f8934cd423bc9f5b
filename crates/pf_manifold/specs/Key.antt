-- The key of a contact point, as Box2D-Lite's ArbiterKey and FeaturePair, and the order of keys.
use Rattle.std.specs.Prelude.{ℕ, suc, ◌+◌, ◌*◌, ◌^◌, ◌<◌, ◌≤◌, List, [], ◌∷◌, map, All}
use Rattle.pf_shapes.specs.declared.scene.TheConstants.{MAX_BODIES}
use Rattle.pf_manifold.specs.Touches.{Touch}

-- the bodies of a contact, and the feature that makes its point
pub record Key : Type 0 where
  pub a : ℕ
  pub b : ℕ
  pub feature : ℕ

-- two bodies of a scene, the lesser number first, and a feature of two shapes
pub record IsKey (k : Key) : Type 0 where
  pub order : k.a < k.b
  pub bodies : k.b < MAX_BODIES
  pub feature : k.feature < 2 ^ 8

-- the key of a contact point
abbrev pub key_of : Touch → Key
key_of t = record { a = t.a; b = t.b; feature = t.point.feature }

-- keys are in the order of their ranks: by the first body, then the second, then the feature
abbrev pub rank : Key → ℕ
rank k = k.a * 2 ^ 24 + (k.b * 2 ^ 8 + k.feature)

-- each number is above all before it, and the first is at least this one
abbrev pub IsRising : ℕ → List ℕ → Type 0
IsRising least [] = Unit {0}
IsRising least (n ∷ ns) = (least ≤ n) × IsRising (suc n) ns

-- contact points in the order of their keys, each key once
pub record AreTouches (touches : List Touch) : Type 0 where
  pub rising : IsRising 0 (map (λ t. rank (key_of t)) touches)
  pub keys : All (λ t. IsKey (key_of t)) touches
