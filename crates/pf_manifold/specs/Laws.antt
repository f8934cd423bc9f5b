-- Words of the laws of contact points.
use Rattle.std.specs.Prelude.{◌≡◌, ◌<◌, ◌⊎◌, ℕ, pos, ◌≤ℤ◌, List, map, Some, slice_get}
use Rattle.std.specs.List.Sorted.{IsStrictlyIncreasing}
use Rattle.pf_rot.specs.Vector.{neg}
use Rattle.pf_manifold.specs.ContactPoint.{ContactPoint}
use Rattle.pf_manifold.specs.Key.{Key}

-- each point has a greater feature than the one before it
abbrev pub HaveAscendingFeatures : List ContactPoint → Type 0
HaveAscendingFeatures points = IsStrictlyIncreasing (map (λ p. p.feature) points)

-- no two points have the same feature
abbrev pub HaveDifferentFeatures : List ContactPoint → Type 0
HaveDifferentFeatures points =
    (i j : ℕ) (p q : ContactPoint) → slice_get points i ≡ Some p → slice_get points j ≡ Some q
    → p.feature ≡ q.feature → i ≡ j

-- as many points, with the same separations and the opposite normals
pub record IsMirrored (points others : List ContactPoint) : Type 0 where
  pub normals : map (λ p. p.normal) others ≡ map (λ p. neg p.normal) points
  pub separations : map (λ p. p.separation) others ≡ map (λ p. p.separation) points

-- the bodies overlap at the point, or just touch
abbrev pub IsTouching : ContactPoint → Type 0
IsTouching p = p.separation ≤ℤ pos 0

-- by the first body; of two with the same first body by the second; of two of the same bodies by
-- the feature
abbrev pub IsBefore : Key → Key → Type 0
IsBefore k l =
    (k.a < l.a) ⊎ ((k.a ≡ l.a) × ((k.b < l.b) ⊎ ((k.b ≡ l.b) × (k.feature < l.feature))))
