-- The manifold of two bodies, as Box2D 2.x's b2Manifold: a list of contact points.
use Rattle.std.specs.Prelude.{List, [], ◌∷◌, Option, Some, None}
use Rattle.pf_manifold.specs.declared.manifold.Manifold.{Manifold}
use Rattle.pf_manifold.specs.declared.manifold.Manifold.TheVariants.{Apart, One, Two}
use Rattle.pf_manifold.specs.ContactPoint.{ContactPoint}

-- the list of no point or of one
abbrev pub at_most_one : Option ContactPoint → List ContactPoint
at_most_one None = []
at_most_one (Some p) = p ∷ []

-- the points of a manifold, in order
abbrev pub points_of : Manifold → List ContactPoint
points_of Apart = []
points_of (One p) = p ∷ []
points_of (Two p q) = p ∷ q ∷ []
