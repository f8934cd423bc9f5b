-- The contact points of pairs of bodies of a scene, as Box2D 2.x's b2ContactManager::Collide.
-- Bodies are numbered from 0.
use Rattle.std.specs.Prelude.{ℕ, List, [], map, Option, Some, None, slice_get}
use Rattle.std.specs.List.{flat_map}
use Rattle.pf_shapes.specs.Fixture.{Fixture}
use Rattle.pf_shapes.specs.Body.{BodyState}
use Rattle.pf_shapes.specs.Pair.{IsPairOf, Pair}
use Rattle.pf_manifold.specs.ContactPoint.{ContactPoint}
use Rattle.pf_manifold.specs.PlacedShape.{PlacedShape}
use Rattle.pf_manifold.specs.Collide.{collide}

-- a contact point of two bodies
pub record Touch : Type 0 where
  pub a : ℕ
  pub b : ℕ
  pub point : ContactPoint

-- the contact point of a pair
abbrev pub touch_of : Pair → ContactPoint → Touch
touch_of p point = record { a = p.a; b = p.b; point = point }

-- a contact point of two of n bodies, the lesser number first
abbrev pub IsTouchOf : ℕ → Touch → Type 0
IsTouchOf n t = IsPairOf n (record { a = t.a; b = t.b })

-- the shape of a body, if there is one
abbrev pub placed_shape : Option Fixture → Option BodyState → Option PlacedShape
placed_shape (Some f) (Some b) =
    Some (record { shape = f.shape; position = b.position; rotation = b.rotation })
placed_shape f b = None

-- the shape of the body of a number, if there is one
abbrev pub placed_shape_at : List Fixture → List BodyState → ℕ → Option PlacedShape
placed_shape_at fixtures bodies i = placed_shape (slice_get fixtures i) (slice_get bodies i)

-- the contact points of a pair of these shapes
abbrev pub touches_between : Pair → Option PlacedShape → Option PlacedShape → List Touch
touches_between p (Some a) (Some b) = map (touch_of p) (collide a b)
touches_between p a b = []

-- the contact points of one pair
unfoldable pub touches_of : List Fixture → List BodyState → Pair → List Touch
touches_of fixtures bodies p =
    touches_between p (placed_shape_at fixtures bodies p.a) (placed_shape_at fixtures bodies p.b)

-- the contact points of these pairs, one pair after the other
abbrev pub touches : List Fixture → List BodyState → List Pair → List Touch
touches fixtures bodies pairs = flat_map (touches_of fixtures bodies) pairs
