-- Contacts that wake no body: then groups are awake as wholes, and only the contacts that are
-- simulated have to be looked at, as Box2D 2.x's b2World::Solve begins islands at awake bodies.
use Rattle.std.specs.Prelude.{◌≡◌, ℕ, Bool, true, not, ◌&&◌, ◌||◌, List, All, length, map}
use Rattle.pf_shapes.specs.Body.{BodyState}
use Rattle.pf_shapes.specs.Scene.{Scene}
use Rattle.pf_manifold.specs.Touches.{IsTouchOf, Touch}
use Rattle.pf_islands.specs.Reach.{connects}
use Rattle.pf_islands.specs.Rows.{active_points, is_active_contact, is_awake_at}

-- contact points without their places
abbrev pub touches_of : List (ℕ × Touch) → List Touch
touches_of points = map (λ m. m.1) points

-- a contact that is simulated wakes no body: it does not connect its bodies, or both are awake
abbrev pub wakes_none : Scene → List BodyState → Touch → Bool
wakes_none s bodies t =
    not (connects s t) || (is_awake_at bodies t.a && is_awake_at bodies t.b)

-- no contact that is simulated wakes a body
abbrev pub AreSettled : Scene → List BodyState → List Touch → Type 0
AreSettled s bodies touches =
    All (λ t. is_active_contact s bodies t ≡ true → wakes_none s bodies t ≡ true) touches

-- these are the contact points that are simulated, of some that wake no body; `contacts` is the
-- number of all these
pub record AreSettledPoints
    (s : Scene) (bodies : List BodyState) (contacts : ℕ) (points : List (ℕ × Touch))
    : Type 0 where
  pub touches : List Touch
  pub of_bodies : All (IsTouchOf (length bodies)) touches
  pub as_many : contacts ≡ length touches
  pub settled : AreSettled s bodies touches
  pub active : points ≡ active_points s bodies touches
