-- Which groups are simulated, and which go to sleep, as Box2D 2.x's b2World::Solve and
-- b2Island::Solve: groups wake and sleep as wholes.
use Rattle.std.specs.Prelude.{ℕ, ◌==◌, Bool, false, not, ◌&&◌, ◌||◌, List, map, if◌then◌else◌}
use Rattle.std.specs.List.{list_all, list_any, zip}
use Rattle.pf_shapes.specs.Body.{BodyState, at_rest}

-- some body of the group of this label is awake
abbrev pub is_active : List ℕ → List BodyState → ℕ → Bool
is_active labels bodies label = list_any (λ m. (m.0 == label) && m.1.awake) (zip labels bodies)

-- Activity: the bodies of a group are awake where one of them is
unfoldable pub woken_bodies : List ℕ → List BodyState → List BodyState
woken_bodies labels bodies =
    map (λ m. record m.1 { awake = is_active labels bodies m.0 }) (zip labels bodies)

-- each body of the group of this label has this timer
abbrev pub is_resting : ℕ → List ℕ → List BodyState → ℕ → Bool
is_resting full labels bodies label =
    list_all (λ m. not (m.0 == label) || (m.1.timer == full)) (zip labels bodies)

-- asleep: at rest, with timer 0
abbrev pub at_sleep : BodyState → BodyState
at_sleep b = record (at_rest b) { timer = 0; awake = false }

-- Sleep: the awake bodies of a group stop and sleep where each of its bodies has a full timer
unfoldable pub bodies_after_sleep : ℕ → List ℕ → List BodyState → List BodyState
bodies_after_sleep full labels bodies =
    map
    (λ m. if m.1.awake && is_resting full labels bodies m.0 then at_sleep m.1 else m.1)
    (zip labels bodies)

-- the phase Sleep of a group alone: its bodies stop and sleep where each of them has a full timer
abbrev pub island_after_sleep : ℕ → List BodyState → List BodyState
island_after_sleep full bodies =
    if list_all (λ b. b.timer == full) bodies then map at_sleep bodies else bodies
