-- The rows of a tick: the contacts that are simulated, as the solver takes them.
use Rattle.std.specs.Prelude.{ℕ, ◌<◌, Bool, not, ◌&&◌, ◌||◌, List, length, map, filter}
use Rattle.std.specs.Prelude.{slice_index_or, if◌then◌else◌}
use Rattle.std.specs.List.{enumerate_from}
use Rattle.pf_shapes.specs.Body.{BodyState, no_state}
use Rattle.pf_shapes.specs.Scene.{Scene, is_static_at}
use Rattle.pf_manifold.specs.Touches.{Touch}
use Rattle.pf_rows.specs.declared.row.Side.{Side}
use Rattle.pf_rows.specs.declared.row.Side.TheVariants.{Static, Dynamic}
use Rattle.pf_cache.specs.Contact.{Contact, no_contact}
use Rattle.pf_rows.specs.Row.{IsEntryOf, Row, new_row}

-- where the body of a number stands for the solver: at its number, unless it is static
abbrev pub side_of : Scene → ℕ → Side
side_of s number = if is_static_at s number then Static else Dynamic number

-- the row of a contact point and its contact, which stands at this place
unfoldable pub row_of : Scene → ℕ → Touch → Contact → Row
row_of s place t c =
    new_row (record {
      touch = t;
      impulses = c.impulses;
      place = place;
      first = side_of s t.a;
      second = side_of s t.b;
    })

-- a row of two bodies of the scene, whose sides are static or different places below `bodies`
pub record IsRowOf (s : Scene) (bodies : ℕ) (r : Row) : Type 0 where
  pub first : r.entry.touch.a < length s.fixtures
  pub second : r.entry.touch.b < length s.fixtures
  pub sides : IsEntryOf bodies r.entry

-- the body of a number is awake
abbrev pub is_awake_at : List BodyState → ℕ → Bool
is_awake_at bodies number = (slice_index_or bodies number no_state).awake

-- the body of a number is dynamic and awake
abbrev pub is_simulated_at : Scene → List BodyState → ℕ → Bool
is_simulated_at s bodies number = not (is_static_at s number) && is_awake_at bodies number

-- a contact is simulated where one of its bodies is
unfoldable pub is_active_contact : Scene → List BodyState → Touch → Bool
is_active_contact s bodies t = is_simulated_at s bodies t.a || is_simulated_at s bodies t.b

-- the contact points that are simulated, each with its place
abbrev pub active_points : Scene → List BodyState → List Touch → List (ℕ × Touch)
active_points s bodies touches =
    filter (λ m. is_active_contact s bodies m.1) (enumerate_from 0 touches)

-- their rows, with the contacts at their places
abbrev pub active_rows : Scene → List BodyState → List Touch → List Contact → List Row
active_rows s bodies touches contacts =
    map (λ m. row_of s m.0 m.1 (slice_index_or contacts m.0 no_contact))
    (active_points s bodies touches)
