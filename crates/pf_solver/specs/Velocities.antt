-- The velocity phase over one list of contacts, as Box2D-Lite's World::Step: warm starting along
-- the list, and then rounds, each along the whole list. Each contact is solved with the velocities
-- that the one before it left (Gauss-Seidel).
use Rattle.std.specs.Prelude.{ℕ, zero, suc, pos, List, [], ◌∷◌, slice_index_or, slice_set}
use Rattle.pf_rot.specs.Vector.{zero_vector}
use Rattle.pf_shapes.specs.Body.{BodyState, no_state}
use Rattle.pf_rows.specs.declared.row.Side.{Side}
use Rattle.pf_rows.specs.declared.row.Side.TheVariants.{Static, Dynamic}
use Rattle.pf_rows.specs.Row.{Constraint, InverseMass, Row, no_mass}
use Rattle.pf_solver.specs.Impulse.{ContactState, Motion}

-- a static body at a contact: it does not move, and no impulse moves it
abbrev pub static_motion : Motion
static_motion = record { velocity = zero_vector; spin = pos 0; mass = no_mass }

-- the motion of a body of this mass
abbrev pub motion_of : InverseMass → BodyState → Motion
motion_of mass b = record { velocity = b.velocity; spin = b.spin; mass = mass }

-- a body with the velocity and the spin of a motion
abbrev pub body_with : Motion → BodyState → BodyState
body_with m b = record b { velocity = m.velocity; spin = m.spin }

-- the motion of the body on a side
unfoldable pub motion_at : List BodyState → InverseMass → Side → Motion
motion_at bodies mass Static = static_motion
motion_at bodies mass (Dynamic place) = motion_of mass (slice_index_or bodies place no_state)

-- the bodies where the one on a side has this motion
unfoldable pub with_motion : List BodyState → Side → Motion → List BodyState
with_motion bodies Static m = bodies
with_motion bodies (Dynamic place) m =
    slice_set bodies place (body_with m (slice_index_or bodies place no_state))

-- the bodies of a row, and its accumulated impulses
unfoldable pub contact_state : List BodyState → Row → ContactState
contact_state bodies r = record {
  first = motion_at bodies r.first_mass r.entry.first;
  second = motion_at bodies r.second_mass r.entry.second;
  impulses = r.entry.impulses;
}

-- what a contact does to its bodies and to its accumulated impulses: a warm start or a round
abbrev pub Step : Type 0
Step = Constraint → ContactState → ContactState

-- the bodies with the motions that a row leaves
abbrev pub bodies_with : ContactState → List BodyState → Row → List BodyState
bodies_with m bodies r =
    with_motion (with_motion bodies r.entry.first m.first) r.entry.second m.second

-- the row with the impulses that it has accumulated
abbrev pub row_with : ContactState → Row → Row
row_with m r = record r { entry = record r.entry { impulses = m.impulses } }

-- the bodies after the step of one row
unfoldable pub bodies_after : Step → List BodyState → Row → List BodyState
bodies_after step bodies r = bodies_with (step r.constraint (contact_state bodies r)) bodies r

-- the row after its step
unfoldable pub row_after : Step → List BodyState → Row → Row
row_after step bodies r = row_with (step r.constraint (contact_state bodies r)) r

-- bodies, and rows in the order in which they are solved
pub record Batch : Type 0 where
  pub bodies : List BodyState
  pub rows : List Row

-- the step of each row, with the velocities that the row before it left
unfoldable pub pass : Step → List BodyState → List Row → Batch
pass step bodies [] = record { bodies = bodies; rows = [] }
pass step bodies (r ∷ rows) =
    let rest = pass step (bodies_after step bodies r) rows in
    record { bodies = rest.bodies; rows = row_after step bodies r ∷ rest.rows }

-- so many passes, one after the other
unfoldable pub passes : ℕ → Step → Batch → Batch
passes zero step b = b
passes (suc n) step b = let before = passes n step b in pass step before.bodies before.rows
