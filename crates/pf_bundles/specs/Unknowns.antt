-- The unknowns of the rounds: the velocity and the spin of each body, and the accumulated
-- impulses of each row.
use Rattle.std.specs.Prelude.{List, [], ℤ, pos}
use Rattle.pf_rot.specs.Vector.{V2, zero_vector}
use Rattle.pf_rows.specs.Impulses.{Impulses}

-- the velocity and the spin of a body
pub record Velocity : Type 0 where
  pub velocity : V2
  pub spin : ℤ

-- of a body at rest
abbrev pub no_velocity : Velocity
no_velocity = record { velocity = zero_vector; spin = pos 0 }

-- a velocity for each body, and accumulated impulses for each row
pub record Unknowns : Type 0 where
  pub velocities : List Velocity
  pub impulses : List Impulses

-- of no bodies and no rows
abbrev pub no_unknowns : Unknowns
no_unknowns = record { velocities = []; impulses = [] }
