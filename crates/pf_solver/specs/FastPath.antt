-- The fast path of warm starting and of rounds: motions at which no sum saturates and each product
-- fits 64 bits. In units of 2^-24.
use Rattle.std.specs.Prelude.{◌≡◌, ◌⊎◌, ℕ, ◌+◌, ◌^◌, ◌≤◌}
use Rattle.std.specs.Int.RustNames.{unsigned_abs}
use Rattle.pf_rot.specs.Vector.{V2}
use Rattle.pf_rows.specs.declared.limits.TheConstants.{DIRECTION_LIMIT, SPEED_LIMIT, SPIN_LIMIT}
use Rattle.pf_rows.specs.Row.{Constraint, InverseMass, no_mass}
use Rattle.pf_rows.specs.Small.{HasShortDirections, HasSmallNumbers, IsHeavy, IsShort, IsSmallArm}
use Rattle.pf_solver.specs.Impulse.{ContactState, Motion}
use Rattle.pf_solver.specs.Velocities.{static_motion}

-- the mass of a body at a contact: its own, or none
abbrev pub IsMassOf : InverseMass → InverseMass → Type 0
IsMassOf own given = (given ≡ own) ⊎ (given ≡ no_mass)

-- an arm that can stand for that of a body in a round: any one can, where the body is static
abbrev pub IsArmFor : Motion → V2 → V2 → Type 0
IsArmFor body own given = (given ≡ own) ⊎ (body ≡ static_motion)

-- a heavy body, at most this fast along each axis, that turns at most this fast
pub record IsMotionWithin (speed turning : ℕ) (m : Motion) : Type 0 where
  pub velocity : IsShort speed m.velocity
  pub spin : unsigned_abs m.spin ≤ turning
  pub mass : IsHeavy m.mass

-- both bodies of a contact are so
pub record AreMotionsWithin (speed turning : ℕ) (m : ContactState) : Type 0 where
  pub first : IsMotionWithin speed turning m.first
  pub second : IsMotionWithin speed turning m.second

-- before a warm start or a round
abbrev pub IsSlow : Motion → Type 0
IsSlow m = IsMotionWithin SPEED_LIMIT SPEED_LIMIT m

abbrev pub AreSlow : ContactState → Type 0
AreSlow m = AreMotionsWithin SPEED_LIMIT SPEED_LIMIT m

-- between its two steps
abbrev pub IsPushed : Motion → Type 0
IsPushed m = IsMotionWithin (2 ^ 35) SPIN_LIMIT m

abbrev pub ArePushed : ContactState → Type 0
ArePushed m = AreMotionsWithin (2 ^ 35) SPIN_LIMIT m

-- both arms are small, for the masses that the bodies have
pub record HasSmallArms (c : Constraint) (m : ContactState) : Type 0 where
  pub first : IsSmallArm m.first.mass c.first_arm
  pub second : IsSmallArm m.second.mass c.second_arm

-- a small constraint, for heavy bodies, that is a contact's own but for the arms of static bodies
pub record StandsFor (own : Constraint) (m : ContactState) (c : Constraint) : Type 0 where
  pub same : c ≡ record own { first_arm = c.first_arm; second_arm = c.second_arm }
  pub first_arm : IsArmFor m.first own.first_arm c.first_arm
  pub second_arm : IsArmFor m.second own.second_arm c.second_arm
  pub directions : HasShortDirections DIRECTION_LIMIT c
  pub numbers : HasSmallNumbers c
  pub arms : HasSmallArms c m
  pub first_mass : IsHeavy m.first.mass
  pub second_mass : IsHeavy m.second.mass

-- how much one impulse can change a body
pub record IsNudged (before after : Motion) : Type 0 where
  pub x : unsigned_abs after.velocity.x ≤ unsigned_abs before.velocity.x + 2 ^ 34
  pub y : unsigned_abs after.velocity.y ≤ unsigned_abs before.velocity.y + 2 ^ 34
  pub spin : unsigned_abs after.spin ≤ unsigned_abs before.spin + 2 ^ 38
  pub mass : after.mass ≡ before.mass

-- both bodies of a contact
pub record AreNudged (before after : ContactState) : Type 0 where
  pub first : IsNudged before.first after.first
  pub second : IsNudged before.second after.second
