-- The part of a contact that stays fixed during the rounds, as Box2D-Lite's Arbiter::PreStep: it is
-- made once a tick, from the contact point and from positions, inverse masses and frictions of both
-- bodies.
use Rattle.std.specs.Prelude.{ℤ, pos, neg_ℤ}
use Rattle.std.specs.Int.{int_min, int_max}
use Rattle.pf_num.specs.Fx.{one, sum, difference, product, quotient, root}
use Rattle.pf_rot.specs.Vector.{V2, sub, dot}
use Rattle.pf_manifold.specs.ContactPoint.{ContactPoint}
use Rattle.pf_rows.specs.Row.{Constraint, InverseMass}
use Rattle.pf_solver.specs.declared.constraint.TheConstants.{BIAS_FACTOR, SLOP}

-- the tangent: the normal, a quarter turn clockwise
abbrev pub tangent_of : V2 → V2
tangent_of n = record { x = n.y; y = neg_ℤ n.x }

-- how far from the centre an impulse along this direction acts, squared: the squared arm, less the
-- square of its part along the direction, and not below 0 by roundings
unfoldable pub squared_lever_arm : V2 → V2 → ℤ
squared_lever_arm arm direction =
    int_max (pos 0)
    (difference (dot arm arm) (product (dot arm direction) (dot arm direction)))

-- the inverse of the effective mass along a unit direction, Box2D-Lite's kNormal and kTangent: by
-- how much an impulse of 1 along it changes the relative speed along it
unfoldable pub mobility : InverseMass → InverseMass → V2 → V2 → V2 → ℤ
mobility a b first_arm second_arm direction =
    sum (sum a.inverse_mass b.inverse_mass)
    (sum (product a.inverse_inertia (squared_lever_arm first_arm direction))
    (product b.inverse_inertia (squared_lever_arm second_arm direction)))

-- the effective mass along a direction
abbrev pub effective_mass : InverseMass → InverseMass → V2 → V2 → V2 → ℤ
effective_mass a b first_arm second_arm direction =
    quotient one (mobility a b first_arm second_arm direction)

-- Baumgarte's bias: the separating speed aimed at, BIAS_FACTOR times the overlap beyond the slop,
-- and 0 within it
unfoldable pub bias_of : ℤ → ℤ
bias_of separation =
    neg_ℤ (product BIAS_FACTOR (int_min (pos 0) (sum separation SLOP)))

-- the coefficient of friction of two bodies: the geometric mean of both, as Box2D mixes them
unfoldable pub friction_of : ℤ → ℤ → ℤ
friction_of first second = root (product first second)

-- a body as the pre-step sees it
pub record PreStepBody : Type 0 where
  pub position : V2
  pub mass : InverseMass
  pub friction : ℤ

-- the constraint of a contact point of two bodies
unfoldable pub constraint_of : PreStepBody → PreStepBody → ContactPoint → Constraint
constraint_of a b point =
    let first_arm = sub point.position a.position in
    let second_arm = sub point.position b.position in
    let tangent = tangent_of point.normal in
    record {
      normal = point.normal;
      tangent = tangent;
      first_arm = first_arm;
      second_arm = second_arm;
      normal_mass = effective_mass a.mass b.mass first_arm second_arm point.normal;
      tangent_mass = effective_mass a.mass b.mass first_arm second_arm tangent;
      bias = bias_of point.separation;
      friction = friction_of a.friction b.friction;
    }
