-- Limits of accumulated impulses.
use Rattle.std.proofs.Common.{ℤ, pos, neg_ℤ, ◌≤ℤ◌, arith}
use Rattle.std.proofs.lemmas.Int.{ints, clamps}
use Rattle.std.specs.Int.{int_min, int_max}
use Rattle.pf_num.specs.Fx.{product, sum}
use Rattle.pf_rot.specs.Vector.{dot}
use Rattle.pf_rows.specs.Row.{Constraint}
use Rattle.pf_solver.specs.Impulse.{ContactState, after_friction_step, after_normal_step, after_round, friction_limit, normal_impulse, relative_velocity, tangent_impulse}

above-max : (a b : ℤ) → a ≤ℤ int_max a b
above-max a b = omega (arith, ints, clamps)

above-clamp : (limit x : ℤ) → neg_ℤ limit ≤ℤ int_max (neg_ℤ limit) (int_min limit x)
above-clamp limit x = omega (arith, ints, clamps)

below-clamp : (limit x : ℤ) → pos 0 ≤ℤ limit → int_max (neg_ℤ limit) (int_min limit x) ≤ℤ limit
below-clamp limit x h = omega (arith, ints, clamps, h)

pub never_pulls : (c : Constraint) (m : ContactState) → pos 0 ≤ℤ (after_round c m).impulses.normal
unfolding after_round after_friction_step after_normal_step normal_impulse
never_pulls c m =
    above-max (pos 0)
    (sum m.impulses.normal (product c.normal_mass (sum (neg_ℤ (dot (relative_velocity c m) c.normal)) c.bias)))

pub within_friction : (c : Constraint) (m : ContactState) → pos 0 ≤ℤ friction_limit c (after_round c m).impulses
    → (neg_ℤ (friction_limit c (after_round c m).impulses) ≤ℤ (after_round c m).impulses.tangent)
    × ((after_round c m).impulses.tangent ≤ℤ friction_limit c (after_round c m).impulses)
unfolding after_round after_friction_step tangent_impulse friction_limit
within_friction c m h = (above-clamp _ _, below-clamp _ _ h)
