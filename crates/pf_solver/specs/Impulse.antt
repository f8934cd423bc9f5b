-- Impulses at one contact, as Box2D-Lite's Arbiter::ApplyImpulse with accumulated impulses and warm
-- starting (Catto, GDC 2006).
use Rattle.std.specs.Prelude.{ℤ, pos, neg_ℤ}
use Rattle.std.specs.Int.{int_min, int_max}
use Rattle.pf_num.specs.Fx.{sum, difference, product}
use Rattle.pf_rot.specs.Vector.{V2, add, sub, scale, dot, cross, cross_sv}
use Rattle.pf_rows.specs.Impulses.{Impulses}
use Rattle.pf_rows.specs.Row.{Constraint, InverseMass}

-- what impulses change of a body, and how easily
pub record Motion : Type 0 where
  pub velocity : V2
  pub spin : ℤ
  pub mass : InverseMass

-- the two bodies of a contact, and the impulses that it has accumulated
pub record ContactState : Type 0 where
  pub first : Motion
  pub second : Motion
  pub impulses : Impulses

-- the first body after the reaction to an impulse
unfoldable pub first_after : V2 → V2 → Motion → Motion
first_after arm impulse b = record b {
  velocity = sub b.velocity (scale b.mass.inverse_mass impulse);
  spin = difference b.spin (product b.mass.inverse_inertia (cross arm impulse));
}

-- the second body after an impulse
unfoldable pub second_after : V2 → V2 → Motion → Motion
second_after arm impulse b = record b {
  velocity = add b.velocity (scale b.mass.inverse_mass impulse);
  spin = sum b.spin (product b.mass.inverse_inertia (cross arm impulse));
}

-- both bodies after an impulse at the contact point
unfoldable pub after_impulse : Constraint → V2 → ContactState → ContactState
after_impulse c impulse m = record m {
  first = first_after c.first_arm impulse m.first;
  second = second_after c.second_arm impulse m.second;
}

-- the relative velocity at the contact: of the second body's point, as seen from the first's
unfoldable pub relative_velocity : Constraint → ContactState → V2
relative_velocity c m =
    sub (add m.second.velocity (cross_sv m.second.spin c.second_arm))
    (add m.first.velocity (cross_sv m.first.spin c.first_arm))

-- warm starting: the impulses of the last tick are applied again
unfoldable pub after_warm_start : Constraint → ContactState → ContactState
after_warm_start c m =
    after_impulse c (add (scale m.impulses.normal c.normal) (scale m.impulses.tangent c.tangent)) m

-- the accumulated normal impulse after which the normal velocity at the contact is the bias; at
-- least 0, since a contact never pulls
unfoldable pub normal_impulse : Constraint → ContactState → ℤ
normal_impulse c m =
    int_max (pos 0)
    (sum m.impulses.normal
    (product c.normal_mass (sum (neg_ℤ (dot (relative_velocity c m) c.normal)) c.bias)))

-- Coulomb's limit of friction, by the present accumulated normal impulse
unfoldable pub friction_limit : Constraint → Impulses → ℤ
friction_limit c p = product c.friction p.normal

-- the accumulated tangent impulse that stops sliding, within the limit of friction
unfoldable pub tangent_impulse : Constraint → ContactState → ℤ
tangent_impulse c m =
    let limit = friction_limit c m.impulses in
    int_max (neg_ℤ limit)
    (int_min limit
    (sum m.impulses.tangent
    (product c.tangent_mass (neg_ℤ (dot (relative_velocity c m) c.tangent)))))

-- the normal impulse is accumulated, and what was added is applied
unfoldable pub after_normal_step : Constraint → ContactState → ContactState
after_normal_step c m =
    let total = normal_impulse c m in
    let after = after_impulse c (scale (difference total m.impulses.normal) c.normal) m in
    record after { impulses = record m.impulses { normal = total } }

-- the same for the tangent impulse
unfoldable pub after_friction_step : Constraint → ContactState → ContactState
after_friction_step c m =
    let total = tangent_impulse c m in
    let after = after_impulse c (scale (difference total m.impulses.tangent) c.tangent) m in
    record after { impulses = record m.impulses { tangent = total } }

-- one contact in one round: the normal first, and then friction, by the new velocities
unfoldable pub after_round : Constraint → ContactState → ContactState
after_round c m = after_friction_step c (after_normal_step c m)
