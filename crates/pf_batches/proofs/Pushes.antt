-- What impulses within the limits of a lane do to bodies: it is exact, and their spins stay small.
use Rattle.std.proofs.Common.{◌≡◌, ℕ, ◌+◌, ◌*◌, ◌<◌, ◌≤◌, ℤ, pos, ◌≤ℤ◌, sym, subst, arith}
use Rattle.std.proofs.lemmas.Int.{ints, clamps}
use Rattle.std.proofs.Math.Nat.{mul-le-mul_left, mul-le-mul_right}
use Rattle.std.specs.Int.RustNames.{unsigned_abs}
use Rattle.pf_num.specs.Fx.{difference, product, saturate, sum}
use Rattle.pf_num.proofs.Range.{product_bound}
use Rattle.pf_rot.specs.Vector.{V2, cross}
use Rattle.pf_rows.specs.Row.{Constraint, InverseMass}
use Rattle.pf_rows.specs.Small.{IsShort}
use Rattle.pf_bundles.specs.Limits.{AreLimits, HasShortProducts, IsPushLimit, IsPushLimitOf, IsSmallConstraint, IsSpinLimit, arm_reach}
use Rattle.pf_solver.specs.Impulse.{ContactState, after_impulse, first_after, second_after}
use Rattle.pf_batches.specs.Limits.{IsImpulseExact, IsExactOn, IsReady, SpinsGrown, SpinsWithin}

-- ---- spins

-- a spin within the limit, and one of at most twice as much, has exact products with an arm
spin_products : (spin s : ℕ) (arm : V2) → s ≤ 2 * spin → HasShortProducts (2 * spin) arm → HasShortProducts s arm
spin_products spin s arm h limit = record {
  x = let m : s * unsigned_abs arm.x ≤ 2 * spin * unsigned_abs arm.x = mul-le-mul_right (unsigned_abs arm.x) h in omega (arith, m, limit.x);
  y = let m : s * unsigned_abs arm.y ≤ 2 * spin * unsigned_abs arm.y = mul-le-mul_right (unsigned_abs arm.y) h in omega (arith, m, limit.y);
}

-- and so has an impulse
pub exact_products : (spin twice : ℤ) (n : ℕ) (c : Constraint) → unsigned_abs twice ≡ 2 * unsigned_abs spin
    → pos n ≤ℤ twice → IsSpinLimit c (unsigned_abs spin)
    → HasShortProducts n c.first_arm × HasShortProducts n c.second_arm
exact_products spin twice n c e h limit =
    let within : n ≤ 2 * unsigned_abs spin = omega (arith, ints, e, h) in (
      spin_products (unsigned_abs spin) n c.first_arm within limit.first_arm,
      spin_products (unsigned_abs spin) n c.second_arm within limit.second_arm,
    )

-- ---- one body

difference_size : (a b : ℤ) → unsigned_abs (difference a b) ≤ unsigned_abs a + unsigned_abs b
unfolding difference saturate
difference_size a b = omega (arith, ints, clamps)

sum_size : (a b : ℤ) → unsigned_abs (sum a b) ≤ unsigned_abs a + unsigned_abs b
unfolding sum saturate
sum_size a b = omega (arith, ints, clamps)

module _ (m : InverseMass) (arm impulse : V2) (spin push : ℕ) (limit : IsPushLimitOf m arm spin push) (short : IsShort push impulse) where
  -- the products of a part of the impulse with the arm
  moments : (n : ℕ) → n ≤ push → HasShortProducts n arm
  moments n h =
      let all : push * arm_reach arm ≡ push * unsigned_abs arm.x + push * unsigned_abs arm.y = grind arith in
      record {
        x = let l : n * unsigned_abs arm.x ≤ push * unsigned_abs arm.x = mul-le-mul_right (unsigned_abs arm.x) h in omega (arith, l, all, limit.moment);
        y = let l : n * unsigned_abs arm.y ≤ push * unsigned_abs arm.y = mul-le-mul_right (unsigned_abs arm.y) h in omega (arith, l, all, limit.moment);
      }

  change : (n : ℕ) → n ≤ push → n * unsigned_abs m.inverse_mass < 9007199254740992
  change n h = let l : n * unsigned_abs m.inverse_mass ≤ push * unsigned_abs m.inverse_mass = mul-le-mul_right (unsigned_abs m.inverse_mass) h in omega (arith, l, limit.change)

  -- how the impulse turns the body
  turn_size : unsigned_abs (cross arm impulse) * 16777216 ≤ push * arm_reach arm + 16777216
  unfolding cross
  turn_size =
      let first = product_bound arm.x impulse.y in
      let second = product_bound arm.y impulse.x in
      let x : unsigned_abs arm.x * unsigned_abs impulse.y ≤ unsigned_abs arm.x * push = mul-le-mul_left (unsigned_abs arm.x) short.y in
      let y : unsigned_abs arm.y * unsigned_abs impulse.x ≤ unsigned_abs arm.y * push = mul-le-mul_left (unsigned_abs arm.y) short.x in
      let all : push * arm_reach arm ≡ unsigned_abs arm.x * push + unsigned_abs arm.y * push = grind arith in
      omega (arith, difference_size (product arm.x impulse.y) (product arm.y impulse.x), first, second, x, y, all)

  -- and what that changes of its spin
  exact_turn : unsigned_abs (cross arm impulse) * unsigned_abs m.inverse_inertia ≤ spin * 16777216
  exact_turn =
      let t = unsigned_abs (cross arm impulse) in
      let j = unsigned_abs m.inverse_inertia in
      let scaled : t * 16777216 * j ≤ (push * arm_reach arm + 16777216) * j = mul-le-mul_right j turn_size in
      let turned : t * 16777216 * j ≡ t * j * 16777216 = grind arith in
      omega (arith, scaled, turned, limit.turn)

  below_limit : unsigned_abs (cross arm impulse) * unsigned_abs m.inverse_inertia < 9007199254740992
  below_limit =
      let t = unsigned_abs (cross arm impulse) in
      let j = unsigned_abs m.inverse_inertia in
      let scaled : t * 16777216 * j ≤ (push * arm_reach arm + 16777216) * j = mul-le-mul_right j turn_size in
      let turned : t * 16777216 * j ≡ t * j * 16777216 = grind arith in
      omega (arith, scaled, turned, limit.exact)

  pub is_exact_on : IsExactOn m arm impulse
  is_exact_on = record {
    moment_x = moments _ short.x;
    moment_y = moments _ short.y;
    change_x = change _ short.x;
    change_y = change _ short.y;
    turn = below_limit;
  }

  pub spin_change : unsigned_abs (product m.inverse_inertia (cross arm impulse)) ≤ spin
  spin_change =
      let bound = product_bound m.inverse_inertia (cross arm impulse) in
      let turned : unsigned_abs m.inverse_inertia * unsigned_abs (cross arm impulse) ≡ unsigned_abs (cross arm impulse) * unsigned_abs m.inverse_inertia = grind arith in
      omega (arith, bound, turned, exact_turn)

-- ---- both bodies

pub pushes_are_exact : (c : Constraint) (m : ContactState) (impulse : V2) (spin push : ℕ) → AreLimits c m.first.mass m.second.mass spin push
    → IsShort push impulse → IsImpulseExact c m impulse
pushes_are_exact c m impulse spin push limits short = record {
  first = is_exact_on m.first.mass c.first_arm impulse spin push limits.pushes.first short;
  second = is_exact_on m.second.mass c.second_arm impulse spin push limits.pushes.second short;
}

spins_grown : (c : Constraint) (m after : ContactState) (impulse : V2) (spin push : ℕ)
    → IsPushLimit c m.first.mass m.second.mass spin push → IsShort push impulse → after ≡ after_impulse c impulse m
    → SpinsGrown spin m after
unfolding after_impulse first_after second_after
spins_grown c m after impulse spin push pushes short e =
    subst (SpinsGrown spin m) (sym e)
    (record {
      first =
          omega (
            arith,
            difference_size m.first.spin (product m.first.mass.inverse_inertia (cross c.first_arm impulse)),
            spin_change m.first.mass c.first_arm impulse spin push pushes.first short,
          );
      second =
          omega (
            arith,
            sum_size m.second.spin (product m.second.mass.inverse_inertia (cross c.second_arm impulse)),
            spin_change m.second.mass c.second_arm impulse spin push pushes.second short,
          );
    })

-- ---- a step may begin

ready : (c : Constraint) (m : ContactState) (spin : ℕ) → IsSmallConstraint c → IsSpinLimit c spin → SpinsWithin (2 * spin) m → IsReady c m
ready c m spin small limit spins = record {
  small = small;
  spins = record { first = omega (arith, spins.first, limit.limit); second = omega (arith, spins.second, limit.limit) };
  first = spin_products spin (unsigned_abs m.first.spin) c.first_arm spins.first limit.first_arm;
  second = spin_products spin (unsigned_abs m.second.spin) c.second_arm spins.second limit.second_arm;
}

pub is_ready : (c : Constraint) (m : ContactState) (spin : ℕ) → IsSmallConstraint c → IsSpinLimit c spin → SpinsWithin spin m → IsReady c m
is_ready c m spin small limit spins =
    ready c m spin small limit (record { first = omega (arith, spins.first); second = omega (arith, spins.second) })

-- and after an impulse within the limits the next one may
pub still_ready : (c : Constraint) (m after : ContactState) (impulse : V2) (spin push : ℕ) → AreLimits c m.first.mass m.second.mass spin push
    → IsShort push impulse → after ≡ after_impulse c impulse m → SpinsWithin spin m → IsReady c after
still_ready c m after impulse spin push limits short e spins =
    let grown = spins_grown c m after impulse spin push limits.pushes short e in
    ready c after spin limits.small limits.spins
    (record { first = omega (arith, spins.first, grown.first); second = omega (arith, spins.second, grown.second) })

-- ---- in a lane

-- impulses along a direction are within a limit where twice what is added is
pub short_push : (t limit : ℤ) (n : ℕ) (v : V2) → unsigned_abs t ≡ 2 * n → pos (unsigned_abs t) ≤ℤ limit → IsShort (2 * n) v → IsShort (unsigned_abs limit) v
short_push t limit n v e h short = record {
  x = omega (arith, ints, e, h, short.x);
  y = omega (arith, ints, e, h, short.y);
}
