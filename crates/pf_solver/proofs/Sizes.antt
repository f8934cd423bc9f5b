-- How great products and clamped numbers can be.
use Rattle.std.proofs.Common.{◌≡◌, ℕ, ◌+◌, ◌*◌, ◌≤◌, ℤ, neg_ℤ, ⊎_elim, sym, subst, arith}
use Rattle.std.proofs.lemmas.Int.{ints, clamps}
use Rattle.std.proofs.Math.Nat.{mul-le-mul, mul-le-mul_left}
use Rattle.std.specs.Int.{int_max, int_min}
use Rattle.std.specs.Int.RustNames.{unsigned_abs}
use Rattle.pf_rot.specs.Vector.{V2, zero_vector}
use Rattle.pf_rows.specs.Row.{InverseMass, no_mass}
use Rattle.pf_rows.specs.Small.{IsHeavy, IsShort, IsSmallArm}
use Rattle.pf_solver.specs.FastPath.{IsMassOf}

-- a product of numbers up to m and n is at most m * n
pub times_within : (a b m n : ℕ) → a ≤ m → b ≤ n → a * b ≤ m * n
times_within a b m n ha hb = mul-le-mul ha hb

-- a rounded product is at most 2^38 where the exact one is at most 2^62
pub shifted_within : (p r : ℕ) → p ≤ 4611686018427387904 → r * 33554432 ≤ p * 2 + 16777216 → r ≤ 274877906944
shifted_within p r exact rounded = omega (arith, exact, rounded)

-- a number that is clamped by a limit on both sides is at most as great as the limit
pub clamped_within : (limit z : ℤ) (n : ℕ) → unsigned_abs limit ≤ n
    → unsigned_abs (int_max (neg_ℤ limit) (int_min limit z)) ≤ n
clamped_within limit z n h = omega (arith, ints, clamps)

-- an inverse inertia j times a rounded product of an arm and an impulse is at most 2^60 + 2^39
half_turn : (j arm impulse r : ℕ) → j ≤ 34359738368 → j * arm ≤ 72057594037927936
    → impulse ≤ 268435456 → r * 33554432 ≤ arm * impulse * 2 + 16777216 → j * r ≤ 1152921521786716160
half_turn j arm impulse r light turn short rounded =
    let scaled : j * (r * 33554432) ≤ j * (arm * impulse * 2 + 16777216) = mul-le-mul_left j rounded in
    let exact : (j * arm) * impulse ≤ 72057594037927936 * 268435456 = mul-le-mul turn short in
    let parts : j * (r * 33554432) ≡ (j * r) * 33554432 = grind arith in
    let sums : j * (arm * impulse * 2 + 16777216) ≡ ((j * arm) * impulse) * 2 + j * 16777216 = grind arith in
    omega (arith, scaled, exact, parts, sums, light)

-- and times a difference of two such products it is at most 2^62
pub turn_within : (j x y p q r s t : ℕ) → j ≤ 34359738368 → j * x ≤ 72057594037927936
    → j * y ≤ 72057594037927936 → p ≤ 268435456 → q ≤ 268435456
    → r * 33554432 ≤ x * q * 2 + 16777216 → s * 33554432 ≤ y * p * 2 + 16777216
    → t ≤ r + s → j * t ≤ 4611686018427387904
turn_within j x y p q r s t light turn_x turn_y short_p short_q first second sum =
    let one = half_turn j x q r light turn_x short_q first in
    let two = half_turn j y p s light turn_y short_p second in
    let most : j * t ≤ j * (r + s) = mul-le-mul_left j sum in
    let parts : j * (r + s) ≡ j * r + j * s = grind arith in
    omega (arith, one, two, most, parts)

-- the same of the parts of a mass, an arm and an impulse
pub turn_of : (m : InverseMass) (arm a impulse p : V2) (r s t : ℕ) → a ≡ arm → p ≡ impulse
    → IsHeavy m → IsSmallArm m arm → IsShort 268435456 impulse
    → r * 33554432 ≤ unsigned_abs a.x * unsigned_abs p.y * 2 + 16777216
    → s * 33554432 ≤ unsigned_abs a.y * unsigned_abs p.x * 2 + 16777216
    → t ≤ r + s → unsigned_abs m.inverse_inertia * t ≤ 4611686018427387904
turn_of m arm a impulse p r s t same_a same_p heavy small short first second sum =
    let small_a : IsSmallArm m a = subst (IsSmallArm m) (sym same_a) small in
    let short_p : IsShort 268435456 p = subst (IsShort 268435456) (sym same_p) short in
    turn_within _ _ _ _ _ r s t heavy.inverse_inertia small_a.turn_x small_a.turn_y
    short_p.x short_p.y first second sum

-- what holds of a body's own mass, and of none, holds of the mass that it has at a contact
pub heavy : (own given : InverseMass) → IsMassOf own given → IsHeavy own → IsHeavy given
heavy own given is h =
    ⊎_elim (λ (e : given ≡ own). subst IsHeavy (sym e) h)
    (λ (e : given ≡ no_mass).
    subst IsHeavy (sym e) (record { inverse_mass = omega arith; inverse_inertia = omega arith }))
    is

pub arm_for_mass : (own given : InverseMass) (arm : V2) → IsMassOf own given → IsSmallArm own arm → IsSmallArm given arm
arm_for_mass own given arm is h =
    ⊎_elim (λ (e : given ≡ own). subst (λ m. IsSmallArm m arm) (sym e) h)
    (λ (e : given ≡ no_mass).
    subst (λ m. IsSmallArm m arm) (sym e)
    (record { short = h.short; turn_x = omega arith; turn_y = omega arith }))
    is

-- an arm of no length is small
pub no_arm : (given : InverseMass) → IsSmallArm given zero_vector
no_arm given = record {
  short = record { x = omega arith; y = omega arith };
  turn_x = omega arith;
  turn_y = omega arith;
}
