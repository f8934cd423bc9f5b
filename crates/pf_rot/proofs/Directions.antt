-- Cosine and sine of a unit rotation are at most 1: neither part of a direction is above its
-- length.
use Rattle.std.proofs.Common.{◌≡◌, ℕ, ◌+◌, ◌*◌, ◌<◌, ◌≤◌, ℤ, pos, false, ⊎_elim, arith, eqb}
use Rattle.std.proofs.lemmas.Bool.{cases_lt}
use Rattle.std.proofs.lemmas.Bool.Decides.{nat_tests}
use Rattle.std.proofs.lemmas.Int.{ints, clamps}
use Rattle.std.specs.Int.RustNames.{unsigned_abs}
use Rattle.pf_num.specs.Root.{whole_root}
use Rattle.pf_num.specs.Fx.{IsRaw, saturate, sum, difference, product, tick}
use Rattle.pf_num.proofs.Range.{sum-raw, difference-raw}
use Rattle.pf_num.proofs.Roots.{root_from}
use Rattle.pf_num.proofs.AtMostOne.{quotient_at_most_one}
use Rattle.pf_rot.specs.Vector.{length_of}
use Rattle.pf_rot.specs.Rotation.{Rot, unit_parts, unit, turn_by_angle, turn}
use Rattle.pf_rot.specs.Laws.{IsAtMostOne}

root-saturated : (c r : ℕ) → c ≤ 36028797018963967 → c ≤ r → c ≤ unsigned_abs (saturate (pos r))
unfolding saturate
root-saturated c r raw h = omega (arith, ints, clamps)

length_reaches : (c s : ℤ) → IsRaw c → IsRaw s →
    (unsigned_abs c ≤ unsigned_abs (length_of (record { x = c; y = s }))) × (unsigned_abs s ≤ unsigned_abs (length_of (record { x = c; y = s })))
unfolding length_of
length_reaches c s raw_c raw_s =
    let a = unsigned_abs c in
    let b = unsigned_abs s in (
      root-saturated a (whole_root (a * a + b * b)) raw_c (root_from (a * a + b * b) a (omega arith)),
      root-saturated b (whole_root (a * a + b * b)) raw_s (root_from (a * a + b * b) b (omega arith)),
    )

scaled_at_most_one : (length c s : ℤ) → unsigned_abs c ≤ unsigned_abs length → unsigned_abs s ≤ unsigned_abs length → IsAtMostOne (unit_parts length c s)
scaled_at_most_one length c s hc hs =
    ⊎_elim
    (λ (some : 0 < unsigned_abs length).
    let e : eqb (unsigned_abs length) 0 ≡ false = grind (arith, nat_tests) in
    rw e (record { c = quotient_at_most_one c length hc some; s = quotient_at_most_one s length hs some }))
    (λ (none : unsigned_abs length ≤ 0).
    let e : unsigned_abs length ≡ 0 = omega arith in
    rw e (record { c = omega arith; s = omega arith }))
    (cases_lt 0 (unsigned_abs length))

pub unit_at_most_one : (c s : ℤ) → IsRaw c → IsRaw s → IsAtMostOne (unit c s)
unfolding unit
unit_at_most_one c s raw_c raw_s =
    let reaches = length_reaches c s raw_c raw_s in
    scaled_at_most_one (length_of (record { x = c; y = s })) c s reaches.0 reaches.1

turned_by_at_most_one : (q : Rot) (a : ℤ) → IsAtMostOne q → IsAtMostOne (turn_by_angle q a)
turned_by_at_most_one q a h =
    ⊎_elim
    (λ (some : 0 < unsigned_abs a).
    let e : eqb (unsigned_abs a) 0 ≡ false = grind (arith, nat_tests) in
    rw e (unit_at_most_one (difference q.c (product a q.s)) (sum q.s (product a q.c)) (difference-raw _ _) (sum-raw _ _)))
    (λ (none : unsigned_abs a ≤ 0).
    let e : unsigned_abs a ≡ 0 = omega arith in
    rw e h)
    (cases_lt 0 (unsigned_abs a))

pub turned_at_most_one : (q : Rot) (spin : ℤ) → IsAtMostOne q → IsAtMostOne (turn q spin)
unfolding turn
turned_at_most_one q spin h = turned_by_at_most_one q (product tick spin) h
