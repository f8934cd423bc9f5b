-- The whole root meets its inequality, and is the only number that does.
use Rattle.std.proofs.Common.{◌≡◌, ℕ, zero, suc, ◌+◌, ◌*◌, ◌^◌, ◌<◌, ◌≤◌, ⊎_elim, arith}
use Rattle.std.proofs.lemmas.Bool.{cases_lt, cases_order}
use Rattle.std.proofs.lemmas.Bool.Decides.{nat_tests}
use Rattle.std.proofs.Math.Nat.{mul-le-mul}
use Rattle.std.specs.Prelude.{nat_le, if◌then◌else◌}
use Rattle.pf_num.specs.Root.{IsRoot, whole_root}

-- the step from n to n + 1
next_root : (n r : ℕ) → IsRoot n r → IsRoot (suc n) (if nat_le ((r + 1) * (r + 1)) (suc n) then r + 1 else r)
next_root n r h =
    ⊎_elim
    (λ (low : suc n < (r + 1) * (r + 1)).
    let e : (if nat_le ((r + 1) * (r + 1)) (suc n) then r + 1 else r) ≡ r = grind (arith, nat_tests) in
    rw e (record { within = omega (arith, h.within); greatest = low }))
    (λ (high : (r + 1) * (r + 1) ≤ suc n).
    let e : (if nat_le ((r + 1) * (r + 1)) (suc n) then r + 1 else r) ≡ r + 1 = grind (arith, nat_tests) in
    rw e (record { within = high; greatest = omega (arith, h.greatest) }))
    (cases_lt (suc n) ((r + 1) * (r + 1)))

pub whole_root-meets : (n : ℕ) → IsRoot n (whole_root n)
unfolding whole_root
whole_root-meets zero = record { within = omega arith; greatest = omega arith }
whole_root-meets (suc n) = next_root n (whole_root n) (whole_root-meets n)

not_below : (n r s : ℕ) → IsRoot n r → IsRoot n s → r < s → ⊥
not_below n r s hr hs below =
    let squares : (r + 1) * (r + 1) ≤ s * s = mul-le-mul (omega arith) (omega arith) in
    omega (arith, hr.greatest, hs.within)

same_root : (n r s : ℕ) → IsRoot n r → IsRoot n s → r ≡ s
same_root n r s hr hs =
    ⊎_elim (λ (e : r ≡ s). e)
    (λ h. ⊎_elim (λ (l : r < s). absurd (not_below n r s hr hs l)) (λ (g : s < r). absurd (not_below n s r hs hr g)) h)
    (cases_order r s)

pub root_is : (n r : ℕ) → IsRoot n r → whole_root n ≡ r
root_is n r h = same_root n (whole_root n) r (whole_root-meets n) h

-- the root of a number below a square is below its root
pub root_below : (n k : ℕ) → n < k * k → whole_root n < k
root_below n k h =
    ⊎_elim (λ (l : whole_root n < k). l)
    (λ (g : k ≤ whole_root n). absurd
    (let squares : k * k ≤ whole_root n * whole_root n = mul-le-mul g g in omega (arith, (whole_root-meets n).within)))
    (cases_lt (whole_root n) k)

-- the root of a number from a square on is at least its root
pub root_from : (n k : ℕ) → k * k ≤ n → k ≤ whole_root n
root_from n k h =
    ⊎_elim
    (λ (l : whole_root n < k). absurd
    (let squares : (whole_root n + 1) * (whole_root n + 1) ≤ k * k = mul-le-mul (omega arith) (omega arith) in omega (arith, (whole_root-meets n).greatest)))
    (λ (g : k ≤ whole_root n). g)
    (cases_lt (whole_root n) k)

pub raw_root_below : (raw : ℕ) → raw < 2 ^ 55 → whole_root (raw * 16777216) < 2 ^ 40
raw_root_below raw h = root_below (raw * 16777216) (2 ^ 40) (omega arith)
