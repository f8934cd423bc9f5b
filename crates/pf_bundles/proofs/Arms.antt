-- Limits of spins and of impulses, by how short the arms are.
use Rattle.std.proofs.Common.{◌≡◌, ℕ, ◌*◌, ◌<◌, ◌≤◌, ℤ, ⊎_elim, sym, subst, arith}
use Rattle.std.proofs.Math.Nat.{mul-le-mul_right}
use Rattle.std.specs.Prelude.{IsSome, None, Option}
use Rattle.std.specs.Int.RustNames.{unsigned_abs}
use Rattle.pf_rot.specs.Vector.{V2}
use Rattle.pf_rows.specs.Row.{Constraint, InverseMass}
use Rattle.pf_rows.specs.Small.{HasShortArms, IsShort}
use Rattle.pf_bundles.specs.LaneRow.{ContactFits}
use Rattle.pf_bundles.specs.Limits.{AreGreatest, HasShortProducts, IsPushLimit, IsPushLimitOf, IsSpinLimit, IsTriedPush, IsTriedSpin}

-- ---- arms that are short enough for a limit of spins, and the other way round

vector_with : (bound spin : ℕ) (v : V2) → ((x : ℕ) → x ≤ bound → 2 * spin * x < 9007199254740992) → IsShort bound v → HasShortProducts (2 * spin) v
vector_with bound spin v exact short = record { x = exact _ short.x; y = exact _ short.y }

vector_of : (bound spin : ℕ) (v : V2) → ((x : ℕ) → 2 * spin * x < 9007199254740992 → x ≤ bound) → HasShortProducts (2 * spin) v → IsShort bound v
vector_of bound spin v short exact = record { x = short _ exact.x; y = short _ exact.y }

limit_with : (bound spin : ℕ) (c : Constraint) → spin ≤ 1073741824 → ((x : ℕ) → x ≤ bound → 2 * spin * x < 9007199254740992)
    → HasShortArms bound c → IsSpinLimit c spin
limit_with bound spin c small exact arms = record {
  limit = small;
  first_arm = vector_with bound spin c.first_arm exact arms.first;
  second_arm = vector_with bound spin c.second_arm exact arms.second;
}

arms_of : (bound spin : ℕ) (c : Constraint) → ((x : ℕ) → 2 * spin * x < 9007199254740992 → x ≤ bound) → IsSpinLimit c spin → HasShortArms bound c
arms_of bound spin c short limit = record {
  first = vector_of bound spin c.first_arm short limit.first_arm;
  second = vector_of bound spin c.second_arm short limit.second_arm;
}

pub quarter_limit : (c : Constraint) → HasShortArms 4194303 c → IsSpinLimit c 1073741824
quarter_limit c h = limit_with 4194303 1073741824 c (omega arith) (λ x l. omega (arith, l)) h

pub half_limit : (c : Constraint) → HasShortArms 8388607 c → IsSpinLimit c 536870912
half_limit c h = limit_with 8388607 536870912 c (omega arith) (λ x l. omega (arith, l)) h

pub short_limit : (c : Constraint) → HasShortArms 16777215 c → IsSpinLimit c 268435456
short_limit c h = limit_with 16777215 268435456 c (omega arith) (λ x l. omega (arith, l)) h

pub middle_limit : (c : Constraint) → HasShortArms 33554431 c → IsSpinLimit c 134217728
middle_limit c h = limit_with 33554431 134217728 c (omega arith) (λ x l. omega (arith, l)) h

pub long_limit : (c : Constraint) → HasShortArms 134217727 c → IsSpinLimit c 33554432
long_limit c h = limit_with 134217727 33554432 c (omega arith) (λ x l. omega (arith, l)) h

pub longest_limit : (c : Constraint) → HasShortArms 536870911 c → IsSpinLimit c 8388608
longest_limit c h = limit_with 536870911 8388608 c (omega arith) (λ x l. omega (arith, l)) h

quarter_arms : (c : Constraint) → IsSpinLimit c 1073741824 → HasShortArms 4194303 c
quarter_arms c h = arms_of 4194303 1073741824 c (λ x l. omega (arith, l)) h

half_arms : (c : Constraint) → IsSpinLimit c 536870912 → HasShortArms 8388607 c
half_arms c h = arms_of 8388607 536870912 c (λ x l. omega (arith, l)) h

short_arms : (c : Constraint) → IsSpinLimit c 268435456 → HasShortArms 16777215 c
short_arms c h = arms_of 16777215 268435456 c (λ x l. omega (arith, l)) h

middle_arms : (c : Constraint) → IsSpinLimit c 134217728 → HasShortArms 33554431 c
middle_arms c h = arms_of 33554431 134217728 c (λ x l. omega (arith, l)) h

long_arms : (c : Constraint) → IsSpinLimit c 33554432 → HasShortArms 134217727 c
long_arms c h = arms_of 134217727 33554432 c (λ x l. omega (arith, l)) h

longest_arms : (c : Constraint) → IsSpinLimit c 8388608 → HasShortArms 536870911 c
longest_arms c h = arms_of 536870911 8388608 c (λ x l. omega (arith, l)) h

-- arms that are shorter are short
pub shorter_arms : (less bound : ℕ) (c : Constraint) → less ≤ bound → HasShortArms less c → HasShortArms bound c
shorter_arms less bound c h arms = record {
  first = record { x = omega (arith, h, arms.first.x); y = omega (arith, h, arms.first.y) };
  second = record { x = omega (arith, h, arms.second.x); y = omega (arith, h, arms.second.y) };
}

-- ---- limits of impulses

-- impulses that change a spin by less change it by no more than that
pub more_spin : (c : Constraint) (a b : InverseMass) (less spin push : ℕ) → less ≤ spin → IsPushLimit c a b less push → IsPushLimit c a b spin push
more_spin c a b less spin push h limit = record {
  limit = limit.limit;
  first = of_body a c.first_arm limit.first;
  second = of_body b c.second_arm limit.second;
}
  where
    of_body : (m : InverseMass) (arm : V2) → IsPushLimitOf m arm less push → IsPushLimitOf m arm spin push
    of_body m arm l = record {
      moment = l.moment;
      change = l.change;
      exact = l.exact;
      turn = let more : less * 281474976710656 ≤ spin * 281474976710656 = mul-le-mul_right 281474976710656 h in omega (arith, more, l.turn);
    }

-- ---- where there are limits

tried_arms : (c : Constraint) (spin : ℕ) → IsTriedSpin spin → IsSpinLimit c spin → HasShortArms 536870911 c
tried_arms c spin tried limit =
    ⊎_elim (λ (e : spin ≡ 1073741824). shorter_arms 4194303 536870911 c (omega arith) (quarter_arms c (subst (IsSpinLimit c) e limit)))
    (⊎_elim (λ (e : spin ≡ 536870912). shorter_arms 8388607 536870911 c (omega arith) (half_arms c (subst (IsSpinLimit c) e limit)))
    (⊎_elim (λ (e : spin ≡ 268435456). shorter_arms 16777215 536870911 c (omega arith) (short_arms c (subst (IsSpinLimit c) e limit)))
    (⊎_elim (λ (e : spin ≡ 134217728). shorter_arms 33554431 536870911 c (omega arith) (middle_arms c (subst (IsSpinLimit c) e limit)))
    (⊎_elim (λ (e : spin ≡ 33554432). shorter_arms 134217727 536870911 c (omega arith) (long_arms c (subst (IsSpinLimit c) e limit)))
    (λ (e : spin ≡ 8388608). longest_arms c (subst (IsSpinLimit c) e limit))))))
    tried

pub fitting_arms : (a b : InverseMass) (c : Constraint) → ContactFits a b c → HasShortArms 536870911 c
fitting_arms a b c fits = tried_arms c fits.limits.spin fits.limits.tried_spin fits.limits.limits.spins

-- where no limit of impulses that is tried fits a greatest spin, there are no limits
pub unfitting : (a b : InverseMass) (c : Constraint) (spin : ℕ) → ((other : ℕ) → IsTriedSpin other → IsSpinLimit c other → other ≤ spin)
    → ((other : ℕ) → IsTriedPush other → IsPushLimit c a b spin other → ⊥) → ContactFits a b c → ⊥
unfitting a b c spin greatest none fits =
    let l = fits.limits in
    none l.push l.tried_push
    (more_spin c a b l.spin spin l.push (greatest l.spin l.tried_spin l.limits.spins) l.limits.pushes)

pub are_greatest : (a b : InverseMass) (c : Constraint) (spin push : ℕ) (s p : ℤ) → unsigned_abs s ≡ spin → unsigned_abs p ≡ push
    → ((other : ℕ) → IsTriedSpin other → IsSpinLimit c other → other ≤ spin)
    → ((other : ℕ) → IsTriedPush other → IsPushLimit c a b spin other → other ≤ push)
    → AreGreatest c a b (unsigned_abs s) (unsigned_abs p)
are_greatest a b c spin push s p es ep spins pushes =
    subst (λ n. AreGreatest c a b n (unsigned_abs p)) (sym es)
    (subst (λ n. AreGreatest c a b spin n) (sym ep) (record { spins = spins; pushes = pushes }))

pub no_some : {A : Type 0} (o : Option A) → o ≡ None → IsSome o → ⊥
no_some o e h = grind (arith, e, h)
