-- What is added to accumulated impulses, so that they stay within their bounds.
use Rattle.std.proofs.Common.{◌≡◌, ◌∙◌, ℕ, ◌+◌, ◌≤◌, ℤ, pos, neg_ℤ, ◌+ℤ◌, ◌-ℤ◌, ap, sym, subst, arith}
use Rattle.std.proofs.lemmas.Int.{ints, clamps}
use Rattle.std.specs.Int.{int_max, int_min}
use Rattle.std.specs.Int.RustNames.{unsigned_abs}
use Rattle.pf_num.specs.Fx.{difference, product, saturate, sum}
use Rattle.pf_num.proofs.Operations.{product-neg}
use Rattle.pf_rot.specs.Vector.{dot}
use Rattle.pf_rows.specs.Row.{Constraint}
use Rattle.pf_solver.specs.Impulse.{ContactState, friction_limit, relative_velocity, tangent_impulse}
use Rattle.pf_lanes.proofs.Numbers.{difference_is, sum_is}
use Rattle.pf_batches.specs.Limits.{IsAddition}

-- a product with an opposite number
pub opposite_product : (m p : ℤ) → neg_ℤ (product m p) ≡ product m (neg_ℤ p)
opposite_product m p = sym (product-neg m p)

-- ---- at least 0 in all

module _ (old change : ℤ) (old_small : unsigned_abs old ≤ 1125899906842624) (change_small : unsigned_abs change ≤ 536870912) where
  pub normal_added : int_max (neg_ℤ old) change ≡ difference (int_max (pos 0) (sum old change)) old
  unfolding sum difference saturate
  normal_added = omega (arith, ints, clamps, old_small, change_small)

  pub normal_total : sum old (int_max (neg_ℤ old) change) ≡ int_max (pos 0) (sum old change)
  unfolding sum saturate
  normal_total = omega (arith, ints, clamps, old_small, change_small)

  pub normal_size : IsAddition old (int_max (neg_ℤ old) change) (unsigned_abs old + 536870912)
  unfolding sum saturate
  normal_size = record {
    change = omega (arith, ints, clamps, old_small, change_small);
    total = omega (arith, ints, clamps, old_small, change_small);
  }

-- ---- between a limit and its opposite

module _ (old limit change : ℤ) where
  -- in whole numbers, which do not saturate
  shifted : int_max (neg_ℤ limit -ℤ old) (int_min (limit -ℤ old) change) ≡ int_max (neg_ℤ limit) (int_min limit (old +ℤ change)) -ℤ old
  shifted = omega (arith, ints, clamps)

  clamped : (n : ℕ) → unsigned_abs limit ≤ n → unsigned_abs (int_max (neg_ℤ limit) (int_min limit (old +ℤ change))) ≤ n
  clamped n h = omega (arith, ints, clamps, h)

  back : (z : ℤ) → old +ℤ (z -ℤ old) ≡ z
  back z = omega (arith, ints)

  module _ (old_small : unsigned_abs old ≤ 1125900980584448) (limit_small : unsigned_abs limit ≤ 536870912) (change_small : unsigned_abs change ≤ 536870912) where
    total_is : int_max (neg_ℤ limit) (int_min limit (sum old change)) ≡ int_max (neg_ℤ limit) (int_min limit (old +ℤ change))
    total_is = ap (λ z. int_max (neg_ℤ limit) (int_min limit z)) (sum_is old change (omega (arith, old_small, change_small)))

    added_is : int_max (difference (neg_ℤ limit) old) (int_min (difference limit old) change) ≡ int_max (neg_ℤ limit) (int_min limit (old +ℤ change)) -ℤ old
    added_is =
        (λ i. int_max (difference_is (neg_ℤ limit) old (omega (arith, ints, old_small, limit_small)) i) (int_min (difference_is limit old (omega (arith, old_small, limit_small)) i) change))
        ∙ shifted

    size : unsigned_abs (int_max (neg_ℤ limit) (int_min limit (old +ℤ change))) ≤ 536870912
    size = clamped 536870912 limit_small

    pub tangent_added : int_max (difference (neg_ℤ limit) old) (int_min (difference limit old) change)
        ≡ difference (int_max (neg_ℤ limit) (int_min limit (sum old change))) old
    tangent_added =
        added_is ∙ sym (difference_is (int_max (neg_ℤ limit) (int_min limit (old +ℤ change))) old (omega (arith, size, old_small)))
        ∙ ap (λ z. difference z old) (sym total_is)

    pub tangent_total : sum old (int_max (difference (neg_ℤ limit) old) (int_min (difference limit old) change))
        ≡ int_max (neg_ℤ limit) (int_min limit (sum old change))
    tangent_total =
        let total = int_max (neg_ℤ limit) (int_min limit (old +ℤ change)) in
        ap (sum old) added_is ∙ sum_is old (total -ℤ old) (omega (arith, ints, size, old_small)) ∙ back total ∙ sym total_is

    pub tangent_size : IsAddition old (int_max (difference (neg_ℤ limit) old) (int_min (difference limit old) change)) 536870912
    tangent_size =
        let total = int_max (neg_ℤ limit) (int_min limit (old +ℤ change)) in
        record {
          change = subst (λ z. unsigned_abs z ≤ unsigned_abs old + 536870912) (sym added_is) (omega (arith, ints, size));
          total = subst (λ z. unsigned_abs z ≤ 536870912) (sym (tangent_total ∙ total_is)) size;
        }

-- what the step of friction adds to the accumulated tangent impulse
pub record IsFriction (c : Constraint) (m : ContactState) (added : ℤ) : Type 0 where
  pub value : added ≡ difference (tangent_impulse c m) m.impulses.tangent
  pub total : sum m.impulses.tangent added ≡ tangent_impulse c m
  pub size : IsAddition m.impulses.tangent added 536870912

-- by the parts that it is made of
module _ (c : Constraint) (m : ContactState) (added limit change : ℤ) (limit_is : limit ≡ product c.friction m.impulses.normal)
    (change_is : change ≡ neg_ℤ (product c.tangent_mass (dot (relative_velocity c m) c.tangent)))
    (added_by : added ≡ int_max (difference (neg_ℤ limit) m.impulses.tangent) (int_min (difference limit m.impulses.tangent) change))
    (old_small : unsigned_abs m.impulses.tangent ≤ 1125900980584448) (limit_small : unsigned_abs limit ≤ 536870912)
    (change_small : unsigned_abs change ≤ 536870912) where
  abbrev old : ℤ
  old = m.impulses.tangent

  total_by : int_max (neg_ℤ limit) (int_min limit (sum old change)) ≡ tangent_impulse c m
  unfolding tangent_impulse friction_limit
  total_by =
      (λ i. int_max (neg_ℤ (limit_is i)) (int_min (limit_is i) (sum old ((change_is ∙ opposite_product c.tangent_mass (dot (relative_velocity c m) c.tangent)) i))))

  pub is_friction : IsFriction c m added
  is_friction = record {
    value = added_by ∙ tangent_added old limit change old_small limit_small change_small ∙ ap (λ z. difference z old) total_by;
    total = ap (sum old) added_by ∙ tangent_total old limit change old_small limit_small change_small ∙ total_by;
    size = subst (λ z. IsAddition old z 536870912) (sym added_by) (tangent_size old limit change old_small limit_small change_small);
  }
