-- Sums in another order, where nothing saturates, and with the other sign.
use Rattle.std.proofs.Common.{◌≡◌, ◌∙◌, ◌≤◌, ℤ, ◌+ℤ◌, ◌-ℤ◌, neg_ℤ, refl, sym, ap, arith}
use Rattle.std.proofs.lemmas.Int.{ints}
use Rattle.std.proofs.Math.IntN.{neg_ℤ-neg_ℤ}
use Rattle.std.specs.Int.RustNames.{unsigned_abs}
use Rattle.pf_num.specs.Fx.{difference, product, saturate, sum}
use Rattle.pf_rot.specs.Vector.{V2, add, cross_sv, sub}
use Rattle.pf_rows.specs.Small.{IsShort}
use Rattle.pf_bundles.specs.Limits.{HasShortProducts}
use Rattle.pf_lanes.proofs.Numbers.{difference_is, sum_is}
use Rattle.pf_lanes.proofs.ShiftedNumbers.{product_small}
use Rattle.pf_batches.proofs.Sizes.{differences}

-- ---- the other sign

-- a difference from an opposite number is a sum
pub less_opposite : (a b : ℤ) → difference a (neg_ℤ b) ≡ sum a b
less_opposite a b = differences a (neg_ℤ b) ∙ ap (sum a) (neg_ℤ-neg_ℤ b)

-- what a speed lacks to another one
pub lacking : (speed wanted : ℤ) → difference wanted speed ≡ sum (neg_ℤ speed) wanted
unfolding difference sum
lacking speed wanted = let turned : wanted -ℤ speed ≡ neg_ℤ speed +ℤ wanted = omega (arith, ints) in ap saturate turned

-- ---- relative velocities

-- velocities s and f along an axis, and what spins make of them, p and q
module _ (s f p q : ℤ) (hs : unsigned_abs s ≤ 2251799813685248) (hf : unsigned_abs f ≤ 2251799813685248) (hp : unsigned_abs p ≤ 536870912) (hq : unsigned_abs q ≤ 536870912) where
  relative_x : sum (difference s f) (difference q p) ≡ difference (sum s (neg_ℤ p)) (sum f (neg_ℤ q))
  relative_x =
      let regrouped : (s -ℤ f) +ℤ (q -ℤ p) ≡ (s +ℤ neg_ℤ p) -ℤ (f +ℤ neg_ℤ q) = omega (arith, ints) in
      (λ i. sum (difference_is s f (omega arith) i) (difference_is q p (omega arith) i))
      ∙ sum_is (s -ℤ f) (q -ℤ p) (omega (arith, ints)) ∙ regrouped
      ∙ sym (difference_is (s +ℤ neg_ℤ p) (f +ℤ neg_ℤ q) (omega (arith, ints)))
      ∙ (λ i. difference (sym (sum_is s (neg_ℤ p) (omega (arith, ints))) i) (sym (sum_is f (neg_ℤ q) (omega (arith, ints))) i))

  relative_y : sum (difference s f) (difference p q) ≡ difference (sum s p) (sum f q)
  relative_y =
      let regrouped : (s -ℤ f) +ℤ (p -ℤ q) ≡ (s +ℤ p) -ℤ (f +ℤ q) = omega (arith, ints) in
      (λ i. sum (difference_is s f (omega arith) i) (difference_is p q (omega arith) i))
      ∙ sum_is (s -ℤ f) (p -ℤ q) (omega (arith, ints)) ∙ regrouped
      ∙ sym (difference_is (s +ℤ p) (f +ℤ q) (omega (arith, ints)))
      ∙ (λ i. difference (sym (sum_is s p (omega arith)) i) (sym (sum_is f q (omega arith)) i))

-- the relative velocity of points at arms, of bodies of these velocities and spins
pub relative : (s f : V2) (sw fw : ℤ) (sa fa r : V2) → IsShort 2251799813685248 s → IsShort 2251799813685248 f
    → HasShortProducts (unsigned_abs sw) sa → HasShortProducts (unsigned_abs fw) fa
    → r.x ≡ sum (difference s.x f.x) (difference (product fw fa.y) (product sw sa.y))
    → r.y ≡ sum (difference s.y f.y) (difference (product sw sa.x) (product fw fa.x))
    → r ≡ sub (add s (cross_sv sw sa)) (add f (cross_sv fw fa))
unfolding sub add cross_sv
relative s f sw fw sa fa r hs hf hsa hfa ex ey =
    let sx = product_small sw sa.x (product sw sa.x) hsa.x refl in
    let sy = product_small sw sa.y (product sw sa.y) hsa.y refl in
    let fx = product_small fw fa.x (product fw fa.x) hfa.x refl in
    let fy = product_small fw fa.y (product fw fa.y) hfa.y refl in
    let x = ex ∙ relative_x s.x f.x (product sw sa.y) (product fw fa.y) hs.x hf.x sy fy in
    let y = ey ∙ relative_y s.y f.y (product sw sa.x) (product fw fa.x) hs.y hf.y sx fx in
    λ i. record { x = x i; y = y i }
