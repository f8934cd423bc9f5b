-- A double between 2^52 and 2^53 is whole. So a fraction of units of 2^-24 that is added to a great
-- whole number is rounded to the nearest even, and the great number can be subtracted again.
use Rattle.std.proofs.Common.{◌≡◌, ℕ, zero, suc, ◌+◌, ◌-◌, ◌*◌, ◌/◌, ◌%◌, ◌<◌, ◌≤◌, ◌^◌, ℤ, pos, negsuc, neg_ℤ, ◌+ℤ◌, ◌-ℤ◌, ◌*ℤ◌, false, not, T, ◌⊎◌, inl, inr, ⊎_elim, refl, sym, ap, ◌∙◌, subst, arith, lit<}
use Rattle.std.proofs.lemmas.Bool.{cases_lt}
use Rattle.std.proofs.lemmas.Int.{ints}
use Rattle.std.proofs.lemmas.Nat.{div-add-mod', mod_below}
use Rattle.std.proofs.Math.Nat.{mul-le-mul_right}
use Rattle.std.specs.Int.RustNames.{unsigned_abs}
use Rattle.pf_num.specs.Round.{near}
use Rattle.pf_num.proofs.Nearest.{IsNearest, meets, unique}
use lib.Dec.{is_le, compare_is_eq, eqb, leb→le, nleb→lt, eqb→eq, eqb_refl}
use lib.Ieee.{Float, nan, inf, fin, binary64, up, down, round, size, nearest, units}
use lib.Ieee.Digits.{size-lt, size-le}
use lib.Ieee.Exact.{HasValue}
use lib.Ieee.Nearest.{closest, closest_same}
use lib.Ieee.Order.{drop, kept}
use lib.Ieee.Fits.{round_is}
use lib.Ieee.Scale.{grid, round_same, round_val}
use lib.Pow.{pow_mono}
use Prim.Native.Nat.{compare, Ordering}
use native.Mathlib.Nat.{mul-div_cancel, mul-lt-mul_of_pos_right, lt_of_le_of_lt, eq_of_mul-eq-mul_right}

-- ---- the rounding of the kit is to the nearest, and at a tie to the even number

parts : (o : Ordering) (d r q : ℕ) → (T (is_le o) → r * 2 ≤ q) → (T (not (is_le o)) → q < r * 2) → (T (compare_is_eq o) → r * 2 ≡ q) → (r * 2 ≡ q → T (compare_is_eq o)) → r < q
    → IsNearest (d * q + r) q (nearest d o)
parts Ordering.lt d r q le gt eq is some =
    let low : r * 2 ≤ q = le tt in
    record {
      low = omega arith;
      high = omega arith;
      even_low = λ t. let e : r * 2 ≡ q = omega arith in absurd (is e);
      even_high = λ t. absurd (omega arith);
    }
parts Ordering.eq d r q le gt eq is some =
    let e : r * 2 ≡ q = eq tt in
    tie d r q (d % 2) e refl (mod_below d 2 (omega arith))
  where
    tie : (d r q o : ℕ) → r * 2 ≡ q → o ≡ d % 2 → o < 2 → IsNearest (d * q + r) q (d + o)
    tie d r q zero e h k = record { low = omega arith; high = omega arith; even_low = λ t. omega arith; even_high = λ t. omega arith }
    tie d r q (suc zero) e h k = record { low = omega arith; high = omega arith; even_low = λ t. omega arith; even_high = λ t. omega arith }
    tie d r q (suc (suc o)) e h k = absurd (omega arith)
parts Ordering.gt d r q le gt eq is some =
    let high : q < r * 2 = gt tt in
    record { low = omega arith; high = omega arith; even_low = λ t. absurd (omega arith); even_high = λ t. absurd (omega arith) }

pub closest-meets : (p q : ℕ) → 0 < q → IsNearest p q (closest p q)
closest-meets p q some =
    let r = p % q in
    subst (λ (n : ℕ). IsNearest n q (closest p q)) (div-add-mod' p q)
    (parts (compare (r * 2) q) (p / q) r q (leb→le (r * 2) q) (nleb→lt (r * 2) q) (eqb→eq (r * 2) q) (λ (e : r * 2 ≡ q). subst (λ (x : ℕ). T (eqb (r * 2) x)) e (eqb_refl (r * 2))) (mod_below p q some))

-- ---- a double between 2^52 and 2^53

size_is : (n k : ℕ) → 2 ^ k ≤ n → n < 2 ^ suc k → size n ≡ suc k
size_is n k low high =
    let most : size n ≤ suc k = size-le n (suc k) high in
    ⊎_elim
    (λ (short : size n < suc k).
    let far : 2 ^ size n ≤ 2 ^ k = pow_mono (omega arith) in
    let all = size-lt n in absurd (omega arith))
    (λ (long : suc k ≤ size n). omega arith)
    (cases_lt (size n) (suc k))

-- from one fraction to another
exact_value : (x : Float) (m k : ℕ) → 0 < k → HasValue x false (m * k) k → HasValue x false m 1
exact_value nan m k K h = h
exact_value (inf s) m k K h = h
exact_value (fin s n e) m k K h = (h.0, eq_of_mul-eq-mul_right k K (n * up e * 1) (m * down e) (omega (arith, h.1)))

scaled_up : (n a b : ℕ) → n * (a * b) ≡ n * a * b
scaled_up n a b = omega arith

-- a number of units of 2^-24 between 2^52 and 2^53
module _ (n : ℕ) (low : 2 ^ 76 ≤ n) (high : n < 2 ^ 77) where
  in_units : n * 2 ^ 1074 / 16777216 ≡ n * 2 ^ 1050
  in_units = ap (λ (x : ℕ). x / 16777216) (scaled_up n (2 ^ 1050) 16777216) ∙ mul-div_cancel (n * 2 ^ 1050) (lit< tt)

  dropped : drop 53 (n * 2 ^ 1074) 16777216 ≡ 1074
  dropped =
      let least : 2 ^ 76 * 2 ^ 1050 ≤ n * 2 ^ 1050 = mul-le-mul_right (2 ^ 1050) low in
      let most : n * 2 ^ 1050 < 2 ^ 77 * 2 ^ 1050 = mul-lt-mul_of_pos_right high (lit< tt) in
      ap (λ (x : ℕ). size x - 53) in_units ∙ ap (λ (x : ℕ). x - 53) (size_is (n * 2 ^ 1050) 1126 least most)

  kept_is : kept 53 (n * 2 ^ 1074) 16777216 ≡ closest n 16777216
  kept_is =
      ap (λ (k : ℕ). closest (n * 2 ^ 1074) (16777216 * 2 ^ k)) dropped
      ∙ closest_same (n * 2 ^ 1074) (16777216 * 2 ^ 1074) n 16777216 (lit< tt) (lit< tt) (omega arith)

  grid_is : grid binary64 n 16777216 ≡ closest n 16777216 * 2 ^ 1074
  grid_is = λ i. kept_is i * 2 ^ dropped i

  pub rounded_whole : HasValue (round binary64 false n 16777216) false (closest n 16777216) 1
  rounded_whole =
      let near = closest-meets n 16777216 (lit< tt) in
      let short : closest n 16777216 ≤ 2 ^ 53 = omega (arith, near.high) in
      let most : closest n 16777216 * 2 ^ 1074 ≤ 2 ^ 53 * 2 ^ 1074 = mul-le-mul_right (2 ^ 1074) short in
      exact_value _ (closest n 16777216) (2 ^ 1074) (lit< tt)
      (subst (λ (g : ℕ). HasValue (round binary64 false n 16777216) false g (2 ^ 1074)) grid_is
      (round_val binary64 n 16777216 (subst (λ (g : ℕ). g < 2 ^ 2098) (sym grid_is) (lt_of_le_of_lt most (lit< tt)))))

  pub rounded_units : round binary64 false n 16777216 ≡ units binary64 false (closest n 16777216) 1074
  rounded_units = round_is binary64 false n 16777216 ∙ (λ i. units binary64 false (kept_is i) (dropped i))

-- a whole number there is the double of itself
closest_whole : (m : ℕ) → closest (m * 16777216) 16777216 ≡ m
closest_whole m = let h = closest-meets (m * 16777216) 16777216 (lit< tt) in omega (arith, h.low, h.high)

exact_units : (m : ℕ) → 2 ^ 52 ≤ m → m < 2 ^ 53 → round binary64 false m 1 ≡ units binary64 false m 1074
exact_units m low high =
    round_same binary64 false m 1 (m * 16777216) 16777216 (lit< tt) (lit< tt) (omega arith)
    ∙ rounded_units (m * 16777216) (omega arith) (omega arith)
    ∙ ap (λ (q : ℕ). units binary64 false q 1074) (closest_whole m)

pub rounded_double : (n : ℕ) → 2 ^ 76 ≤ n → n < 2 ^ 77 - 2 ^ 24 → round binary64 false n 16777216 ≡ round binary64 false (closest n 16777216) 1
rounded_double n low high =
    let near = closest-meets n 16777216 (lit< tt) in
    rounded_units n low (omega arith) ∙ sym (exact_units (closest n 16777216) (omega (arith, near.low, near.high)) (omega (arith, near.low, near.high)))

-- ---- the great number subtracted again

-- n is the nearest to p / q, told from a distance that omega can read
near_at : (p n : ℤ) → (2 * unsigned_abs (p -ℤ n *ℤ pos 16777216) ≤ 16777216) → (2 * unsigned_abs (p -ℤ n *ℤ pos 16777216) ≡ 16777216 → unsigned_abs n % 2 ≡ 0)
    → near p (pos 16777216) ≡ n
near_at p n within even =
    unique p (pos 16777216) (near p (pos 16777216)) n (lit< tt) (meets p (pos 16777216) (lit< tt)) (record { within = within; even = even })

distance : (p x : ℤ) (a b : ℕ) → pos a -ℤ pos b ≡ p -ℤ x → 2 * a ≤ 2 * b + 16777216 → 2 * b ≤ 2 * a + 16777216 → 2 * unsigned_abs (p -ℤ x) ≤ 16777216
distance p x a b e low high = rw (← e) (omega (arith, ints))

at_half : (a b : ℕ) → 2 * unsigned_abs (pos a -ℤ pos b) ≡ 16777216 → (2 * a ≡ 2 * b + 16777216) ⊎ (2 * b ≡ 2 * a + 16777216)
at_half a b e = ⊎_elim (λ (h : a < b). inr (omega (arith, ints))) (λ (h : b ≤ a). inl (omega (arith, ints))) (cases_lt a b)

-- p and an even number w of units are n, in parts of a unit, and m is nearest to n
module _ (p : ℤ) (n m w : ℕ) (e : pos n ≡ pos (w * 16777216) +ℤ p) (even : w % 2 ≡ 0) (h : IsNearest n 16777216 m) where
  shifted : (k : ℤ) → k ≡ pos m -ℤ pos w → unsigned_abs k % 2 ≡ m % 2 → pos n -ℤ pos (m * 16777216) ≡ p -ℤ k *ℤ pos 16777216 → near p (pos 16777216) ≡ k
  shifted k is same gap =
      near_at p k
      (distance p (k *ℤ pos 16777216) n (m * 16777216) gap h.low h.high)
      (λ t. let at : 2 * unsigned_abs (pos n -ℤ pos (m * 16777216)) ≡ 16777216 = rw gap t in
      same ∙ ⊎_elim h.even_low h.even_high (at_half n (m * 16777216) at))

  pub near_shifted : near p (pos 16777216) ≡ pos m -ℤ pos w
  near_shifted =
      ⊎_elim
      (λ (less : m < w).
      let k = w - suc m in
      let is : negsuc k ≡ pos m -ℤ pos w = omega (arith, ints) in
      let times : negsuc k *ℤ pos 16777216 ≡ neg_ℤ (pos (suc k * 16777216)) = refl in
      let gap : pos n -ℤ pos (m * 16777216) ≡ p -ℤ neg_ℤ (pos (suc k * 16777216)) = omega (arith, ints) in
      shifted (negsuc k) is (omega arith) (gap ∙ (λ i. p -ℤ sym times i)) ∙ is)
      (λ (more : w ≤ m).
      let k = m - w in
      let is : pos k ≡ pos m -ℤ pos w = omega (arith, ints) in
      let gap : pos n -ℤ pos (m * 16777216) ≡ p -ℤ pos (k * 16777216) = omega (arith, ints) in
      shifted (pos k) is (omega arith) gap ∙ is)
      (cases_lt m w)
