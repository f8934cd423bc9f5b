-- Operations on doubles by the fractions that these are.
use Rattle.std.proofs.Common.{◌≡◌, ℕ, ◌+◌, ◌-◌, ◌*◌, ◌<◌, ◌≤◌, Bool, true, false, not, ◌&&◌, cond, ltb, ⊎_elim, refl, sym, ap, ◌∙◌, arith}
use Rattle.std.proofs.lemmas.Bool.{cases_lt}
use Rattle.std.proofs.lemmas.Bool.Decides.{nat_tests}
use Rattle.std.proofs.Math.Nat.{mul-le-mul_right, mul-sub}
use Rattle.std.specs.Bool.{beq}
use lib.Ieee.{Float, nan, inf, fin, binary64, up, down, round, sum, add, sub, mul, neg, unlike, below, lt}
use lib.Ieee.Exact.{HasValue}
use lib.Ieee.Fits.{down_pos}
use lib.Ieee.Scale.{round_same}
use native.Mathlib.Nat.{mul-pos, mul_comm, mul-lt-mul_of_pos_right}

-- ---- sums

less_scaled : (a b a' b' c c' : ℕ) → 0 < c → 0 < c' → a * c' ≡ a' * c → b * c' ≡ b' * c → a < b → a' < b'
less_scaled a b a' b' c c' C C' p q h =
    ⊎_elim (λ (k : a' < b'). k)
    (λ (k : b' ≤ a'). let l : a * c' < b * c' = mul-lt-mul_of_pos_right h C' in let r : b' * c ≤ a' * c = mul-le-mul_right c k in absurd (omega (arith, l, r, p, q)))
    (cases_lt a' b')

ltb_scaled : (a b a' b' c c' : ℕ) → 0 < c → 0 < c' → a * c' ≡ a' * c → b * c' ≡ b' * c → ltb a b ≡ ltb a' b'
ltb_scaled a b a' b' c c' C C' p q =
    ⊎_elim
    (λ (h : a < b). let k : a' < b' = less_scaled a b a' b' c c' C C' p q h in both_less a b a' b' h k)
    (λ (h : b ≤ a). ⊎_elim
    (λ (k : a' < b'). let l : a < b = less_scaled a' b' a b c' c C' C (sym p) (sym q) k in absurd (omega (arith, h, l)))
    (λ (k : b' ≤ a'). neither_less a b a' b' h k)
    (cases_lt a' b'))
    (cases_lt a b)
  where
    both_less : (a b a' b' : ℕ) → a < b → a' < b' → ltb a b ≡ ltb a' b'
    both_less a b a' b' h k = grind (arith, nat_tests)

    neither_less : (a b a' b' : ℕ) → b ≤ a → b' ≤ a' → ltb a b ≡ ltb a' b'
    neither_less a b a' b' h k = grind (arith, nat_tests)

sub_times : (x y c : ℕ) → (x - y) * c ≡ x * c - y * c
sub_times x y c = mul_comm (x - y) c ∙ mul-sub c x y ∙ (λ i. mul_comm c x i - mul_comm c y i)

-- a sum depends on the fractions alone
pub sum_same : (s t : Bool) (a b c a' b' c' : ℕ) → 0 < c → 0 < c' → a * c' ≡ a' * c → b * c' ≡ b' * c →
    sum binary64 s a t b c ≡ sum binary64 s a' t b' c'
unfolding sum
sum_same s t a b c a' b' c' C C' p q =
    let total : (a + b) * c' ≡ (a' + b') * c = omega (arith, p, q) in
    let more : (b - a) * c' ≡ (b' - a') * c = sub_times b a c' ∙ (λ i. q i - p i) ∙ sym (sub_times b' a' c) in
    let less : (a - b) * c' ≡ (a' - b') * c = sub_times a b c' ∙ (λ i. p i - q i) ∙ sym (sub_times a' b' c) in
    let up_to : ltb a b ≡ ltb a' b' = ltb_scaled a b a' b' c c' C C' p q in
    let down_to : ltb b a ≡ ltb b' a' = ltb_scaled b a b' a' c c' C C' q p in
    let last = round_same binary64 (s && ltb b a) (a - b) c (a' - b') c' C C' less ∙ (λ i. round binary64 (s && down_to i) (a' - b') c') in
    λ i. cond (beq s t) (round_same binary64 s (a + b) c (a' + b') c' C C' total i) (cond (up_to i) (round_same binary64 t (b - a) c (b' - a') c' C C' more i) (last i))

cross : (m u d n v e a b c : ℕ) → m * u * c ≡ a * d → n * v * c ≡ b * e → (m * u * e * c ≡ a * (d * e)) × (n * v * d * c ≡ b * (d * e))
cross m u d n v e a b c p q = (omega (arith, ap (λ z. z * e) p), omega (arith, ap (λ z. z * d) q))

pub add_values : (x y : Float) (s t : Bool) (a b c : ℕ) → 0 < c → HasValue x s a c → HasValue y t b c →
    add binary64 x y ≡ sum binary64 s a t b c
unfolding add
add_values nan y s t a b c C p q = absurd p
add_values (inf u) y s t a b c C p q = absurd p
add_values (fin u m e) nan s t a b c C p q = absurd q
add_values (fin u m e) (inf v) s t a b c C p q = absurd q
add_values (fin u m e) (fin v n d) s t a b c C p q =
    let k = cross m (up e) (down e) n (up d) (down d) a b c p.1 q.1 in
    (λ i. sum binary64 (p.0 i) (m * up e * down d) (q.0 i) (n * up d * down e) (down e * down d))
    ∙ sum_same s t (m * up e * down d) (n * up d * down e) (down e * down d) a b c (mul-pos (down_pos e) (down_pos d)) C k.0 k.1

pub neg_value : (x : Float) (s : Bool) (a c : ℕ) → HasValue x s a c → HasValue (neg x) (not s) a c
unfolding neg
neg_value nan s a c p = absurd p
neg_value (inf u) s a c p = absurd p
neg_value (fin u m e) s a c p = (ap not p.0, p.1)

pub sub_values : (x y : Float) (s t : Bool) (a b c : ℕ) → 0 < c → HasValue x s a c → HasValue y t b c →
    sub binary64 x y ≡ sum binary64 s a (not t) b c
unfolding sub
sub_values x y s t a b c C p q = add_values x (neg y) s (not t) a b c C p (neg_value y t b c q)

-- ---- products

times : (m u d n v e a b c g : ℕ) → m * u * c ≡ a * d → n * v * g ≡ b * e → m * u * (n * v) * (c * g) ≡ a * b * (d * e)
times m u d n v e a b c g p q = let both : m * u * c * (n * v * g) ≡ a * d * (b * e) = λ i. p i * q i in omega (arith, both)

pub mul_values : (x y : Float) (s t : Bool) (a c b g : ℕ) → 0 < c → 0 < g → HasValue x s a c → HasValue y t b g →
    mul binary64 x y ≡ round binary64 (unlike s t) (a * b) (c * g)
unfolding mul
mul_values nan y s t a c b g C G p q = absurd p
mul_values (inf u) y s t a c b g C G p q = absurd p
mul_values (fin u m e) nan s t a c b g C G p q = absurd q
mul_values (fin u m e) (inf v) s t a c b g C G p q = absurd q
mul_values (fin u m e) (fin v n d) s t a c b g C G p q =
    (λ i. round binary64 (unlike (p.0 i) (q.0 i)) (m * up e * (n * up d)) (down e * down d))
    ∙ round_same binary64 (unlike s t) (m * up e * (n * up d)) (down e * down d) (a * b) (c * g) (mul-pos (down_pos e) (down_pos d)) (mul-pos C G)
    (times m (up e) (down e) n (up d) (down d) a b c g p.1 q.1)

-- ---- order

below_same : (s t : Bool) (a b a' b' c c' : ℕ) → 0 < c → 0 < c' → a * c' ≡ a' * c → b * c' ≡ b' * c → below s a t b ≡ below s a' t b'
below_same false false a b a' b' c c' C C' p q = ltb_scaled a b a' b' c c' C C' p q
below_same false true a b a' b' c c' C C' p q = refl
below_same true false a b a' b' c c' C C' p q = ltb_scaled 0 (a + b) 0 (a' + b') c c' C C' (omega arith) (omega (arith, p, q))
below_same true true a b a' b' c c' C C' p q = ltb_scaled b a b' a' c c' C C' q p

pub lt_values : (x y : Float) (s t : Bool) (a b c : ℕ) → 0 < c → HasValue x s a c → HasValue y t b c → lt x y ≡ below s a t b
unfolding lt
lt_values nan y s t a b c C p q = absurd p
lt_values (inf u) y s t a b c C p q = absurd p
lt_values (fin u m e) nan s t a b c C p q = absurd q
lt_values (fin u m e) (inf v) s t a b c C p q = absurd q
lt_values (fin u m e) (fin v n d) s t a b c C p q =
    let k = cross m (up e) (down e) n (up d) (down d) a b c p.1 q.1 in
    (λ i. below (p.0 i) (m * up e * down d) (q.0 i) (n * up d * down e))
    ∙ below_same s t (m * up e * down d) (n * up d * down e) a b (down e * down d) c (mul-pos (down_pos e) (down_pos d)) C k.0 k.1
