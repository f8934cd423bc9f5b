-- A number has one list of digits.
use Rattle.std.proofs.Common.{◌≡◌, ℕ, zero, suc, ◌+◌, ◌*◌, ◌^◌, ◌<◌, ◌≤◌, List, length, get_or, sym, ap, ◌∙◌, inl, inr, arith}
use Rattle.std.proofs.Math.Nat.{mul-le-mul_right}
use Rattle.std.proofs.lemmas.List.{ext_get_or}
use Rattle.std.proofs.lemmas.Bool.{cases_lt}
use Rattle.byteorder.specs.Endian.{big_from, big_number}
use Rattle.byteorder.specs.Numbers.{big_from-lt}
use Rattle.pf_commands.specs.Frame.{IsBytes}

-- of two numbers with a lesser high part, the first is less
high_part_less : (m a b r s : ℕ) → r < m → a < b → a * m + r < b * m + s
high_part_less m a b r s r-lt less =
    let top : (a + 1) * m ≤ b * m = mul-le-mul_right m (omega arith) in
    omega (arith, top)

pub same_high_part : (m a b r s : ℕ) → r < m → s < m → a * m + r ≡ b * m + s → a ≡ b
same_high_part m a b r s r-lt s-lt same =
    elim (cases_lt a b) [
      | inl less ↦ absurd (omega (arith, high_part_less m a b r s r-lt less))
      | inr le ↦ elim (cases_lt b a) [
        | inl less ↦ absurd (omega (arith, high_part_less m b a s r s-lt less))
        | inr ge ↦ omega arith
      ]
    ]

pub same_low_part : (m a b r s : ℕ) → r < m → s < m → a * m + r ≡ b * m + s → r ≡ s
same_low_part m a b r s r-lt s-lt same =
    let high = same_high_part m a b r s r-lt s-lt same in
    let products : a * m ≡ b * m = ap (λ (x : ℕ). x * m) high in
    omega arith

-- equal numbers have equal digits
pub same_digits : (i n : ℕ) (xs ys : List ℕ) → IsBytes xs → IsBytes ys → big_from i n xs ≡ big_from i n ys → (k : ℕ) → i ≤ k → k < i + n → get_or xs k 0 ≡ get_or ys k 0
same_digits i zero xs ys fits-xs fits-ys same k low high = absurd (omega arith)
same_digits i (suc n) xs ys fits-xs fits-ys same k low high =
    let below-xs = big_from-lt (suc i) n xs fits-xs in
    let below-ys = big_from-lt (suc i) n ys fits-ys in
    let first = same_high_part (256 ^ n) (get_or xs i 0) (get_or ys i 0) (big_from (suc i) n xs) (big_from (suc i) n ys) below-xs below-ys same in
    let others = same_low_part (256 ^ n) (get_or xs i 0) (get_or ys i 0) (big_from (suc i) n xs) (big_from (suc i) n ys) below-xs below-ys same in
    elim (cases_lt i k) [
      | inl later ↦ same_digits (suc i) n xs ys fits-xs fits-ys others k (omega arith) (omega arith)
      | inr le ↦ let here : k ≡ i = omega arith in rw here first
    ]

-- bytes of one length and one number are the same
pub same_bytes : (n : ℕ) (xs ys : List ℕ) → length xs ≡ n → length ys ≡ n → IsBytes xs → IsBytes ys → big_number n xs ≡ big_number n ys → xs ≡ ys
same_bytes n xs ys long-xs long-ys fits-xs fits-ys same =
    ext_get_or 0 xs ys (long-xs ∙ sym long-ys) (λ k lt. same_digits 0 n xs ys fits-xs fits-ys same k (omega arith) (omega arith))
