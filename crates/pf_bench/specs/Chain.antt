-- Chains: each step computes its number from the one before and the step's index.
use Rattle.std.specs.Prelude.{ℕ, zero, suc, ◌+◌, ◌-◌, ◌*◌, ◌%◌, ◌^◌, ℤ, pos, neg_ℤ, int_lt, if◌then◌else◌}
use Rattle.pf_num.specs.Fx.{max_raw, sum, difference, product, quotient, root}
use Rattle.pf_rot.specs.Vector.{length_of}
use Rattle.pf_rot.specs.Rotation.{Rot, upright, turn}
use Rattle.pf_bench.specs.declared.operation.Operation.{Operation}
use Rattle.pf_bench.specs.declared.operation.Operation.TheVariants.{Add, Mul, Div, MulWide, DivWide, Root, Length, Turn}

-- the number after so many steps
abbrev pub chain : (ℤ → ℕ → ℤ) → ℤ → ℕ → ℤ
chain step first zero = first
chain step first (suc i) = step (chain step first i) i

-- 1 and up to 65535 units
abbrev pub factor_near_one : ℕ → ℤ
factor_near_one i = pos (2 ^ 24 + i % 65536)

-- a sum, which starts again at the least number when it reaches the greatest
unfoldable pub add_step : ℤ → ℕ → ℤ
add_step x i =
    let y = sum x (pos (i % 65536 * 2 ^ 30)) in
    if int_lt y max_raw then y else neg_ℤ max_raw

-- a product, or the first number again where it is above a limit
unfoldable pub mul_step : ℤ → ℤ → ℤ → ℕ → ℤ
mul_step limit first x i =
    let y = product x (factor_near_one i) in
    if int_lt limit y then first else y

-- a quotient, raised where it is below a limit
unfoldable pub div_step : ℤ → ℤ → ℤ → ℕ → ℤ
div_step least back x i =
    let y = quotient x (factor_near_one i) in
    if int_lt y least then sum y back else y

-- a root, raised by up to 65535 times 2^16
unfoldable pub root_step : ℤ → ℕ → ℤ
root_step x i = sum (root x) (pos (i % 65536 * 2 ^ 16))

-- the length of the vector of x and up to 65535 times 2^10, reduced where it is above 64
unfoldable pub length_step : ℤ → ℕ → ℤ
length_step x i =
    let y = length_of (record { x = x; y = pos (i % 65536 * 2 ^ 10) }) in
    if int_lt (pos (2 ^ 30)) y then difference y (pos (2 ^ 30 - 2 ^ 20)) else y

-- the rotation after so many turns, each at a little more than 1 radian a second
unfoldable pub rotation_after : ℕ → Rot
rotation_after zero = upright
rotation_after (suc i) = turn (rotation_after i) (factor_near_one i)

-- the last number of each operation's chain
abbrev pub last_of : Operation → ℕ → ℤ
last_of Add n = chain add_step (pos 0) n
last_of Mul n = chain (mul_step (pos (2 ^ 30)) (pos (2 ^ 24))) (pos (2 ^ 24)) n
last_of Div n = chain (div_step (pos (2 ^ 20)) (pos (2 ^ 30 - 2 ^ 20))) (pos (2 ^ 30)) n
last_of MulWide n = chain (mul_step (pos (2 ^ 54)) (pos (2 ^ 50))) (pos (2 ^ 50)) n
last_of DivWide n = chain (div_step (pos (2 ^ 50)) (pos (2 ^ 53))) (pos (2 ^ 54)) n
last_of Root n = chain root_step (pos (2 ^ 24)) n
last_of Length n = chain length_step (pos (2 ^ 24)) n
last_of Turn n = (rotation_after n).c
