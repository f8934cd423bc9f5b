-- Turns by their number.
use Rattle.std.proofs.Common.{◌≡◌, ℕ, ◌+◌, refl, add-one}
use Rattle.pf_rot.specs.Rotation.{upright, turn}
use Rattle.pf_bench.specs.Chain.{rotation_after, factor_near_one}

pub rotation_after_zero : rotation_after 0 ≡ upright
unfolding rotation_after
rotation_after_zero = refl

pub rotation_after_next : (i : ℕ) → rotation_after (i + 1) ≡ turn (rotation_after i) (factor_near_one i)
unfolding rotation_after
rotation_after_next i = rw add-one refl
