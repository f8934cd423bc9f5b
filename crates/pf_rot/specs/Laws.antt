-- Words of the laws of rotations.
use Rattle.std.specs.Prelude.{◌≤◌}
use Rattle.std.specs.Int.RustNames.{unsigned_abs}
use Rattle.pf_num.specs.Fx.{one}
use Rattle.pf_rot.specs.Rotation.{Rot}

-- cosine and sine are at most 1 in magnitude
pub record IsAtMostOne (q : Rot) : Type 0 where
  pub c : unsigned_abs q.c ≤ unsigned_abs one
  pub s : unsigned_abs q.s ≤ unsigned_abs one
