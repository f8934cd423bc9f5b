use Rattle.std.proofs.Common.{◌+◌, ◌*◌, refl}
use Rattle.std.specs.Int.RustNames.{unsigned_abs}
use Rattle.pf_num.proofs.Roots.{root_is}
use Rattle.pf_rot.specs.Vector.{length_of}
use Rattle.pf_rot.proofs.laws.lengths_are_greatest.Goals as goal

pub returns : goal.returns
unfolding length_of
returns c = λ v r h. rw (root_is (unsigned_abs v.x * unsigned_abs v.x + unsigned_abs v.y * unsigned_abs v.y) r h) refl
