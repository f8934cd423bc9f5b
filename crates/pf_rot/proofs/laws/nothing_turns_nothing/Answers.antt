use Rattle.std.proofs.Common.{refl}
use Rattle.pf_num.specs.Root.{whole_root}
use Rattle.pf_num.specs.Fx.{saturate}
use Rattle.pf_rot.specs.Vector.{length_of}
use Rattle.pf_rot.specs.Rotation.{unit, turn}
use Rattle.pf_rot.proofs.laws.nothing_turns_nothing.Goals as goal

pub returns-clause-direction : goal.returns-clause-direction
unfolding unit length_of saturate whole_root
returns-clause-direction c = refl

pub returns-clause-angle : goal.returns-clause-angle
unfolding turn
returns-clause-angle c = λ q spin e. rw e refl
