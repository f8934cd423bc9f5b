use Rattle.pf_shapes.proofs.SceneEncoding.{read_gravity, read_body}
use Rattle.pf_shapes.proofs.laws.scene_lines_are_read.Goals as goal

pub returns-clause-gravity : goal.returns-clause-gravity
returns-clause-gravity c = read_gravity

pub returns-clause-body : goal.returns-clause-body
returns-clause-body c = read_body
