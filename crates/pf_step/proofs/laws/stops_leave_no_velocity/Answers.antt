use Rattle.pf_step.proofs.Commanding.{stopped_body}
use Rattle.pf_step.proofs.laws.stops_leave_no_velocity.Goals as goal

pub returns : goal.returns
returns c = stopped_body
