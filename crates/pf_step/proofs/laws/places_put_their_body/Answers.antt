use Rattle.pf_step.proofs.Commanding.{placed_body}
use Rattle.pf_step.proofs.laws.places_put_their_body.Goals as goal

pub returns : goal.returns
returns c = placed_body
