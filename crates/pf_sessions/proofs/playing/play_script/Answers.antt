use Rattle.pf_sessions.proofs.Faults.{outcome_of}
use Rattle.pf_sessions.proofs.playing.play_script.Goals as goal

pub returns : goal.returns
returns g c = record {
  outcome = outcome_of g.G.Gate.ALWAYS c.args.crew c.args.script.now c.args.peer c.play.result c.play.ensures.played c.play.ensures.fault;
}
