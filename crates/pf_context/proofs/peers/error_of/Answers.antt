use Rattle.pf_context.proofs.peers.error_of.Goals as goal

pub returns : goal.returns
returns c = c.from.ensures
