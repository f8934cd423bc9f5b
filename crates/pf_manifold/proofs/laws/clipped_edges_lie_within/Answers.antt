use Rattle.pf_manifold.proofs.Clipping.{clipped_within, clipped_whole, clipped_nothing}
use Rattle.pf_manifold.proofs.laws.clipped_edges_lie_within.Goals as goal

pub returns-clause-within : goal.returns-clause-within
returns-clause-within c = clipped_within

pub returns-clause-whole : goal.returns-clause-whole
returns-clause-whole c = clipped_whole

pub returns-clause-nothing : goal.returns-clause-nothing
returns-clause-nothing c = clipped_nothing
