use Rattle.pf_cache.proofs.Bounded.{in_order_all}
use Rattle.pf_cache.proofs.placed_bodies.PlacedBodies.bounds.Goals as goal

pub returns-clause-ordered : goal.returns-clause-ordered
returns-clause-ordered c =
    rw c.as_slice.ensures.value
    (in_order_all c.self.inside.shapes.items c.self.inside.bounds.items c.self.invariant.as_many c.self.invariant.each)
