use Rattle.std.proofs.lemmas.Bool.{and_parts}
use Rattle.pf_cache.proofs.Reusable.{reusable, reused}
use Rattle.pf_cache.proofs.Unmoved.{unmoved_points}
use Rattle.pf_cache.proofs.laws.reusable_points_are_of_unmoved_bodies.Goals as goal

pub returns-clause-reusable : goal.returns-clause-reusable
returns-clause-reusable c = λ m shapes p. (reused m shapes p, reusable m shapes p)

pub returns-clause-points : goal.returns-clause-points
returns-clause-points c = λ m shapes p is. unmoved_points m.shapes shapes p (and_parts _ _ is).1
