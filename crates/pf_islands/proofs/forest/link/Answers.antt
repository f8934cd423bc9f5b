use Rattle.std.proofs.Common.{arith}
use Rattle.pf_islands.proofs.Roots.{found_linked}
use Rattle.pf_islands.proofs.forest.link.Goals as goal

pub returns-clause-roots : goal.returns-clause-roots
returns-clause-roots c =
    λ root start.
    let between = c.find-first.ensures.kept root start in
    found_linked c.find-second.new.parents c.find-first.result c.find-second.result c.max.result c.min.result _ _ root
    (omega arith) (omega arith) (c.find-first.ensures.own root start) (c.find-second.ensures.own root between)
    (c.find-first.ensures.root root start) (c.find-second.ensures.root root between) c.max.ensures c.min.ensures
    (c.find-second.ensures.kept root between)
