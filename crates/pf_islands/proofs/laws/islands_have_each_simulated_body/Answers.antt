use Rattle.pf_islands.proofs.Exactly.{bodies_simulated, bodies_together, least_rise, numbers_rise, simulated_bodies, awake_long}
use Rattle.pf_islands.proofs.laws.islands_have_each_simulated_body.Goals as goal

pub returns-clause-others : goal.returns-clause-others
returns-clause-others c s touches bodies contacts k n b count has =
    bodies_simulated s touches bodies contacts count k n b (awake_long s touches bodies count) has

pub returns-clause-whole : goal.returns-clause-whole
returns-clause-whole c s touches bodies contacts n b count here wakes =
    simulated_bodies s touches bodies contacts count n b (awake_long s touches bodies count) here wakes

pub returns-clause-together : goal.returns-clause-together
returns-clause-together c s touches bodies contacts k l m n b d count first second =
    bodies_together s touches bodies contacts count k l m n b d first second

pub returns-clause-order : goal.returns-clause-order
returns-clause-order c s touches bodies contacts =
    (least_rise s touches bodies contacts, numbers_rise s touches bodies contacts)
