use Rattle.pf_islands.proofs.Exactly.{awake_long, rows_of_islands, rows_of_islands_rise, rows_once, rows_whole}
use Rattle.pf_islands.proofs.laws.islands_have_each_simulated_contact.Goals as goal

pub returns-clause-whole : goal.returns-clause-whole
returns-clause-whole c s touches bodies contacts count of =
    rows_whole s touches bodies contacts count of (awake_long s touches bodies count)

pub returns-clause-once : goal.returns-clause-once
returns-clause-once c s touches bodies contacts count of =
    rows_once s touches bodies contacts count of (awake_long s touches bodies count)

pub returns-clause-others : goal.returns-clause-others
returns-clause-others c s touches bodies contacts = rows_of_islands s touches bodies contacts

pub returns-clause-order : goal.returns-clause-order
returns-clause-order c s touches bodies contacts order = rows_of_islands_rise s touches bodies contacts order
