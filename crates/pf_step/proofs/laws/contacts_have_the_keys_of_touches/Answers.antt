use Rattle.std.proofs.Common.{add-one}
use Rattle.pf_commands.specs.Merge.{payloads_at}
use Rattle.pf_step.specs.Simulation.{sim}
use Rattle.pf_step.proofs.Contacts.{sim_order, sim_pairs, step_keys}
use Rattle.pf_step.proofs.laws.contacts_have_the_keys_of_touches.Goals as goal

pub returns-clause-order : goal.returns-clause-order
returns-clause-order c = λ scene commands tick limits. sim_order scene limits commands tick

pub returns-clause-keys : goal.returns-clause-keys
unfolding sim
returns-clause-keys c = λ scene commands tick.
    rw add-one (step_keys scene (sim scene commands tick) (payloads_at commands tick))

pub returns-clause-bodies : goal.returns-clause-bodies
returns-clause-bodies c = λ scene commands tick limits. rw add-one (sim_pairs scene limits commands tick)
