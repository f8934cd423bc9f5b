use Rattle.pf_step.proofs.Alone.{group_after}
use Rattle.pf_step.proofs.AloneContacts.{group_stored}
use Rattle.pf_step.proofs.laws.groups_go_through_ticks_alone.Goals as goal

pub returns-clause-bodies : goal.returns-clause-bodies
returns-clause-bodies c = λ scene w payloads label paired active. group_after scene w payloads label paired active

pub returns-clause-impulses : goal.returns-clause-impulses
returns-clause-impulses c = λ s w payloads label scene paired. group_stored s w payloads paired scene label
