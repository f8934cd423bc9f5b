use Rattle.pf_islands.proofs.PutBack.{impulses_go_home, other_impulses_stay, others_stay, states_go_home}
use Rattle.pf_islands.proofs.laws.islands_go_home.Goals as goal

pub returns-clause-bodies : goal.returns-clause-bodies
returns-clause-bodies c islands bodies k n b home rise once has =
    states_go_home islands bodies home rise once k n b has

pub returns-clause-other_bodies : goal.returns-clause-other_bodies
returns-clause-other_bodies c islands bodies n none = others_stay islands bodies n none

pub returns-clause-contacts : goal.returns-clause-contacts
returns-clause-contacts c islands contacts k r at once has =
    impulses_go_home islands contacts at once k r has

pub returns-clause-other_contacts : goal.returns-clause-other_contacts
returns-clause-other_contacts c islands contacts place contact are at here none =
    other_impulses_stay islands contacts are at place contact here none
