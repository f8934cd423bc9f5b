use Rattle.std.proofs.Common.{add-one}
use Rattle.pf_step.proofs.KeptImpulses.{kept_impulses}
use Rattle.pf_step.proofs.laws.contacts_of_sleepers_keep_their_impulses.Goals as goal

pub returns : goal.returns
returns c = λ scene commands tick i place body t limits dynamic there quiet here labels.
    rw add-one (kept_impulses scene limits commands tick i body place t there dynamic quiet here labels)
