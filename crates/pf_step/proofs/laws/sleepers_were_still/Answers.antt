use Rattle.std.proofs.Common.{◌≡◌, suc, Some, slice_get, add-one}
use Rattle.pf_step.specs.Simulation.{sim}
use Rattle.pf_step.proofs.Stillness.{asleep_still, fell_asleep}
use Rattle.pf_step.proofs.laws.sleepers_were_still.Goals as goal

pub returns-clause-timer : goal.returns-clause-timer
returns-clause-timer c = λ scene commands tick i b body here awake next asleep.
    let later : slice_get (sim scene commands (suc tick)).bodies i ≡ Some body = rw add-one at next in
    fell_asleep scene commands tick i b body here awake later asleep

pub returns-clause-still : goal.returns-clause-still
returns-clause-still c = λ scene commands tick i b body d here awake next asleep before.
    let later : slice_get (sim scene commands (suc tick)).bodies i ≡ Some body = rw add-one at next in
    asleep_still scene commands tick i b body d here awake later asleep before
