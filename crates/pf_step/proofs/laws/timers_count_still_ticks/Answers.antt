use Rattle.pf_step.proofs.Stillness.{still_ticks, timer_within}
use Rattle.pf_step.proofs.laws.timers_count_still_ticks.Goals as goal

pub returns-clause-ticks : goal.returns-clause-ticks
returns-clause-ticks c = timer_within

pub returns-clause-still : goal.returns-clause-still
returns-clause-still c = still_ticks
