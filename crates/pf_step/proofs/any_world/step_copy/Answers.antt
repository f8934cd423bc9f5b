use Rattle.std.proofs.Common.{subst}
use Rattle.pf_step.specs.Activity.{islands_of_tick}
use Rattle.pf_step.specs.Stepping.{FailsBy}
use Rattle.pf_step.specs.World.{World}
use Rattle.pf_step.proofs.any_world.step_copy.Goals as goal

pub returns-in-Ok-clause-crew : goal.returns-in-Ok-clause-crew
returns-in-Ok-clause-crew g c =
    subst
    (λ (w : World). g.C.Crew.is_called c.args.crew.now (islands_of_tick c.args.scene.now w c.args.payloads.now) c.step_by.new.crew)
    c.in_ok-next.ensures.copy c.in-Ok.ensures.crew

pub returns-in-Err-clause-crew : goal.returns-in-Err-clause-crew
returns-in-Err-clause-crew g c =
    subst
    (λ (w : World). FailsBy g.C.Crew.may_fail c.args.crew.now (islands_of_tick c.args.scene.now w c.args.payloads.now) c.in-Err.error c.step_by.new.crew)
    c.in_ok-next.ensures.copy c.in-Err.ensures.crew
