use Rattle.std.proofs.lemmas.Result.{IfErr-weaker, IfOk-weaker}
use Rattle.pf_step.proofs.Calling.{called_with_all, failed_with_all}
use Rattle.pf_step.proofs.crew.solve_by.Goals as goal

pub returns-clause-called : goal.returns-clause-called
returns-clause-called g c all are =
    IfOk-weaker c.solve.result _ _
    (λ solved called.
    called_with_all g.C.Crew.is_called g.C.Crew.may_fail c.args.crew.now all c.args.lone c.args.islands.items c.solve.new.self
    c.requires.ignores are called)
    c.solve.ensures.called

pub returns-clause-failed : goal.returns-clause-failed
returns-clause-failed g c all are =
    IfErr-weaker c.solve.result _ _
    (λ error failed.
    failed_with_all g.C.Crew.is_called g.C.Crew.may_fail c.args.crew.now all c.args.lone c.args.islands.items error c.solve.new.self
    c.requires.ignores are failed)
    c.solve.ensures.failed
