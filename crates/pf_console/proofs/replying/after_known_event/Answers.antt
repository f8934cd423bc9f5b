use Rattle.std.proofs.Common.{String}
use Rattle.std.specs.Global.{Global}
use Rattle.std.proofs.lemmas.Result.{err_from_is_err_and}
use Rattle.pf_events.specs.Session.{Session}
use Rattle.pf_console.proofs.Settling.{kept_unless_settle}
use Rattle.pf_console.proofs.replying.after_known_event.Goals as goal

pub returns-in_err-reply-clause-kept : goal.returns-in_err-reply-clause-kept
returns-in_err-reply-clause-kept g c =
    let error = err_from_is_err_and c.from_residual.result c.from_residual.ensures.1 in
    rw (error.1, error.2) (kept_unless_settle (String Global × Session) c.args.event _ _ c.answer.ensures.other)
