use denote.Exit.{no}
use denote.Param.{param}
use denote.Param.Send.{arg_send, param_send, sendable}
use Rattle.pf_pool.proofs.Sent.{jobs_send}
use Rattle.pf_pool.proofs.worker.Worker.start.Goals as goal

pub start_thread-requires-send-J : goal.start_thread-requires-send-J
start_thread-requires-send-J g c κs within = param_send 2 _ (arg_send _ no _ (jobs_send (param 0 g.row.T) (param 1 g.row.T-Part) g.T.Task (search sendable depth 9)))
