-- The error of a pool where a worker was not asked.
use Rattle.pf_pool.specs.declared.error.PoolError.{PoolError}
use Rattle.pf_pool.specs.declared.error.PoolError.TheVariants.{OutOfMemory, WorkerLost}
use Rattle.pf_pool.specs.declared.worker.AskError.{AskError}
use Rattle.pf_pool.specs.declared.worker.AskError.TheVariants as asking

abbrev pub error_of_ask : {T P : Type 0} → AskError T P → PoolError
error_of_ask asking.OutOfMemory = OutOfMemory
error_of_ask (asking.Lost job) = WorkerLost
