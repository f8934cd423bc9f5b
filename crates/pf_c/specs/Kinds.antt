-- Errors but for the numbers that they name, which no code tells.
use Rattle.pf_rollback.specs.declared.error.Refusal.{Refusal}
use Rattle.pf_rollback.specs.declared.error.Refusal.TheVariants as refusals
use Rattle.pf_context.specs.declared.error.ContextError.{ContextError}
use Rattle.pf_context.specs.declared.error.ContextError.TheVariants as errors

-- why a peer refuses a call, with each number 0
abbrev pub refusal_kind : Refusal → Refusal
refusal_kind (refusals.NotReached tick) = refusals.NotReached 0
refusal_kind (refusals.TooOld tick) = refusals.TooOld 0
refusal_kind (refusals.HorizonsDiffer own other) = refusals.HorizonsDiffer 0 0
refusal_kind refusal = refusal

-- why a call of a context failed, with each number 0. What is wrong with a line of a scene's text
-- is wrong with the scene, and a buffer is small for frames as for a world.
abbrev pub error_kind : ContextError → ContextError
error_kind (errors.Line number fault) = errors.Scene fault
error_kind (errors.SmallBuffer count) = errors.SmallBuffer 0
error_kind (errors.SmallBuffers sizes) = errors.SmallBuffer 0
error_kind (errors.Refused refusal) = errors.Refused (refusal_kind refusal)
error_kind error = error
