-- The one error that the errors of all calls turn into.
use Rattle.pf_shapes.specs.declared.read.ReadError.{ReadError}
use Rattle.pf_shapes.specs.declared.read.ReadError.TheVariants as reading
use Rattle.pf_rollback.specs.declared.error.PeerError.{PeerError}
use Rattle.pf_rollback.specs.declared.error.PeerError.TheVariants as peer_errors
use Rattle.pf_step.specs.declared.crew.CrewError.{CrewError}
use Rattle.pf_step.specs.declared.crew.CrewError.TheVariants as crews
use Rattle.pf_step.specs.declared.crew.StepError.{StepError}
use Rattle.pf_step.specs.declared.crew.StepError.TheVariants as steps
use Rattle.buyosen.specs.declared.error.Error.{Error}
use Rattle.buyosen.specs.declared.error.Error.TheVariants as errors

-- why no scene was read
abbrev pub scene_error : ReadError → Error
scene_error (reading.Line number fault) = errors.Scene (reading.Line number fault)
scene_error reading.Memory = errors.OutOfMemory

-- why a call of a peer failed
abbrev pub error_of_peer : PeerError → Error
error_of_peer (peer_errors.Refused refusal) = errors.Refused refusal
error_of_peer peer_errors.OutOfMemory = errors.OutOfMemory

-- why a crew did not solve the islands of a tick
abbrev pub error_of_crew : CrewError → Error
error_of_crew crews.OutOfMemory = errors.OutOfMemory
error_of_crew other = errors.Crew other

-- why a tick was not settled
abbrev pub settle_error : StepError → Error
settle_error steps.OutOfMemory = errors.OutOfMemory
settle_error (steps.Crew error) = error_of_crew error
