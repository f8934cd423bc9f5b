-- The number of each error.
use Rattle.std.specs.Prelude.{◌+◌, ℕ, Option, None, Result, Ok, Err, Some}
use Rattle.pf_shapes.specs.declared.fault.SceneFault.{SceneFault}
use Rattle.pf_shapes.specs.declared.fault.SceneFault.TheVariants as scene
use Rattle.pf_commands.specs.declared.fault.FrameFault.{FrameFault}
use Rattle.pf_commands.specs.declared.fault.FrameFault.TheVariants as frame
use Rattle.pf_commands.specs.declared.checking.CheckFault.{CheckFault}
use Rattle.pf_commands.specs.declared.checking.CheckFault.TheVariants as check
use Rattle.pf_commands.specs.declared.outcome.Put.{Put}
use Rattle.pf_commands.specs.declared.outcome.Put.TheVariants as put
use Rattle.pf_rollback.specs.declared.error.Refusal.{Refusal}
use Rattle.pf_rollback.specs.declared.error.Refusal.TheVariants as refusals
use Rattle.pf_context.specs.declared.error.ContextError.{ContextError}
use Rattle.pf_context.specs.declared.error.ContextError.TheVariants as errors
use Rattle.pf_c.specs.declared.codes.TheConstants.{PF_BAD_KEY, PF_BAD_NUMBER, PF_BAD_PLAYER, PF_BAD_RING, PF_CHECK, PF_CLOSED, PF_FRAME, PF_FULL, PF_OK, PF_OUT_OF_MEMORY, PF_REFUSED, PF_SCENE, PF_SMALL_BUFFER}

-- what is wrong with a scene
abbrev pub scene_code : SceneFault → ℕ
scene_code scene.BadLine = PF_SCENE
scene_code scene.BadNumber = PF_SCENE + 1
scene_code scene.TooMany = PF_SCENE + 2
scene_code scene.BadMass = PF_SCENE + 3
scene_code scene.BadSize = PF_SCENE + 4

-- what is wrong with a frame
abbrev pub frame_code : FrameFault → ℕ
frame_code frame.Short = PF_FRAME
frame_code frame.Long = PF_FRAME + 1
frame_code frame.BadVersion = PF_FRAME + 2
frame_code frame.BadKind = PF_FRAME + 3
frame_code frame.NotCanonical = PF_FRAME + 4
frame_code frame.OutOfRange = PF_FRAME + 5

-- why a scene does not allow a command
abbrev pub check_code : CheckFault → ℕ
check_code check.UnknownBody = PF_CHECK
check_code check.StaticBody = PF_CHECK + 1
check_code check.NotOwner = PF_CHECK + 2

-- why a peer refuses a call
abbrev pub refusal_code : Refusal → ℕ
refusal_code refusals.TickLimit = PF_REFUSED
refusal_code refusals.NumbersSpent = PF_REFUSED + 1
refusal_code (refusals.NotReached tick) = PF_REFUSED + 2
refusal_code (refusals.TooOld tick) = PF_REFUSED + 3
refusal_code (refusals.HorizonsDiffer own other) = PF_REFUSED + 4
refusal_code refusals.BasesDiffer = PF_REFUSED + 5
refusal_code (refusals.Frame fault) = frame_code fault
refusal_code (refusals.Check fault) = check_code fault

-- why a call of a context failed
abbrev pub error_code : ContextError → ℕ
error_code errors.BadKey = PF_BAD_KEY
error_code errors.OutOfMemory = PF_OUT_OF_MEMORY
error_code errors.Full = PF_FULL
error_code (errors.Line number fault) = scene_code fault
error_code (errors.Scene fault) = scene_code fault
error_code errors.BadPlayer = PF_BAD_PLAYER
error_code errors.BadRing = PF_BAD_RING
error_code errors.BadNumber = PF_BAD_NUMBER
error_code (errors.SmallBuffer count) = PF_SMALL_BUFFER
error_code (errors.SmallBuffers sizes) = PF_SMALL_BUFFER
error_code (errors.Refused refusal) = refusal_code refusal

-- how a call ended
abbrev pub code_of : {A : Type 0} → Result A ContextError → ℕ
code_of (Ok answer) = PF_OK
code_of (Err error) = error_code error

-- how a call ended, or that the context is closed, so that none was made
abbrev pub end_code : {A : Type 0} → Option (Result A ContextError) → ℕ
end_code (Some answer) = code_of answer
end_code None = PF_CLOSED

-- what putting a command did: 0 where it was new, 1 the same, 2 greater, 3 lesser
abbrev pub put_code : Put → ℕ
put_code put.New = 0
put_code put.Same = 1
put_code put.Greater = 2
put_code put.Lesser = 3
