-- Each error has a code with a name and a text.
use Rattle.std.proofs.Common.{ℕ, ◌<◌, lit<}
use Rattle.std.specs.Prelude.{length}
use Rattle.pf_shapes.specs.declared.fault.SceneFault.{SceneFault}
use Rattle.pf_shapes.specs.declared.fault.SceneFault.TheVariants as scene
use Rattle.pf_commands.specs.declared.fault.FrameFault.{FrameFault}
use Rattle.pf_commands.specs.declared.fault.FrameFault.TheVariants as frame
use Rattle.pf_commands.specs.declared.checking.CheckFault.{CheckFault}
use Rattle.pf_commands.specs.declared.checking.CheckFault.TheVariants as check
use Rattle.pf_rollback.specs.declared.error.Refusal.{Refusal}
use Rattle.pf_rollback.specs.declared.error.Refusal.TheVariants as refusals
use Rattle.pf_context.specs.declared.error.ContextError.{ContextError}
use Rattle.pf_context.specs.declared.error.ContextError.TheVariants as errors
use Rattle.pf_c.specs.Codes.{check_code, error_code, frame_code, refusal_code, scene_code}
use Rattle.pf_c.specs.Names.{code_name, code_text}

abbrev IsNamed : ℕ → Type 0
IsNamed code = (0 < length (code_name code)) × (0 < length (code_text code))

scene_named : (fault : SceneFault) → IsNamed (scene_code fault)
unfolding code_name code_text
scene_named scene.BadLine = (lit< tt, lit< tt)
scene_named scene.BadNumber = (lit< tt, lit< tt)
scene_named scene.TooMany = (lit< tt, lit< tt)
scene_named scene.BadMass = (lit< tt, lit< tt)
scene_named scene.BadSize = (lit< tt, lit< tt)

frame_named : (fault : FrameFault) → IsNamed (frame_code fault)
unfolding code_name code_text
frame_named frame.Short = (lit< tt, lit< tt)
frame_named frame.Long = (lit< tt, lit< tt)
frame_named frame.BadVersion = (lit< tt, lit< tt)
frame_named frame.BadKind = (lit< tt, lit< tt)
frame_named frame.NotCanonical = (lit< tt, lit< tt)
frame_named frame.OutOfRange = (lit< tt, lit< tt)

check_named : (fault : CheckFault) → IsNamed (check_code fault)
unfolding code_name code_text
check_named check.UnknownBody = (lit< tt, lit< tt)
check_named check.StaticBody = (lit< tt, lit< tt)
check_named check.NotOwner = (lit< tt, lit< tt)

refusal_named : (refusal : Refusal) → IsNamed (refusal_code refusal)
unfolding code_name code_text
refusal_named refusals.TickLimit = (lit< tt, lit< tt)
refusal_named refusals.NumbersSpent = (lit< tt, lit< tt)
refusal_named (refusals.NotReached tick) = (lit< tt, lit< tt)
refusal_named (refusals.TooOld tick) = (lit< tt, lit< tt)
refusal_named (refusals.HorizonsDiffer own other) = (lit< tt, lit< tt)
refusal_named refusals.BasesDiffer = (lit< tt, lit< tt)
refusal_named (refusals.Frame fault) = frame_named fault
refusal_named (refusals.Check fault) = check_named fault

pub named : (error : ContextError) → IsNamed (error_code error)
unfolding code_name code_text
named errors.BadKey = (lit< tt, lit< tt)
named errors.OutOfMemory = (lit< tt, lit< tt)
named errors.Full = (lit< tt, lit< tt)
named (errors.Line number fault) = scene_named fault
named (errors.Scene fault) = scene_named fault
named errors.BadPlayer = (lit< tt, lit< tt)
named errors.BadRing = (lit< tt, lit< tt)
named errors.BadNumber = (lit< tt, lit< tt)
named (errors.SmallBuffer count) = (lit< tt, lit< tt)
named (errors.SmallBuffers sizes) = (lit< tt, lit< tt)
named (errors.Refused refusal) = refusal_named refusal
