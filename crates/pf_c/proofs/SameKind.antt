-- A code tells the kind of an error.
use Rattle.std.proofs.Common.{◌≡◌, ◌∙◌, ℕ, ap, refl, sym}
use Rattle.std.specs.Prelude.{◌==◌, if◌then◌else◌}
use Rattle.pf_shapes.specs.declared.fault.SceneFault.{SceneFault}
use Rattle.pf_shapes.specs.declared.fault.SceneFault.TheVariants as scene
use Rattle.pf_commands.specs.declared.fault.FrameFault.{FrameFault}
use Rattle.pf_commands.specs.declared.fault.FrameFault.TheVariants as frame
use Rattle.pf_commands.specs.declared.checking.CheckFault.{CheckFault}
use Rattle.pf_commands.specs.declared.checking.CheckFault.TheVariants as check
use Rattle.pf_rollback.specs.declared.error.Refusal.{Refusal}
use Rattle.pf_rollback.specs.declared.error.Refusal.TheVariants as refusals
use Rattle.pf_context.specs.declared.error.ContextError.{ContextError}
use Rattle.pf_context.specs.declared.error.ContextError.TheVariants as errors
use Rattle.pf_c.specs.Codes.{check_code, error_code, frame_code, refusal_code, scene_code}
use Rattle.pf_c.specs.Kinds.{error_kind, refusal_kind}

-- the kind of the errors of a code
abbrev kind_at : ℕ → ContextError
kind_at code =
    if code == 1 then errors.OutOfMemory else (
    if code == 4 then errors.BadKey else (
    if code == 5 then errors.SmallBuffer 0 else (
    if code == 6 then errors.BadPlayer else (
    if code == 7 then errors.BadRing else (
    if code == 8 then errors.BadNumber else (
    if code == 10 then errors.Full else (
    if code == 16 then errors.Scene scene.BadLine else (
    if code == 17 then errors.Scene scene.BadNumber else (
    if code == 18 then errors.Scene scene.TooMany else (
    if code == 19 then errors.Scene scene.BadMass else (
    if code == 20 then errors.Scene scene.BadSize else (
    if code == 32 then errors.Refused refusals.TickLimit else (
    if code == 33 then errors.Refused refusals.NumbersSpent else (
    if code == 34 then errors.Refused (refusals.NotReached 0) else (
    if code == 35 then errors.Refused (refusals.TooOld 0) else (
    if code == 36 then errors.Refused (refusals.HorizonsDiffer 0 0) else (
    if code == 37 then errors.Refused refusals.BasesDiffer else (
    if code == 48 then errors.Refused (refusals.Frame frame.Short) else (
    if code == 49 then errors.Refused (refusals.Frame frame.Long) else (
    if code == 50 then errors.Refused (refusals.Frame frame.BadVersion) else (
    if code == 51 then errors.Refused (refusals.Frame frame.BadKind) else (
    if code == 52 then errors.Refused (refusals.Frame frame.NotCanonical) else (
    if code == 53 then errors.Refused (refusals.Frame frame.OutOfRange) else (
    if code == 64 then errors.Refused (refusals.Check check.UnknownBody) else (
    if code == 65 then errors.Refused (refusals.Check check.StaticBody) else errors.Refused (refusals.Check check.NotOwner))))))))))))))))))))))))))

scene_kind : (fault : SceneFault) → errors.Scene fault ≡ kind_at (scene_code fault)
scene_kind scene.BadLine = refl
scene_kind scene.BadNumber = refl
scene_kind scene.TooMany = refl
scene_kind scene.BadMass = refl
scene_kind scene.BadSize = refl

frame_kind : (fault : FrameFault) → errors.Refused (refusals.Frame fault) ≡ kind_at (frame_code fault)
frame_kind frame.Short = refl
frame_kind frame.Long = refl
frame_kind frame.BadVersion = refl
frame_kind frame.BadKind = refl
frame_kind frame.NotCanonical = refl
frame_kind frame.OutOfRange = refl

check_kind : (fault : CheckFault) → errors.Refused (refusals.Check fault) ≡ kind_at (check_code fault)
check_kind check.UnknownBody = refl
check_kind check.StaticBody = refl
check_kind check.NotOwner = refl

refused_kind : (refusal : Refusal) → errors.Refused (refusal_kind refusal) ≡ kind_at (refusal_code refusal)
refused_kind refusals.TickLimit = refl
refused_kind refusals.NumbersSpent = refl
refused_kind (refusals.NotReached tick) = refl
refused_kind (refusals.TooOld tick) = refl
refused_kind (refusals.HorizonsDiffer own other) = refl
refused_kind refusals.BasesDiffer = refl
refused_kind (refusals.Frame fault) = frame_kind fault
refused_kind (refusals.Check fault) = check_kind fault

kind_is : (error : ContextError) → error_kind error ≡ kind_at (error_code error)
kind_is errors.BadKey = refl
kind_is errors.OutOfMemory = refl
kind_is errors.Full = refl
kind_is (errors.Line number fault) = scene_kind fault
kind_is (errors.Scene fault) = scene_kind fault
kind_is errors.BadPlayer = refl
kind_is errors.BadRing = refl
kind_is errors.BadNumber = refl
kind_is (errors.SmallBuffer count) = refl
kind_is (errors.SmallBuffers sizes) = refl
kind_is (errors.Refused refusal) = refused_kind refusal

pub same_kind : (a b : ContextError) → error_code a ≡ error_code b → error_kind a ≡ error_kind b
same_kind a b same = kind_is a ∙ ap kind_at same ∙ sym (kind_is b)
