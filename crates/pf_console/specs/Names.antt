-- The names of errors and outcomes, as texts print them.
use Rattle.std.specs.Prelude.{ℕ, List, codes}
use Rattle.pf_commands.specs.declared.checking.CheckFault.{CheckFault}
use Rattle.pf_commands.specs.declared.checking.CheckFault.TheVariants.{UnknownBody, StaticBody, NotOwner}
use Rattle.pf_commands.specs.declared.fault.FrameFault.{FrameFault}
use Rattle.pf_commands.specs.declared.fault.FrameFault.TheVariants.{Short, Long, BadVersion, BadKind, NotCanonical, OutOfRange}
use Rattle.pf_commands.specs.declared.outcome.Put.{Put}
use Rattle.pf_commands.specs.declared.outcome.Put.TheVariants.{New, Same, Greater, Lesser}
use Rattle.pf_rollback.specs.declared.error.Refusal.{Refusal}
use Rattle.pf_rollback.specs.declared.error.Refusal.TheVariants.{TickLimit, NumbersSpent, Frame, Check, NotReached, TooOld, HorizonsDiffer, BasesDiffer}
use Rattle.pf_step.specs.declared.crew.CrewError.{CrewError}
use Rattle.pf_step.specs.declared.crew.CrewError.TheVariants.{OutOfMemory, NoThread, GateShut, CrewLost}

abbrev pub frame_fault_name : FrameFault → List ℕ
frame_fault_name Short = codes "Short"
frame_fault_name Long = codes "Long"
frame_fault_name BadVersion = codes "BadVersion"
frame_fault_name BadKind = codes "BadKind"
frame_fault_name NotCanonical = codes "NotCanonical"
frame_fault_name OutOfRange = codes "OutOfRange"

abbrev pub check_fault_name : CheckFault → List ℕ
check_fault_name UnknownBody = codes "UnknownBody"
check_fault_name StaticBody = codes "StaticBody"
check_fault_name NotOwner = codes "NotOwner"

-- the name of a refusal
abbrev pub refusal_name : Refusal → List ℕ
refusal_name TickLimit = codes "TickLimit"
refusal_name NumbersSpent = codes "NumbersSpent"
refusal_name (Frame fault) = frame_fault_name fault
refusal_name (Check fault) = check_fault_name fault
refusal_name (NotReached reached) = codes "NotReached"
refusal_name (TooOld horizon) = codes "TooOld"
refusal_name (HorizonsDiffer own other) = codes "HorizonsDiffer"
refusal_name BasesDiffer = codes "BasesDiffer"

abbrev pub crew_error_name : CrewError → List ℕ
crew_error_name OutOfMemory = codes "OutOfMemory"
crew_error_name NoThread = codes "NoThread"
crew_error_name GateShut = codes "GateShut"
crew_error_name CrewLost = codes "CrewLost"

-- what a put did
abbrev pub put_name : Put → List ℕ
put_name New = codes "new"
put_name Same = codes "same"
put_name Greater = codes "greater"
put_name Lesser = codes "lesser"
