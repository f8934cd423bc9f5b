-- What a session's results and faults are for the program.
use Rattle.std.specs.Prelude.{ℕ, List}
use Rattle.pf_shapes.specs.Fixture.{Fixture}
use Rattle.pf_rollback.specs.declared.error.Refusal.TheVariants.{TickLimit}
use Rattle.pf_scripts.specs.declared.error.SessionError.{SessionError}
use Rattle.pf_scripts.specs.declared.error.SessionError.TheVariants as errors
use Rattle.pf_sessions.specs.Session.{PeerResult}
use Rattle.pf_step.specs.declared.crew.CrewError.{CrewError}
use Rattle.pf_step.specs.declared.crew.CrewError.TheVariants.{OutOfMemory, NoThread}
use Rattle.pf_console.specs.declared.error.ProgramError.{ProgramError}
use Rattle.pf_console.specs.declared.error.ProgramError.TheVariants.{Session, Memory, Crew}
use Rattle.pf_console.specs.Print.{block_text}

-- the block of a peer at its reached tick
abbrev pub result_block : List Fixture → PeerResult → List ℕ
result_block fixtures r = block_text fixtures r.peer.player r.peer.reached r.world

-- a peer that is out of memory is reported as `Memory`; its other errors are those of its threads
abbrev pub fault_of_peer : CrewError → ProgramError
fault_of_peer OutOfMemory = Memory
fault_of_peer error = Crew error

abbrev pub fault_of : SessionError → ProgramError
fault_of (errors.Frame peer place refusal) = Session refusal
fault_of (errors.TickLimit peer) = Session TickLimit
fault_of (errors.Peer peer error) = fault_of_peer error
fault_of errors.OutOfMemory = Memory
fault_of errors.NoThread = Crew NoThread
