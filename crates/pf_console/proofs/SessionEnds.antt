-- How a session ends that writes nothing.
use Rattle.std.proofs.Common.{ℕ, true, List, Option, inl, inr, subst, sym, map}
use Rattle.std.proofs.lemmas.Bool.{true≢false}
use Rattle.pf_shapes.specs.Scene.{Scene}
use Rattle.pf_scripts.specs.Play.{IsCrewErrorOfPlay}
use Rattle.pf_scripts.specs.declared.error.SessionError.{SessionError}
use Rattle.pf_scripts.specs.declared.turn.Turn.{Turn}
use Rattle.pf_sessions.specs.Session.{IsSessionError}
use Rattle.pf_step.specs.declared.crew.CrewError.{CrewError}
use Rattle.pf_step.specs.declared.crew.CrewError.TheVariants.{OutOfMemory, NoThread, GateShut, CrewLost}
use Rattle.pf_console.specs.Blocks.{fault_of, fault_of_peer}
use Rattle.pf_console.specs.Scripts.{Scripts}
use Rattle.pf_console.specs.SessionText.{EndsBy}
use Rattle.pf_console.specs.Turns.{said_by}
use Rattle.pf_console.proofs.ScriptFaults.{some_refused}

peer_ends : (crew : Option ℕ) (s : Scripts) (error : CrewError) → IsCrewErrorOfPlay true crew error → EndsBy crew s (fault_of_peer error)
peer_ends crew s OutOfMemory may = tt
peer_ends crew s NoThread may = tt
peer_ends crew s GateShut may = absurd (true≢false may)
peer_ends crew s CrewLost may = may

pub fault_ends : (crew : Option ℕ) (s : Scene) (scripts : List (List Turn)) (fault : SessionError) → IsSessionError true crew s scripts fault
    → EndsBy crew (record { scene = s; scripts = map (map said_by) scripts }) (fault_of fault)
fault_ends crew s scripts fault ends = by ends
  where
    all : Scripts
    all = record { scene = s; scripts = map (map said_by) scripts }

    by : IsSessionError true crew s scripts fault → EndsBy crew all (fault_of fault)
    by (inl refused) =
        let found = some_refused s scripts fault refused in
        subst (EndsBy crew all) (sym found.2) found.1
    by (inr (inl alone)) =
        subst (λ (f : SessionError). EndsBy crew all (fault_of f)) (sym alone.fault_is) (peer_ends crew all alone.error alone.may_be)
    by (inr (inr (inl memory))) = subst (λ (f : SessionError). EndsBy crew all (fault_of f)) (sym memory) tt
    by (inr (inr (inr thread))) = subst (λ (f : SessionError). EndsBy crew all (fault_of f)) (sym thread) tt
