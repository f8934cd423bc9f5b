-- What a peer is after it has played a script, and why it ends before.
use Rattle.std.specs.Prelude.{◌≡◌, ℕ, ⊤, ◌+◌, ◌<◌, Bool, false, List, [], ◌++◌, All, IsSome, None, Option, length}
use Rattle.std.specs.List.{AllZip}
use Rattle.pf_commands.specs.Merge.{IsCommand, put_all}
use Rattle.pf_links.specs.Link.{Frame}
use Rattle.pf_rollback.specs.Kept.{settled_tick}
use Rattle.pf_step.specs.declared.crew.CrewError.{CrewError}
use Rattle.pf_step.specs.declared.crew.CrewError.TheVariants.{OutOfMemory, NoThread, GateShut, CrewLost}
use Rattle.pf_scripts.specs.Frames.{commands_in}
use Rattle.pf_scripts.specs.Peer.{IsLater, WereHanded, all_fresh, commands_of, scripted_player, setting_of}
use Rattle.pf_scripts.specs.Script.{script_frames, script_fault, script_ticks}
use Rattle.pf_scripts.specs.declared.error.SessionError.{SessionError}
use Rattle.pf_scripts.specs.declared.error.SessionError.TheVariants as errors
use Rattle.pf_scripts.specs.declared.peer.Peer.{Peer}
use Rattle.pf_scripts.specs.declared.turn.Turn.{Turn}

-- A peer has taken these frames of its own and those that have come meanwhile, in whatever order.
-- It has handed its own into all its links, and has gone on by so many ticks.
pub record HasMoved (own : List Frame) (ticks : ℕ) (old new : Peer) : Type 0 where
  pub setting : setting_of new ≡ setting_of old
  pub base : (scripted_player new).base ≡ (scripted_player old).base
  pub player : (scripted_player new).player ≡ (scripted_player old).player
  pub reached : (scripted_player new).reached ≡ (scripted_player old).reached + ticks
  pub commands : commands_of new
      ≡ put_all (commands_of old)
      (commands_in (setting_of old) (own ++ all_fresh old.inputs.items new.inputs.items))
  pub ranges : All IsCommand
      (commands_in (setting_of old) (own ++ all_fresh old.inputs.items new.inputs.items))
  pub inputs : AllZip IsLater old.inputs.items new.inputs.items
  pub outputs : AllZip (WereHanded own) old.outputs.items new.outputs.items

-- A peer has played a script that has no fault. If it had a turn, the peer keeps no frame, and each
-- tick up to the reached one is settled; if not, nothing has changed.
pub record HasPlayed (script : List Turn) (old new : Peer) : Type 0 where
  pub moved : HasMoved (script_frames script) (script_ticks script) old new
  pub no_fault : let p = scripted_player old in
      script_fault (setting_of old) p.player 0 p.reached script ≡ None
  pub done : 0 < length script
      → (new.kept ≡ None) × (settled_tick new.core.kept ≡ (scripted_player new).reached)
  pub idle : script ≡ [] → new ≡ old

-- an error with which a play may end, whatever the script. A gate that lets everybody through is
-- never shut. Without a crew there is no error of threads.
abbrev pub IsCrewErrorOfPlay : Bool → Option ℕ → CrewError → Type 0
IsCrewErrorOfPlay always crew OutOfMemory = ⊤
IsCrewErrorOfPlay always crew NoThread = IsSome crew
IsCrewErrorOfPlay always crew GateShut = always ≡ false
IsCrewErrorOfPlay always crew CrewLost = IsSome crew

-- the fault of this player's peer, with an error that may come
abbrev pub IsPeerError : (CrewError → Type 0) → ℕ → SessionError → Type 0
IsPeerError may_be player fault =
    (error : CrewError) × may_be error × (fault ≡ errors.Peer player error)
