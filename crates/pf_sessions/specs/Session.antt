-- What a session of peers in threads returns.
use Rattle.std.specs.Prelude.{◌≡◌, ◌⊎◌, ℕ, ◌+◌, ◌<◌, Bool, List, [], ◌∷◌, All, None, Option, Some, Vec, map, take, length}
use Rattle.std.specs.FinMap.{empty}
use Rattle.std.specs.Global.{Global}
use Rattle.std.specs.List.{flat_map}
use Rattle.pf_shapes.specs.Scene.{Scene}
use Rattle.pf_commands.specs.Merge.{CommandMap, put_all}
use Rattle.pf_links.specs.Link.{Frame, capacity_of, handed}
use Rattle.pf_links.specs.declared.output.LinkOut.{LinkOut}
use Rattle.pf_step.specs.Simulation.{sim}
use Rattle.pf_step.specs.World.{World, start_world}
use Rattle.pf_step.specs.declared.crew.CrewError.{CrewError}
use Rattle.pf_rollback.specs.Kept.{settled_tick}
use Rattle.pf_rollback.specs.Peer.{Peer as Player}
use Rattle.pf_scripts.specs.Frames.{Setting, commands_in}
use Rattle.pf_scripts.specs.Peer.{scripted_player, setting_of}
use Rattle.pf_scripts.specs.Play.{IsCrewErrorOfPlay}
use Rattle.pf_scripts.specs.Script.{first_fault, script_frames, script_fault, script_ticks}
use Rattle.pf_scripts.specs.declared.error.SessionError.{SessionError}
use Rattle.pf_scripts.specs.declared.error.SessionError.TheVariants as errors
use Rattle.pf_scripts.specs.declared.peer.Peer.{Peer}
use Rattle.pf_scripts.specs.declared.turn.Turn.{Turn}
use Rattle.pf_sessions.specs.declared.links.TheConstants.{LINK_CAPACITY}

-- the turns of each script
abbrev pub turns_of : List (Vec Turn Global) → List (List Turn)
turns_of scripts = map (λ script. script.items) scripts

-- the scene, and the horizon of a peer that has sealed nothing
abbrev pub unsealed : Scene → Setting
unsealed s = record { scene = s; horizon = 0 }

-- the fault of the least peer whose script has one; `first` is the number of the first peer
unfoldable pub session_fault : Scene → ℕ → List (List Turn) → Option SessionError
session_fault s first [] = None
session_fault s first (script ∷ scripts) =
    first_fault (script_fault (unsealed s) first 0 0 script) (session_fault s (first + 1) scripts)

-- the commands of all scripts, merged
abbrev pub all_commands : Scene → List (List Turn) → CommandMap
all_commands s scripts =
    put_all empty (commands_in (unsealed s) (flat_map script_frames scripts))

-- ---- at the end

-- a peer at the end of a session, and the world that it shows
pub record PeerResult : Type 0 where
  pub peer : Player
  pub world : World

-- what the peer of a script holds and shows: these commands, and the simulation from tick zero of
-- them, up to the sum of its own ticks
abbrev pub result_of : Scene → CommandMap → ℕ → List Turn → PeerResult
result_of s commands player script = record {
  peer = record {
    player = player;
    horizon = 0;
    base = start_world s;
    commands = commands;
    reached = script_ticks script;
  };
  world = sim s commands (script_ticks script);
}

-- the same of the peers of these scripts, the first of which has this number
unfoldable pub results_from : Scene → CommandMap → ℕ → List (List Turn) → List PeerResult
results_from s commands first [] = []
results_from s commands first (script ∷ scripts) =
    result_of s commands first script ∷ results_from s commands (first + 1) scripts

-- what all peers hold and show at the end
abbrev pub session_results : Scene → List (List Turn) → List PeerResult
session_results s scripts = results_from s (all_commands s scripts) 0 scripts

-- what a contract sees of a peer and its world
abbrev pub shown_by : Peer × World → PeerResult
shown_by e = record { peer = scripted_player e.0; world = e.1 }

-- a peer of the scene that keeps no frame, has sealed nothing, and has settled each tick up to the
-- reached one
pub record HasEnded (s : Scene) (p : Peer) : Type 0 where
  pub setting : setting_of p ≡ unsealed s
  pub kept : p.kept ≡ None
  pub settled : settled_tick p.core.kept ≡ (scripted_player p).reached

-- these frames were handed into a link, and no others; its ring has room for `LINK_CAPACITY` of
-- them
pub record HasCarried (frames : List Frame) (link : LinkOut) : Type 0 where
  pub handed : handed link ≡ frames
  pub capacity : capacity_of link ≡ LINK_CAPACITY

-- a peer has handed the frames of its script to each other peer, and no others
abbrev pub HasSent : List Turn → Peer → Type 0
HasSent script p = All (HasCarried (script_frames script)) p.outputs.items

-- ---- faults

-- a peer fails by itself: it is out of memory, its gate is shut or its crew fails; the scripts of
-- lesser peers have no fault
pub record FailsByItself (always : Bool) (crew : Option ℕ) (s : Scene) (scripts : List (List Turn))
    (fault : SessionError) : Type 0 where
  pub player : ℕ
  pub error : CrewError
  pub fault_is : fault ≡ errors.Peer player error
  pub among : player < length scripts
  pub may_be : IsCrewErrorOfPlay always crew error
  pub lesser : session_fault s 0 (take player scripts) ≡ None

-- with which fault a session may end: that of the least peer whose script has one, that of a peer
-- by itself, or the caller's own, which is out of memory or could not start a thread
abbrev pub IsSessionError : Bool → Option ℕ → Scene → List (List Turn) → SessionError → Type 0
IsSessionError always crew s scripts fault =
    (session_fault s 0 scripts ≡ Some fault)
    ⊎ (FailsByItself always crew s scripts fault
    ⊎ ((fault ≡ errors.OutOfMemory) ⊎ (fault ≡ errors.NoThread)))
