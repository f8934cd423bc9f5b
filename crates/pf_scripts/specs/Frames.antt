-- What frames bring to a peer that takes them.
use Rattle.std.specs.Prelude.{◌≡◌, ℕ, List, [], ◌∷◌, Option, Some, None, Result, Ok, Err, count_by, is_some, length, nat_lt, if◌then◌else◌}
use Rattle.std.specs.List.{flat_map}
use Rattle.pf_shapes.specs.Scene.{Scene}
use Rattle.pf_commands.specs.Check.{check}
use Rattle.pf_commands.specs.Frame.{decode}
use Rattle.pf_commands.specs.Merge.{put_all}
use Rattle.pf_commands.specs.declared.checking.CheckFault.{CheckFault}
use Rattle.pf_commands.specs.declared.fault.FrameFault.{FrameFault}
use Rattle.pf_commands.specs.declared.payload.Command.{Command}
use Rattle.pf_links.specs.Link.{Frame}
use Rattle.pf_rollback.specs.Core.{PeerCore}
use Rattle.pf_rollback.specs.Peer.{Peer}
use Rattle.pf_rollback.specs.declared.error.Refusal.{Refusal}
use Rattle.pf_rollback.specs.declared.error.Refusal.TheVariants as refusals
use Rattle.pf_scripts.specs.declared.peer.Polled.{Polled}

-- what decides which commands a peer takes: the scene that it plays, and its horizon
pub record Setting : Type 0 where
  pub scene : Scene
  pub horizon : ℕ

-- that of a core
abbrev pub core_setting : PeerCore → Setting
core_setting core = record { scene = core.scene; horizon = core.peer.horizon }

-- why a command of a tick is refused, if it is before the horizon
abbrev pub horizon_refusal : ℕ → ℕ → Option Refusal
horizon_refusal horizon tick = if nat_lt tick horizon then Some (refusals.TooOld horizon) else None

-- why a command is refused, if the scene does not allow it, or for another reason
abbrev pub check_refusal : Result (Unit {0}) CheckFault → Option Refusal → Option Refusal
check_refusal (Ok done) other = other
check_refusal (Err fault) other = Some (refusals.Check fault)

-- why what was decoded is refused, if it is
abbrev pub refusal_of_decoded : Setting → Result Command FrameFault → Option Refusal
refusal_of_decoded s (Ok c) =
    check_refusal (check s.scene c.name c.payload) (horizon_refusal s.horizon c.name.tick)
refusal_of_decoded s (Err fault) = Some (refusals.Frame fault)

-- why a peer refuses a frame, if it does: it encodes no command, or one that the scene does not
-- allow, or that is before the horizon
abbrev pub refusal_of : Setting → Frame → Option Refusal
refusal_of s frame = refusal_of_decoded s (decode frame)

-- a command, if the scene allows it, and if it is not before the horizon
abbrev pub allowed_commands : Result (Unit {0}) CheckFault → ℕ → Command → List Command
allowed_commands (Ok done) horizon c = if nat_lt c.name.tick horizon then [] else c ∷ []
allowed_commands (Err fault) horizon c = []

abbrev pub commands_of_decoded : Setting → Result Command FrameFault → List Command
commands_of_decoded s (Ok c) = allowed_commands (check s.scene c.name c.payload) s.horizon c
commands_of_decoded s (Err fault) = []

-- the commands of those frames that a peer does not refuse
abbrev pub commands_in : Setting → List Frame → List Command
commands_in s frames = flat_map (λ frame. commands_of_decoded s (decode frame)) frames

-- a peer after it has taken frames, of which those that it refuses change nothing
abbrev pub with_frames : Setting → Peer → List Frame → Peer
with_frames s p frames = record p { commands = put_all p.commands (commands_in s frames) }

-- how many frames a peer refuses
abbrev pub refused_count : Setting → List Frame → ℕ
refused_count s frames = count_by (λ frame. is_some (refusal_of s frame)) frames

-- what a poll returns that has taken these frames
pub record AreCounts (s : Setting) (frames : List Frame) (polled : Polled) : Type 0 where
  pub taken : polled.taken ≡ length frames
  pub refused : polled.refused ≡ refused_count s frames
