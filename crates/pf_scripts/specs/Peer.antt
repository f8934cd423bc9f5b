-- What a contract sees of a peer with its links.
use Rattle.std.specs.Prelude.{◌≡◌, ◌<◌, ◌≤◌, List, [], ◌∷◌, ◌++◌, All, None, Some, drop, length}
use Rattle.std.specs.List.{AllZip}
use Rattle.std.specs.Option.{option_to_list}
use Rattle.pf_shapes.specs.Scene.{Scene}
use Rattle.pf_commands.specs.Frame.{decode}
use Rattle.pf_commands.specs.Merge.{CommandMap, IsCommand, put_all}
use Rattle.pf_links.specs.Link.{Frame, SameIn, SameOut, got, handed, known}
use Rattle.pf_links.specs.declared.input.LinkIn.{LinkIn}
use Rattle.pf_links.specs.declared.output.LinkOut.{LinkOut}
use Rattle.pf_rollback.specs.Calls.{IsHeld}
use Rattle.pf_rollback.specs.Peer.{Peer as Player}
use Rattle.pf_scripts.specs.Frames.{Setting, commands_in, core_setting, refusal_of, with_frames}
use Rattle.pf_scripts.specs.declared.peer.Peer.{Peer}

-- the scene that a peer plays
abbrev pub played_scene : Peer → Scene
played_scene p = p.core.scene

-- the scene, and the peer's horizon
abbrev pub setting_of : Peer → Setting
setting_of p = core_setting p.core

-- its player, horizon, commands and reached tick
abbrev pub scripted_player : Peer → Player
scripted_player p = p.core.peer

-- the frame that found no memory, if there is one
abbrev pub kept_of : Peer → List Frame
kept_of p = option_to_list p.kept

-- the commands that a peer holds, and the one in the frame that it keeps
abbrev pub commands_of : Peer → CommandMap
commands_of p = put_all (scripted_player p).commands (commands_in (setting_of p) (kept_of p))

-- ---- what came over links

-- the frames that a receiver has taken between two moments
abbrev pub fresh : LinkIn → LinkIn → List Frame
fresh old new = drop (length (got old)) (got new)

-- those of all links, link by link
abbrev pub all_fresh : List LinkIn → List LinkIn → List Frame
all_fresh [] news = []
all_fresh (old ∷ olds) [] = []
all_fresh (old ∷ olds) (new ∷ news) = fresh old new ++ all_fresh olds news

-- an end of the same link, from which more frames were taken
abbrev pub IsLater : LinkIn → LinkIn → Type 0
IsLater old new = SameIn old new × (got new ≡ got old ++ fresh old new)

-- the same, from which at most one frame was taken
abbrev pub IsLaterByOne : LinkIn → LinkIn → Type 0
IsLaterByOne old new = IsLater old new × (length (fresh old new) ≤ 1)

-- the next frame was taken, if the receiver knew of one
abbrev pub HasLooked : LinkIn → LinkIn → Type 0
HasLooked old new = 0 < length (known old) → length (fresh old new) ≡ 1

-- an end of the same link, into which these frames were handed
abbrev pub WereHanded : List Frame → LinkOut → LinkOut → Type 0
WereHanded frames old new = SameOut old new × (handed new ≡ handed old ++ frames)

-- ---- polling

-- A peer has taken these frames: one that it kept, and then, link by link, those that have come.
-- One more may have come, for which there was no memory: that one it keeps.
pub record HasPolled (old new : Peer) (frames : List Frame) : Type 0 where
  pub peer : scripted_player new ≡ with_frames (setting_of old) (scripted_player old) frames
  pub setting : setting_of new ≡ setting_of old
  pub all : frames ++ kept_of new ≡ kept_of old ++ all_fresh old.inputs.items new.inputs.items
  pub ranges : All IsCommand (commands_in (setting_of old) (frames ++ kept_of new))
  pub inputs : AllZip IsLaterByOne old.inputs.items new.inputs.items
  pub outputs : new.outputs ≡ old.outputs

-- a peer keeps a frame that it does not refuse, and whose command's name it does not hold
abbrev pub KeepsFrame : Peer → Type 0
KeepsFrame p =
    (frame : Frame) × (p.kept ≡ Some frame) × (refusal_of (setting_of p) frame ≡ None)
    × ¬ IsHeld (scripted_player p).commands (decode frame)
