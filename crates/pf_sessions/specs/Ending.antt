-- The peers of a session at its end, when what was left on their links is taken.
use Rattle.std.specs.Prelude.{◌≡◌, ⊤, List, [], ◌∷◌, ◌++◌, All, None, map}
use Rattle.std.specs.List.{AllZip}
use Rattle.pf_commands.specs.Merge.{IsCommand}
use Rattle.pf_links.specs.Link.{got, handed}
use Rattle.pf_links.specs.declared.input.LinkIn.{LinkIn}
use Rattle.pf_links.specs.declared.output.LinkOut.{LinkOut}
use Rattle.pf_rollback.specs.Kept.{settled_tick}
use Rattle.pf_rollback.specs.Peer.{world_of}
use Rattle.pf_scripts.specs.Frames.{commands_in, core_setting, with_frames}
use Rattle.pf_scripts.specs.Peer.{scripted_player, played_scene}
use Rattle.pf_scripts.specs.declared.peer.Peer.{Peer}
use Rattle.pf_step.specs.World.{World}
use Rattle.pf_sessions.specs.Links.{AreLinked, IsDelivered, inputs_of, outputs_of}
use Rattle.pf_sessions.specs.Rest.{KeepsHanded, all_left, left_on}
use Rattle.pf_sessions.specs.Table.{transpose}
use Rattle.pf_sessions.specs.declared.ending.Receiver.{Receiver}

-- the ends of the links to each receiver
abbrev pub inputs_in : List Receiver → List (List LinkIn)
inputs_in receivers = map (λ receiver. receiver.inputs.items) receivers

-- the core and the ends of the links to a peer
abbrev pub receiver_of : Peer → Receiver
receiver_of p = record { core = p.core; inputs = p.inputs }

-- what was handed in was taken, or is left
abbrev pub IsTakenOrLeft : LinkOut → LinkIn → Type 0
IsTakenOrLeft sender input = handed sender ≡ got input ++ left_on sender input

-- a receiver has taken what was left on its links, of which these are the senders' ends, and has
-- settled its ticks
pub record HasFinished (old : Receiver) (senders : List LinkOut) (new : Receiver) : Type 0 where
  pub setting : core_setting new.core ≡ core_setting old.core
  pub peer : new.core.peer
      ≡ with_frames (core_setting old.core) old.core.peer (all_left senders old.inputs.items)
  pub ranges : All IsCommand
      (commands_in (core_setting old.core) (all_left senders old.inputs.items))
  pub all : AllZip IsTakenOrLeft senders old.inputs.items
  pub settled : settled_tick new.core.kept ≡ new.core.peer.reached

-- each receiver has finished, with its row of senders' ends
abbrev pub AllFinished : List Receiver → List (List LinkOut) → List Receiver → Type 0
AllFinished [] [] [] = ⊤
AllFinished (old ∷ olds) (row ∷ rows) (new ∷ news) =
    HasFinished old row new × AllFinished olds rows news
AllFinished olds rows news = ⊥

-- each receiver has finished, and `after` are the senders' ends then: nothing is left on any link
pub record AreFinished
    (olds : List Receiver) (rows : List (List LinkOut))
    (news : List Receiver) (after : List (List LinkOut))
    : Type 0 where
  pub finished : AllFinished olds rows news
  pub links : AllZip (AllZip IsDelivered) after (inputs_in news)
  pub handed : AllZip (AllZip KeepsHanded) rows after

-- a peer keeps no frame, and its world is that of the tick that it has reached
pub record ShowsLast (e : Peer × World) : Type 0 where
  pub kept : e.0.kept ≡ None
  pub world : e.1 ≡ world_of (played_scene e.0) (scripted_player e.0) (scripted_player e.0).reached

-- peers that have played, and what they are at the end
pub record AreEnded (played : List Peer) (ended : List (Peer × World)) : Type 0 where
  pub finished : AllFinished (map receiver_of played) (transpose (outputs_of played))
      (map (λ e. receiver_of e.0) ended)
  pub shown : All ShowsLast ended
  pub links : let peers = map (λ e. e.0) ended in
      AreLinked IsDelivered (outputs_of peers) (inputs_of peers)
  pub handed : AllZip (AllZip KeepsHanded) (outputs_of played)
      (outputs_of (map (λ e. e.0) ended))
