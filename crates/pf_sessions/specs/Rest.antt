-- What is left on links when the peers have ended.
use Rattle.std.specs.Prelude.{◌≡◌, List, [], ◌∷◌, ◌++◌, All, drop, length}
use Rattle.pf_commands.specs.Merge.{IsCommand}
use Rattle.pf_links.specs.Link.{Frame, SameOut, got, handed}
use Rattle.pf_links.specs.declared.input.LinkIn.{LinkIn}
use Rattle.pf_links.specs.declared.output.LinkOut.{LinkOut}
use Rattle.pf_rollback.specs.Core.{PeerCore}
use Rattle.pf_scripts.specs.Frames.{commands_in, core_setting, with_frames}

-- the frames of a link that were not taken
abbrev pub left_on : LinkOut → LinkIn → List Frame
left_on sender input = drop (length (got input)) (handed sender)

-- those of all links to a peer, link by link
abbrev pub all_left : List LinkOut → List LinkIn → List Frame
all_left [] inputs = []
all_left (sender ∷ senders) [] = []
all_left (sender ∷ senders) (input ∷ inputs) = left_on sender input ++ all_left senders inputs

-- an end of the same link, into which nothing more was handed
pub record KeepsHanded (old new : LinkOut) : Type 0 where
  pub same : SameOut old new
  pub handed : handed new ≡ handed old

-- a peer has taken these frames, of which those that it refuses change nothing
pub record HasTaken (old new : PeerCore) (frames : List Frame) : Type 0 where
  pub setting : core_setting new ≡ core_setting old
  pub peer : new.peer ≡ with_frames (core_setting old) old.peer frames
  pub ranges : All IsCommand (commands_in (core_setting old) frames)
