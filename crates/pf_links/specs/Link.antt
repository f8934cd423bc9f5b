-- What a contract sees of the two ends of a link.
use Rattle.std.specs.Prelude.{◌≡◌, ℕ, List, ◌++◌}
use Rattle.rtrb.specs.Ring.{IsPair, SameConsumer, SameProducer, known_free, known_items, producer_capacity, received, sent}
use Rattle.pf_links.specs.declared.output.LinkOut.{LinkOut}
use Rattle.pf_links.specs.declared.input.LinkIn.{LinkIn}

-- the bytes of a frame
abbrev pub Frame : Type 0
Frame = List ℕ

-- the frames that were pushed on the ring
abbrev pub pushed_frames : LinkOut → List Frame
pushed_frames l = sent l.ring

-- the frames for which the ring had no room yet
abbrev pub backlog_of : LinkOut → List Frame
backlog_of l = l.backlog.items

-- the frames that were handed in, in their order
abbrev pub handed : LinkOut → List Frame
handed l = pushed_frames l ++ backlog_of l

-- how many frames more the ring has room for, as far as its sender knows
abbrev pub room_of : LinkOut → ℕ
room_of l = known_free l.ring

-- how many frames the ring has room for
abbrev pub capacity_of : LinkOut → ℕ
capacity_of l = producer_capacity l.ring

-- the frames that were taken from the ring, in their order
abbrev pub got : LinkIn → List Frame
got l = received l.ring

-- the next frames of the ring that its receiver knows of
abbrev pub known : LinkIn → List Frame
known l = known_items l.ring

-- the two ends of one link
abbrev pub AreEnds : LinkOut → LinkIn → Type 0
AreEnds out into = IsPair out.ring into.ring

-- the same end of a link, before and after a call
abbrev pub SameOut : LinkOut → LinkOut → Type 0
SameOut old new = SameProducer old.ring new.ring

-- the same of the receiver's end
abbrev pub SameIn : LinkIn → LinkIn → Type 0
SameIn old new = SameConsumer old.ring new.ring

-- nothing was handed in, and nothing left the backlog
pub record LeavesFrames (old new : LinkOut) : Type 0 where
  pub pushed : sent new.ring ≡ sent old.ring
  pub backlog : backlog_of new ≡ backlog_of old
  pub same : SameOut old new
