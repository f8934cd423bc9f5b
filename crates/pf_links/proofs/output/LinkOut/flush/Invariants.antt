use Rattle.std.proofs.Common.{◌≡◌, length}
use Rattle.pf_links.specs.Link.{SameOut, handed}
use Rattle.pf_links.proofs.output.LinkOut.flush.Given as goal

abbrev pub invariant-loop-frame : goal.invariant-loop-frame
invariant-loop-frame l = record {
  handed : handed l.self ≡ handed l.initial.self;
  same : SameOut l.initial.self l.self;
}

abbrev pub decreases-loop-frame : goal.decreases-loop-frame
decreases-loop-frame l = length l.self.backlog.items
