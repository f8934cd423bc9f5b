use Rattle.std.proofs.Common.{◌≡◌, ◌+◌, length}
use Rattle.std.specs.Prelude.{All}
use Rattle.std.specs.Arc.{arc_value}
use Rattle.pf_shapes.specs.Pair.{IsPairOf}
use Rattle.pf_workers.proofs.Chunks.{AreCutOff}
use Rattle.pf_workers.proofs.colliding.chunks_of.Given as goal

abbrev pub invariant-loop-made : goal.invariant-loop-made
invariant-loop-made l = record {
  count : length l.parts.items + 1 ≡ l.made;
  pairs : All (IsPairOf (length (arc_value l.fn.bodies).items)) l.rest;
  points : AreCutOff (arc_value l.fn.scene).fixtures (arc_value l.fn.bodies).items l.parts.items l.rest l.fn.pairs;
}
