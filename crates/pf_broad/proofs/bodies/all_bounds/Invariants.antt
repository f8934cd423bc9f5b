use Rattle.std.proofs.Common.{◌≡◌, ◌++◌, All}
use Rattle.std.specs.Slice.Iter.{iter_rest}
use Rattle.std.specs.Iterator.Adapters.{zip_first, zip_second}
use Rattle.pf_shapes.specs.Bounds.{IsOrdered}
use Rattle.pf_broad.specs.Pairs.{all_bounds}
use Rattle.pf_broad.proofs.bodies.all_bounds.Given as goal

abbrev pub invariant-loop-fixture : goal.invariant-loop-fixture
invariant-loop-fixture l = record {
  value : l.all.items ++ all_bounds (iter_rest (zip_first l.fixture-iterator)) (iter_rest (zip_second l.fixture-iterator)) ≡ all_bounds l.scene.fixtures l.bodies;
  ordered : All IsOrdered l.all.items;
}
