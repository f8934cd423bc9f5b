use Rattle.std.proofs.Common.{◌≡◌, length}
use Rattle.tests_tick.proofs.batches.world_after.Given as goal

abbrev pub invariant-loop : goal.invariant-loop
invariant-loop g l = length l.world.bodies ≡ length l.scene.fixtures
