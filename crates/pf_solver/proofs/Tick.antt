-- The three parts of the tick of an island are its tick.
use Rattle.std.proofs.Common.{◌≡◌, refl}
use Rattle.pf_shapes.specs.Scene.{Scene}
use Rattle.pf_islands.specs.Split.{Island}
use Rattle.pf_solver.specs.Alone.{island_after_rounds, island_after_tick, island_at_end, prepared_island}
use Rattle.pf_solver.specs.Solve.{prepared_batch, solved_batch}

pub tick_in_parts : (s : Scene) (i : Island)
    → island_at_end (island_after_rounds (prepared_island s i)) ≡ island_after_tick s i
unfolding island_at_end solved_batch prepared_batch
tick_in_parts s i = refl
