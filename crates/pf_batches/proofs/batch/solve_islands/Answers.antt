use Rattle.std.proofs.Common.{◌∙◌, ap, map}
use Rattle.pf_solver.specs.Alone.{island_after_rounds, island_at_end}
use Rattle.pf_batches.proofs.Parts.{ticks_in_parts}
use Rattle.pf_batches.proofs.batch.solve_islands.Goals as goal

pub returns : goal.returns
returns c =
    c.finish_all.ensures ∙ ap (map island_at_end) (c.solve_all_rounds.ensures ∙ ap (map island_after_rounds) c.prepare_all.ensures.value)
    ∙ ticks_in_parts c.args.scene.now c.args.islands.now
