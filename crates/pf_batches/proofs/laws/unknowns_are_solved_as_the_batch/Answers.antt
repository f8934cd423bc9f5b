use Rattle.pf_batches.proofs.Levels.{level_stored, passes_of_unknowns}
use Rattle.pf_batches.proofs.laws.unknowns_are_solved_as_the_batch.Goals as goal

pub returns-clause-level : goal.returns-clause-level
returns-clause-level c = λ step b n level found states fit rows results.
    level_stored step b n fit level found states rows results

pub returns-clause-passes : goal.returns-clause-passes
returns-clause-passes c = λ k step b n levels fit of. passes_of_unknowns step b k levels n fit of
