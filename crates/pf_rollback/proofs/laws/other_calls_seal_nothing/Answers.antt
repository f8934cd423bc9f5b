use Rattle.pf_rollback.proofs.Seals.{advance_seals, issue_seals, merge_seals, merge_sealed_seals, take_seals}
use Rattle.pf_rollback.proofs.laws.other_calls_seal_nothing.Goals as goal

pub returns-clause-taken : goal.returns-clause-taken
returns-clause-taken c = take_seals

pub returns-clause-issued : goal.returns-clause-issued
returns-clause-issued c = issue_seals

pub returns-clause-merged : goal.returns-clause-merged
returns-clause-merged c = merge_seals

pub returns-clause-merged_sealed : goal.returns-clause-merged_sealed
returns-clause-merged_sealed c = merge_sealed_seals

pub returns-clause-advanced : goal.returns-clause-advanced
returns-clause-advanced c = advance_seals
