use Rattle.pf_rollback.proofs.Numbers.{next_number-above, next_number-held}
use Rattle.pf_rollback.proofs.laws.numbers_follow_the_greatest.Goals as goal

pub returns-clause-above : goal.returns-clause-above
returns-clause-above c = next_number-above

pub returns-clause-before : goal.returns-clause-before
returns-clause-before c = next_number-held
