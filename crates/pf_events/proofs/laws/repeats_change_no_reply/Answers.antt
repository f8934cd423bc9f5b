use Rattle.pf_events.proofs.Repeats.{merged_again, taken_again, taken_again_is_no_news}
use Rattle.pf_events.proofs.laws.repeats_change_no_reply.Goals as goal

pub returns-clause-taken : goal.returns-clause-taken
returns-clause-taken c = taken_again

pub returns-clause-merged : goal.returns-clause-merged
returns-clause-merged c = merged_again

pub returns-clause-no_news : goal.returns-clause-no_news
returns-clause-no_news c = taken_again_is_no_news
