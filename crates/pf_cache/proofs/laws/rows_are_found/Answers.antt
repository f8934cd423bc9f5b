use Rattle.pf_cache.proofs.FoundRows.{all_found, none_found, rows_rise}
use Rattle.pf_cache.proofs.laws.rows_are_found.Goals as goal

pub returns-clause-found : goal.returns-clause-found
returns-clause-found c = λ own rows order. all_found own 0 rows (rows_rise rows order)

pub returns-clause-none : goal.returns-clause-none
returns-clause-none c = none_found
