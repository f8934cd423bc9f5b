use Rattle.pf_cache.proofs.Found.{all_found, new_has_none}
use Rattle.pf_cache.proofs.laws.contacts_are_found.Goals as goal

pub returns-clause-found : goal.returns-clause-found
returns-clause-found c = λ contacts order. all_found 0 contacts order.rising

pub returns-clause-new : goal.returns-clause-new
returns-clause-new c = new_has_none
