use Rattle.pf_num.specs.Round.{near}
use Rattle.pf_num.proofs.Nearest.{meets, unique, not_zero}
use Rattle.pf_num.proofs.laws.rounds_to_nearest_even.Goals as goal

pub returns-clause-meets : goal.returns-clause-meets
returns-clause-meets c = λ p q some. meets p q (not_zero q some)

pub returns-clause-unique : goal.returns-clause-unique
returns-clause-unique c = λ p q n some h. unique p q (near p q) n (not_zero q some) (meets p q (not_zero q some)) h
