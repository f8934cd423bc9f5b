use Rattle.pf_rollback.proofs.Seals.{nothing_sealed, seal_seals, sealed_stays, shown_is_sim}
use Rattle.pf_rollback.proofs.laws.shown_worlds_are_simulations_of_all_commands.Goals as goal

pub returns-clause-shown : goal.returns-clause-shown
returns-clause-shown c = shown_is_sim

pub returns-clause-none : goal.returns-clause-none
returns-clause-none c = nothing_sealed

pub returns-clause-sealed : goal.returns-clause-sealed
returns-clause-sealed c = seal_seals

pub returns-clause-kept : goal.returns-clause-kept
returns-clause-kept c = sealed_stays
