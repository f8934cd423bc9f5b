use Rattle.pf_commands.proofs.Checks.{each_allowed, all_allowed, first_fault, fault_first}
use Rattle.pf_commands.proofs.laws.first_error_is_returned.Goals as goal

pub returns-clause-allowed : goal.returns-clause-allowed
returns-clause-allowed c = λ scene commands. (each_allowed scene commands, all_allowed scene commands)

pub returns-clause-fault : goal.returns-clause-fault
returns-clause-fault c = λ scene commands fault. (first_fault scene commands fault, fault_first scene commands fault)
