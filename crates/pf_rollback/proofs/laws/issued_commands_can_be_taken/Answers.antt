use Rattle.pf_rollback.proofs.Issued.{issued_decodes, issued_taken}
use Rattle.pf_rollback.proofs.laws.issued_commands_can_be_taken.Goals as goal

pub returns-clause-encoded : goal.returns-clause-encoded
returns-clause-encoded c = issued_decodes

pub returns-clause-taken : goal.returns-clause-taken
returns-clause-taken c = issued_taken
