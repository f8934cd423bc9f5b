use Rattle.pf_commands.proofs.Encoding.{encoding_encodes, same_spelling, same_command, no_beginning}
use Rattle.pf_commands.proofs.laws.commands_have_one_encoding.Goals as goal

pub returns-clause-each : goal.returns-clause-each
returns-clause-each c = encoding_encodes

pub returns-clause-same_bytes : goal.returns-clause-same_bytes
returns-clause-same_bytes c = same_spelling

pub returns-clause-same_command : goal.returns-clause-same_command
returns-clause-same_command c = same_command

pub returns-clause-no_prefix : goal.returns-clause-no_prefix
returns-clause-no_prefix c = no_beginning
