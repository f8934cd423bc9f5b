use Rattle.pf_commands.proofs.Since.{is_from-IsFrom, IsFrom-is_from, IsFrom-from, commands_from-IsFrom}
use Rattle.pf_commands.proofs.laws.maps_from_a_tick.Goals as goal

pub returns-clause-test : goal.returns-clause-test
returns-clause-test c m tick = (is_from-IsFrom tick m, IsFrom-is_from tick m)

pub returns-clause-dropped : goal.returns-clause-dropped
returns-clause-dropped c m tick = IsFrom-from tick m

pub returns-clause-whole : goal.returns-clause-whole
returns-clause-whole c m tick = commands_from-IsFrom tick m
