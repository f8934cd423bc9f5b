use Rattle.std.proofs.Common.{arith}
use Rattle.pf_program.proofs.Sizes.{size_in, size_none}
use Rattle.pf_program.proofs.command_line.crew_size.Goals as goal

pub returns-in-Ok : goal.returns-in-Ok
returns-in-Ok c =
    let spelled = c.in-Ok.ensures.value.0 in
    size_in c.args.word.now c.in-Ok.size spelled.0 spelled.1 (omega arith) (omega arith)

pub returns-in_default-3 : goal.returns-in_default-3
returns-in_default-3 c = size_none c.args.word.now c.in_default.ensures.value.0
