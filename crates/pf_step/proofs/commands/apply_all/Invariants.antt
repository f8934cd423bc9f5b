use Rattle.std.proofs.Common.{◌≡◌, take}
use Rattle.pf_step.specs.Commands.{after_commands}
use Rattle.pf_step.proofs.commands.apply_all.Given as goal

abbrev pub invariant-loop-payload : goal.invariant-loop-payload
invariant-loop-payload l =
    l.bodies ≡ after_commands l.fixtures l.initial.bodies (take l.payload-index l.payloads)
