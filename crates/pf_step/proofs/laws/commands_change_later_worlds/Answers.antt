use Rattle.std.proofs.Common.{arith}
use Rattle.pf_commands.specs.Merge.{merge, singleton}
use Rattle.pf_commands.proofs.Ticks.{payloads_at-other}
use Rattle.pf_step.proofs.Ticks.{sim_same}
use Rattle.pf_step.proofs.laws.commands_change_later_worlds.Goals as goal

pub returns : goal.returns
returns c = λ scene commands name payload tick late.
    sim_same scene (merge commands (singleton name payload)) commands tick
    (λ t below. payloads_at-other commands name payload t (λ same. omega (arith, same)))
