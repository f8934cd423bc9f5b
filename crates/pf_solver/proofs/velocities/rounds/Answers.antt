use Rattle.std.proofs.Common.{◌∙◌, ap, sym}
use Rattle.pf_solver.specs.Impulse.{after_round}
use Rattle.pf_solver.specs.Velocities.{Batch, pass}
use Rattle.pf_solver.proofs.Passes.{passes_more, passes_none}
use Rattle.pf_solver.proofs.velocities.rounds.Goals as goal

pub loop-init : goal.loop-init
loop-init c = record { value = passes_none after_round _; fit = c.requires }

pub loop-preserved : goal.loop-preserved
loop-preserved c = record {
  value = c.pass.ensures.value ∙ ap (λ (b : Batch). pass after_round b.bodies b.rows) c.loop.invariant.value
      ∙ sym (passes_more c.loop.counter after_round _);
  fit = c.pass.ensures.rows;
}
