use Rattle.std.proofs.Common.{rules, ◌∙◌, sym}
use Rattle.pf_islands.proofs.Listed.{none_listed}
use Rattle.pf_islands.proofs.awake.awake_numbers.Goals as goal

pub returns-then-is_empty-clause-value : goal.returns-then-is_empty-clause-value
returns-then-is_empty-clause-value c =
    c.new.ensures.items ∙ sym (none_listed c.args.listed.now c.args.bodies.now c.requires (search rules))
