use Rattle.pf_commands.proofs.WeightOrder.{answered}
use Rattle.pf_commands.proofs.outcome.compared.Goals as goal

pub returns-in-Less : goal.returns-in-Less
returns-in-Less c =
    answered c.args.held.now c.args.payload.now _ _ _ _ c.weight_parts.ensures.value c.weight_parts-2.ensures.value
    c.weight_parts.ensures.range c.weight_parts-2.ensures.range c.cmp.ensures c.in-Less.is

pub returns-in-Equal : goal.returns-in-Equal
returns-in-Equal c =
    answered c.args.held.now c.args.payload.now _ _ _ _ c.weight_parts.ensures.value c.weight_parts-2.ensures.value
    c.weight_parts.ensures.range c.weight_parts-2.ensures.range c.cmp.ensures c.in-Equal.is

pub returns-in-Greater : goal.returns-in-Greater
returns-in-Greater c =
    answered c.args.held.now c.args.payload.now _ _ _ _ c.weight_parts.ensures.value c.weight_parts-2.ensures.value
    c.weight_parts.ensures.range c.weight_parts-2.ensures.range c.cmp.ensures c.in-Greater.is
