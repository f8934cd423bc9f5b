use Rattle.std.proofs.Common.{ap, arith, length, map, ◌∙◌}
use Rattle.std.specs.FinMap.{entries, len-entries}
use Rattle.std.specs.Map.Iter.{deref_pair}
use Rattle.std.proofs.lemmas.List.{length-map}
use Rattle.std.proofs.lemmas.Map.Iter.{iter_end, iter_turn}
use Rattle.pf_context.specs.Frames.{later_commands}
use Rattle.pf_context.proofs.Later.{later_few}
use Rattle.pf_context.proofs.frames.count_from.Goals as goal

pub overflow_add-count : goal.overflow_add-count
overflow_add-count c =
    let es = entries c.args.commands.now in
    let few = later_few c.args.tick (map deref_pair c.loop-name.yielded) in
    let start = c.into_iter-name-iterator.ensures.into_iter_gives ∙ c.iter-name-items.ensures.entries in
    let turn = iter_turn deref_pair es c.loop-name.yielded _ _ _ _ start
    c.loop-name.yielded_by (c.in-Some.name, c.in-Some.field-0-1) c.in-Some.is c.next.ensures.steps in
    let same = length-map c.loop-name.yielded deref_pair in
    let total = len-entries c.args.commands.now in
    omega (arith, few, turn.0, same, total, c.len-total.ensures.value, c.len-total.ensures.small, c.loop-name.invariant)

pub returns : goal.returns
returns c =
    let es = entries c.args.commands.now in
    let start = c.into_iter-name-iterator.ensures.into_iter_gives ∙ c.iter-name-items.ensures.entries in
    let whole = iter_end deref_pair es c.loop-name.yielded _ _ _ _ start c.loop-name.yielded_by c.in-None.is c.next.ensures.steps in
    c.loop-name.invariant ∙ ap (λ done. length (later_commands c.args.tick done)) whole.0
