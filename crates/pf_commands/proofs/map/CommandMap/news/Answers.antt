use Rattle.std.proofs.Common.{◌∷◌, [], map, ap, sym, ◌∙◌, arith}
use Rattle.std.specs.Map.Iter.{deref_pair}
use Rattle.std.proofs.lemmas.List.{map-append, length-map}
use Rattle.std.proofs.lemmas.Map.Iter.{iter_turn, iter_end}
use Rattle.std.specs.FinMap.{get}
use Rattle.pf_commands.specs.declared.payload.Command.{Command}
use Rattle.pf_commands.specs.News.{is_change, put_outcome}
use Rattle.pf_commands.proofs.Changes.{noted_few, noted_more}
use Rattle.pf_commands.proofs.Stored.{entries-from_entries}
use Rattle.pf_commands.proofs.map.CommandMap.news.Goals as goal

pub overflow_add-count : goal.overflow_add-count
overflow_add-count c =
    let few = noted_few _ _ _ _ c.loop-name.invariant in
    let start = c.into_iter-name-iterator.ensures.into_iter_gives ∙ c.iter-name-items.ensures.rest in
    let turn = iter_turn deref_pair c.other.inside.commands.entries c.loop-name.yielded _ _ _ _ start
    c.loop-name.yielded_by (c.in-Some.name, c.in-Some.payload) c.in-Some.is c.next.ensures.steps in
    let same = length-map c.loop-name.yielded deref_pair in
    omega (arith, few, turn.0, same, c.iter-name-items.ensures.fits)

pub loop-name-preserved-then-is_change : goal.loop-name-preserved-then-is_change
loop-name-preserved-then-is_change c =
    let e = deref_pair (c.in-Some.name, c.in-Some.payload) in
    rw (map-append deref_pair c.loop-name.yielded ((c.in-Some.name, c.in-Some.payload) ∷ []), c.earlier.ensures, c.tick.ensures.value)
    (noted_more c.args.self.now (map deref_pair c.loop-name.yielded) e c.loop-name.count c.loop-name.least c.loop-name.invariant
    (ap (λ (x : Command). is_change (put_outcome (get c.args.self.now x.name) x.payload)) (sym c.command_of-command.ensures)
    ∙ ap is_change (sym c.outcome.ensures) ∙ sym c.is_change.ensures ∙ c.if-is_change.true))

pub returns : goal.returns
returns c =
    let es = c.other.inside.commands.entries in
    let start = c.into_iter-name-iterator.ensures.into_iter_gives ∙ c.iter-name-items.ensures.rest in
    let whole = iter_end deref_pair es c.loop-name.yielded _ _ _ _ start c.loop-name.yielded_by c.in-None.is c.next.ensures.steps in
    rw (← c.other.view_is, entries-from_entries es c.iter-name-items.ensures.ordered, ← whole.0) c.loop-name.invariant
