use Rattle.std.proofs.Common.{rules, ap, sym, ◌∙◌, map, length, arith}
use Rattle.std.specs.Map.Iter.{deref_pair}
use Rattle.std.proofs.lemmas.List.{length-map}
use Rattle.std.proofs.lemmas.Map.Iter.{iter_turn, iter_end}
use Rattle.pf_commands.specs.Merge.{payloads_at}
use Rattle.pf_commands.proofs.Spans.{payloads_at-out_of_range, payloads_between}
use Rattle.pf_commands.proofs.map.CommandMap.at_tick.Goals as goal

pub returns-then-tick-ge-MAX_TICK-clause-items : goal.returns-then-tick-ge-MAX_TICK-clause-items
returns-then-tick-ge-MAX_TICK-clause-items c =
    c.new.ensures.items ∙ sym (payloads_at-out_of_range _ c.args.tick c.self.invariant c.if-tick-ge-MAX_TICK.true) ∙ ap (λ m. payloads_at m c.args.tick) c.self.view_is

pub returns-in_err-push-clause-no_memory : goal.returns-in_err-push-clause-no_memory
returns-in_err-push-clause-no_memory c none =
    let found = c.range-payload-items.result in
    let all = payloads_between c.self.inside.commands.entries found _ _ c.args.tick (c.new-2.ensures.start ∙ c.new-first.ensures) (c.new-2.ensures.end ∙ c.new-last.ensures)
    c.range-payload-items.ensures.ordered c.self.invariant c.self.view_is (c.range-payload-items.ensures.between (search rules)) in
    let turn = iter_turn deref_pair found c.loop-payload.yielded _ _ _ _ c.into_iter-payload-iterator.ensures.into_iter_gives
    c.loop-payload.yielded_by (c.in-Some.field-0-0, c.in-Some.payload) c.in-Some.is c.next.ensures.steps in
    absurd (omega (arith, turn.0, length-map found (λ e. e.1), ap length (all ∙ none)))

pub returns-clause-items : goal.returns-clause-items
returns-clause-items c =
    let found = c.range-payload-items.result in
    let all = payloads_between c.self.inside.commands.entries found _ _ c.args.tick (c.new-2.ensures.start ∙ c.new-first.ensures) (c.new-2.ensures.end ∙ c.new-last.ensures)
    c.range-payload-items.ensures.ordered c.self.invariant c.self.view_is (c.range-payload-items.ensures.between (search rules)) in
    let whole = iter_end deref_pair found c.loop-payload.yielded _ _ _ _ c.into_iter-payload-iterator.ensures.into_iter_gives
    c.loop-payload.yielded_by c.in-None.is c.next.ensures.steps in
    c.loop-payload.invariant ∙ ap (map (λ e. e.1)) whole.0 ∙ all
