use Rattle.std.proofs.Common.{rules, ◌∙◌, arith}
use Rattle.pf_commands.proofs.Spans.{span, get-out_of_range, held_in_span, most_in_span, none_in_span}
use Rattle.pf_commands.proofs.map.CommandMap.greatest.Goals as goal
use Rattle.pf_commands.proofs.map.CommandMap.greatest.Goals.{then-tick-ge-MAX_TICK-via-then-tick-ge-MAX_TICK, then-tick-ge-MAX_TICK-via-else-tick-ge-MAX_TICK+then-player-ge-PLAYERS}

pub returns-then-tick-ge-MAX_TICK-clause-none : goal.returns-then-tick-ge-MAX_TICK-clause-none
returns-then-tick-ge-MAX_TICK-clause-none c number =
    rw (← c.self.view_is) (get-out_of_range _ c.self.invariant _ (λ isn. elim c.then-tick-ge-MAX_TICK.branch [
      | then-tick-ge-MAX_TICK-via-then-tick-ge-MAX_TICK w ↦ omega (arith, isn.tick)
      | then-tick-ge-MAX_TICK-via-else-tick-ge-MAX_TICK+then-player-ge-PLAYERS w ↦ omega (arith, isn.player)
    ]))

pub returns-in_err-name-clause-none : goal.returns-in_err-name-clause-none
returns-in_err-name-clause-none c =
    let s = span c.self.inside.commands.entries (c.new.ensures.start ∙ c.new-first.ensures) (c.new.ensures.end ∙ c.new-last.ensures) c.self.view_is c.self.invariant in
    rw c.from_residual.ensures (none_in_span s ((c.range.ensures.in_range (search rules)).5 c.in_err-name.ensures.steps.0))

pub returns-clause-held : goal.returns-clause-held
returns-clause-held c =
    let s = span c.self.inside.commands.entries (c.new.ensures.start ∙ c.new-first.ensures) (c.new.ensures.end ∙ c.new-last.ensures) c.self.view_is c.self.invariant in
    let e = (c.range.ensures.in_range (search rules)).3 _ _ c.in_ok-name.ensures.steps in
    held_in_span s c.in_ok-name.name.now c.in_ok-name.field-0-1.now c.number.result e.0 e.1 c.number.ensures.value

pub returns-clause-most : goal.returns-clause-most
returns-clause-most c =
    let s = span c.self.inside.commands.entries (c.new.ensures.start ∙ c.new-first.ensures) (c.new.ensures.end ∙ c.new-last.ensures) c.self.view_is c.self.invariant in
    let r = c.range.ensures.in_range (search rules) in
    most_in_span s c.in_ok-name.name.now c.number.result (r.3 _ _ c.in_ok-name.ensures.steps).0 c.number.ensures.value (r.4 _ _ c.in_ok-name.ensures.steps)
