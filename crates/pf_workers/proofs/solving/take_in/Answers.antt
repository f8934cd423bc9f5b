use Rattle.std.proofs.Common.{◌≡◌, ◌∙◌, ◌<◌, ◌++◌, ◌∷◌, [], None, Some, ap, ap₂, arith, get_or, length, map, sym, take}
use Rattle.std.proofs.lemmas.List.{get_or-set_other, length-set, map-append, take_more, take_more_set}
use Rattle.pf_pool.proofs.Lists.{default_same}
use Rattle.pf_workers.specs.declared.work.Part.TheVariants.{Solved}
use Rattle.pf_workers.proofs.Answered.{solved}
use Rattle.pf_workers.proofs.solving.take_in.Goals as goal

pub loop-number-preserved : goal.loop-number-preserved
loop-number-preserved g c =
    let n = c.loop-number.number in
    let parts = c.args.parts.now in
    let stack = c.in_ok-stacks-in-Some-Solved.field-0 in
    let low : n < length c.loop-number.stacks = omega (arith, c.loop-number-test.true, c.loop-number.invariant.count) in
    let there : n < length parts = omega (arith, low, c.loop-number.invariant.count, c.requires.count) in
    let at : get_or c.loop-number.parts n None ≡ solved stack =
    default_same c.loop-number.parts n None c.index-parts-number.result (omega (arith, there, c.loop-number.invariant.parts))
    ∙ sym c.take.ensures.value ∙ c.in-Some-Solved.is
    ∙ ap Some (c.in-Some-Solved.field-0-is ∙ ap Solved c.in_ok-stacks-in-Some-Solved.was) in record {
      count = length-set c.loop-number.stacks n stack ∙ c.loop-number.invariant.count;
      done = ap (map solved) (take_more_set c.loop-number.stacks n stack low)
          ∙ map-append solved (take n c.loop-number.stacks) (stack ∷ [])
          ∙ ap₂ (λ l p. l ++ p ∷ []) c.loop-number.invariant.done
          (sym at ∙ c.loop-number.invariant.left n (omega arith))
          ∙ sym (take_more parts n None there);
      left = λ k more. get_or-set_other c.loop-number.parts n k c.take.new.self None (λ same. absurd (omega (arith, same, more)))
          ∙ c.loop-number.invariant.left k (omega (arith, more));
      parts = length-set c.loop-number.parts n c.take.new.self ∙ c.loop-number.invariant.parts;
    }
