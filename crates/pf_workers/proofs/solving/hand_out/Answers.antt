use Rattle.std.proofs.Common.{rules, ◌≡◌, ◌∙◌, ◌<◌, ◌++◌, ◌∷◌, [], ap, ap₂, arith, get_or, length, map, subst, sym, take}
use Rattle.std.proofs.lemmas.List.{get_or-set_other, length-set, map-append, take_more}
use Rattle.std.specs.Prelude.{All}
use Rattle.std.specs.Arc.{arc_value}
use Rattle.pf_islands.specs.Split.{IsIslandOf}
use Rattle.pf_pool.proofs.Lists.{default_same}
use Rattle.pf_workers.proofs.Answered.{part}
use Rattle.pf_workers.proofs.solving.hand_out.Goals as goal

pub invariant_of-push : goal.invariant_of-push
invariant_of-push c =
    let n = c.loop-number.number in
    let s = arc_value c.args.scene.now in
    let low : n < length c.args.stacks.now = omega (arith, c.loop-number-test.true, c.loop-number.invariant.count) in
    let at : c.replace-stack.result ≡ get_or c.loop-number.stacks n [] =
    c.replace-stack.ensures.value
    ∙ default_same c.loop-number.stacks n c.index-stacks-number.result [] (omega (arith, low, c.loop-number.invariant.count)) in
    let shared : arc_value c.in_ok-scene.scene ≡ s = search rules in
    subst (λ t. All (IsIslandOf t) c.replace-stack.result) (sym shared)
    (subst (All (IsIslandOf s)) (sym (at ∙ c.loop-number.invariant.left n (omega arith))) (c.requires n [] low))

pub loop-number-preserved : goal.loop-number-preserved
loop-number-preserved c =
    let n = c.loop-number.number in
    let s = arc_value c.args.scene.now in
    let stacks = c.args.stacks.now in
    let low : n < length stacks = omega (arith, c.loop-number-test.true, c.loop-number.invariant.count) in
    let at : c.replace-stack.result ≡ get_or c.loop-number.stacks n [] =
    c.replace-stack.ensures.value
    ∙ default_same c.loop-number.stacks n c.index-stacks-number.result [] (omega (arith, low, c.loop-number.invariant.count)) in
    let shared : arc_value c.in_ok-scene.scene ≡ s = search rules in
    let before = c.loop-number.parts.items in
    let pushed : c.push.new.self.items ≡ before ++ part (arc_value c.in_ok-scene.scene) c.replace-stack.result ∷ [] = search rules in record {
      count = length-set c.loop-number.stacks n c.replace-stack.new.dest ∙ c.loop-number.invariant.count;
      parts = pushed
          ∙ ap₂ (λ l p. l ++ p ∷ []) c.loop-number.invariant.parts
          (ap₂ part shared (at ∙ c.loop-number.invariant.left n (omega arith)))
          ∙ sym (map-append (part s) (take n stacks) (get_or stacks n [] ∷ []))
          ∙ ap (map (part s)) (sym (take_more stacks n [] low));
      left = λ k more. get_or-set_other c.loop-number.stacks n k c.replace-stack.new.dest [] (λ same. absurd (omega (arith, same, more)))
          ∙ c.loop-number.invariant.left k (omega (arith, more));
    }
