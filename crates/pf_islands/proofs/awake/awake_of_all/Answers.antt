use Rattle.std.proofs.Common.{rules, ◌∙◌, ◌∷◌, ◌++◌, [], ℕ, Global, Vec, true, false, ap, append-nil, sym}
use Rattle.std.proofs.lemmas.List.{get_or_read}
use Rattle.pf_shapes.specs.Body.{BodyState, no_state}
use Rattle.pf_islands.proofs.AwakeNumbers.{numbers_more}
use Rattle.pf_islands.proofs.awake.awake_of_all.Goals.{then-body, else-body}
use Rattle.pf_islands.proofs.awake.awake_of_all.Goals as goal

pub loop-number-preserved : goal.loop-number-preserved
loop-number-preserved c =
    let bodies = c.args.bodies.now in
    let k = c.loop-number.number in
    let body = get_or_read bodies k c.index-bodies-number.result c.loop-number-test.true c.index-bodies-number.is no_state in
    let awake_is = sym (ap (λ (b : BodyState). b.awake) body) ∙ sym (ap (λ (b : BodyState). b.awake) c.body.view_is) in
    record {
      numbers = elim c.if-body.branch [
        | then-body w ↦ ap (λ (v : Vec ℕ Global). v.items) w.numbers-is ∙ w.push_reserved.ensures.items
            ∙ ap (λ ns. ns ++ k ∷ []) c.loop-number.invariant.numbers
            ∙ sym (numbers_more bodies k true (awake_is ∙ w.if-body.true))
        | else-body w ↦ ap (λ (v : Vec ℕ Global). v.items) w.numbers-is ∙ c.loop-number.invariant.numbers
            ∙ sym (append-nil _) ∙ sym (numbers_more bodies k false (awake_is ∙ w.if-body.false))
      ];
      few = search rules;
      room = search rules;
    }
