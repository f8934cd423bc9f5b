use Rattle.std.proofs.Common.{rules, ◌≡◌, ◌∙◌, ◌++◌, ◌∷◌, ◌%◌, ◌<◌, List, [], ap, length, refl, sym, subst, arith}
use Rattle.std.proofs.lemmas.Nat.{mod_below}
use Rattle.std.proofs.lemmas.List.{drop_all, length-set}
use Rattle.pf_islands.specs.Split.{Island}
use Rattle.pf_workers.specs.Dealing.{AreShares, AreSharesFrom}
use Rattle.pf_pool.proofs.Lists.{default_same}
use Rattle.pf_workers.proofs.Shares.{all_empty, gather_step, still_some}
use Rattle.pf_workers.proofs.stack.gather.Goals.{In-None}
use Rattle.pf_workers.proofs.stack.gather.Goals as goal

pub loop-number-preserved : goal.loop-number-preserved
loop-number-preserved c =
    let is = c.loop-number.invariant in
    let k = c.loop-number.number in
    let stacks = c.loop-number.stacks.items in
    let n = c.len.result in
    let who = k % n in
    let long : n ≡ length stacks = search rules in
    let within : who < length stacks = omega (arith, mod_below k n (omega (arith, long, c.requires, is.long)), long) in
    record {
      gathered = λ all shares many.
          let g = is.gathered all shares many in
          let step = gather_step all c.args.islands.now.items k who c.in-Some.island c.pop.new.self stacks
          (omega (arith, c.loop-number-test.true, many)) (ap (λ m. k % m) (sym long)) within g.1
          (default_same stacks who [] _ within ∙ sym c.index_mut.ensures.value ∙ c.in-Some.ensures.some) in
          (c.in_ok-push-in-Some.ensures.items ∙ ap (λ l. l ++ c.in-Some.island ∷ []) g.0 ∙ step.0, step.1);
      long = length-set stacks who c.pop.new.self ∙ is.long;
    }

-- where islands are left, the worker whose turn it is has one
never_none : (c : In-None) (all : List Island) → AreShares all c.args.stacks.items → length all ≡ c.args.count → ⊥
never_none c all shares many =
    let is = c.loop-number.invariant in
    let k = c.loop-number.number in
    let stacks = c.loop-number.stacks.items in
    let n = c.len.result in
    let who = k % n in
    let long : n ≡ length stacks = search rules in
    let within : who < length stacks = omega (arith, mod_below k n (omega (arith, long, c.requires, is.long)), long) in
    still_some all k who stacks (omega (arith, c.loop-number-test.true, many)) (ap (λ m. k % m) (sym long)) within
    (is.gathered all shares many).1
    (default_same stacks who [] _ within ∙ sym c.index_mut.ensures.value ∙ c.in-None.ensures.none refl)

pub returns-in-None-clause-gathered : goal.returns-in-None-clause-gathered
returns-in-None-clause-gathered c all shares many =
    absurd (never_none (goal.at.returns-in-None-clause-gathered c).In-None all shares many)

pub returns-in-None-clause-empty : goal.returns-in-None-clause-empty
returns-in-None-clause-empty c all shares many =
    absurd (never_none (goal.at.returns-in-None-clause-empty c).In-None all shares many)

pub returns-clause-empty : goal.returns-clause-empty
returns-clause-empty c all shares many =
    let k = c.loop-number.number in
    all_empty k c.loop-number.stacks.items
    (subst (λ l. AreSharesFrom k l c.loop-number.stacks.items) (drop_all k all (omega (arith, c.loop-number-test.false, many)))
    (c.loop-number.invariant.gathered all shares many).1)
