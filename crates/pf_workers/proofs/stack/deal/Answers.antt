use Rattle.std.proofs.Common.{rules, ◌≡◌, ◌∙◌, ◌++◌, ◌∷◌, ◌%◌, ◌<◌, [], ap, ap₂, length, refl, sym, subst, arith, get_or}
use Rattle.std.proofs.lemmas.Nat.{mod_below}
use Rattle.std.proofs.Math.Seq.{drop-length, take-length}
use Rattle.std.proofs.lemmas.List.{length-append, length-set}
use Rattle.pf_workers.specs.Dealing.{AreSharesFrom}
use Rattle.pf_pool.proofs.Lists.{default_same}
use Rattle.pf_workers.proofs.Shares.{deal_step, shares_of_none}
use Rattle.pf_workers.proofs.stack.deal.Goals as goal

pub loop-island-init : goal.loop-island-init
loop-island-init c =
    let xs = c.args.islands.now.items in
    record {
      rest = sym (take-length xs);
      few = omega arith;
      shares = subst (λ l. AreSharesFrom (length xs) l c.args.stacks.items) (sym (drop-length xs))
          (shares_of_none (length xs) c.args.stacks.items c.requires.empty);
      count = refl;
    }

pub loop-island-preserved : goal.loop-island-preserved
loop-island-preserved c =
    let is = c.loop-island.invariant in
    let stacks = c.loop-island.stacks.items in
    let after = c.pop.new.self.items in
    let x = c.in-Some.island in
    let n = c.len-in-Some.result in
    let who = c.len.result % n in
    let long : n ≡ length stacks = search rules in
    let within : who < length stacks =
    omega (arith, mod_below c.len.result n (omega (arith, long, c.requires.some, is.count)), long) in
    let left : length after ≡ c.len.result = search rules in
    let turn : length after % length stacks ≡ who = ap₂ (λ m k. m % k) left (sym long) in
    let stack_is : c.push.new.self ≡ get_or stacks who [] ++ x ∷ [] =
    c.in_ok-push.ensures ∙ ap (λ p. p ++ x ∷ []) (c.index_mut.ensures.value ∙ default_same stacks who _ [] within) in
    let step = deal_step c.args.islands.now.items c.loop-island.islands.items after x who c.push.new.self stacks
    is.rest is.few c.in-Some.ensures.items is.shares turn within stack_is in
    record {
      rest = step.0;
      few = omega (arith, is.few, ap length c.in-Some.ensures.items, length-append after (x ∷ []));
      shares = step.1;
      count = length-set stacks who c.push.new.self ∙ is.count;
    }
