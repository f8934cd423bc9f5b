use Rattle.std.proofs.Common.{⊎_elim, ◌<◌, length, not, sym, ap, arith, ◌∙◌}
use Rattle.std.proofs.lemmas.Bool.{cases_Bool}
use Rattle.std.proofs.lemmas.List.{take_all}
use Rattle.pf_broad.specs.Enlarged.{contains}
use Rattle.pf_broad.specs.Pairs.{bounds_at}
use Rattle.pf_broad.specs.Partners.{has_body}
use Rattle.pf_broad.proofs.Leaving.{left-contained}
use Rattle.pf_broad.proofs.Partnering.{filter-AreBodies}
use Rattle.pf_broad.proofs.enlarged.refit.Goals.{After-from-i}
use Rattle.pf_broad.proofs.enlarged.refit.Goals as goal

-- the next body is one with bounds
below : (c : After-from-i) → c.from-i.result < length c.args.bounds.now
below c =
    let bs = c.args.bounds.now in
    let each = filter-AreBodies bs (λ k. not (contains (bounds_at c.args.enlarged.now k) (bounds_at bs k))) c.args.left.now c.requires.left in
    omega (arith, c.from-i.ensures, each c.loop-number.number-index 0 c.loop-number-test.true)

pub bounds-bounds-i : goal.bounds-bounds-i
bounds-bounds-i c = below (goal.at.bounds-bounds-i c).After-from-i

pub bounds-bodies-i : goal.bounds-bodies-i
bounds-bodies-i c = omega (arith, below (goal.at.bounds-bodies-i c).After-from-i, c.requires.bodies)

pub bounds-enlarged-i : goal.bounds-enlarged-i
bounds-enlarged-i c = omega (arith, below (goal.at.bounds-enlarged-i c).After-from-i, c.requires.enlarged, c.loop-number.auto.enlarged)

pub returns-clause-enlarged : goal.returns-clause-enlarged
returns-clause-enlarged c =
    let bs = c.args.bounds.now in
    let old = c.args.enlarged.now in
    let left = c.args.left.now in
    let all = take_all c.loop-number.number-index left c.loop-number-test.false in
    record {
      as_many = omega (arith, c.requires.enlarged, c.loop-number.auto.enlarged);
      each = λ k below.
          ⊎_elim
          (λ listed. c.loop-number.invariant.each k below (ap (λ l. has_body l k) all ∙ listed))
          (λ other. ap (λ b. contains b (bounds_at bs k)) (c.loop-number.invariant.same k (ap (λ l. has_body l k) all ∙ other))
          ∙ left-contained old bs k below (ap (λ l. has_body l k) (sym c.requires.left) ∙ other))
          (cases_Bool (has_body left k));
    }
