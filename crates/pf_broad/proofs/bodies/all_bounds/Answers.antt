use Rattle.std.proofs.Common.{◌≡◌, ◌++◌, ◌∷◌, [], All, List, append-nil, sym, subst, ap, ◌∙◌, arith}
use Rattle.std.specs.Slice.Iter.{iter_rest}
use Rattle.std.specs.Iterator.Adapters.{zip_first, zip_second}
use Rattle.std.proofs.lemmas.Slice.Zip.{either_empty_from_Zip}
use Rattle.std.proofs.lemmas.List.Elements.{All-nil, All-push}
use Rattle.pf_shapes.specs.Bounds.{Bounds, IsOrdered}
use Rattle.pf_broad.specs.Pairs.{all_bounds}
use Rattle.pf_broad.proofs.Zipped.{bounds_of_none, fewer_left, first_bounds, length-all_bounds_le, next_bounds}
use Rattle.pf_broad.proofs.bodies.all_bounds.Goals as goal

-- where a list has ended, what is done is all
all_done : (c : goal.In-None) → c.loop-fixture.all.items ≡ all_bounds c.args.scene.now.fixtures c.args.bodies.now
all_done c =
    let ended = either_empty_from_Zip c.loop-fixture.fixture-iterator c.next.new.self c.next.result c.in-None.is c.next.ensures.steps in
    let done = c.loop-fixture.all.items in
    sym (append-nil done) ∙ ap (λ (rest : List Bounds). done ++ rest) (sym (bounds_of_none _ _ ended)) ∙ c.loop-fixture.invariant.value

pub returns-clause-value : goal.returns-clause-value
returns-clause-value c = all_done c

pub returns-clause-few : goal.returns-clause-few
returns-clause-few c =
    let few = length-all_bounds_le c.args.scene.now.fixtures c.args.bodies.now in
    rw (all_done c) (omega (arith, few, c.fixtures.ensures.scene.few))

pub loop-fixture-init : goal.loop-fixture-init
loop-fixture-init c =
    let made = c.into_iter-fixture-iterator.ensures.into_iter_gives in
    let ends = c.zip-fixture-items.ensures in
    let empty = c.in_ok-all.ensures.items in
    let bodies : iter_rest (zip_second c.zip-fixture-items.result) ≡ c.args.bodies.now = ends.second.0 in
    record {
      value = first_bounds _ _ _ _ _ empty ((λ k. iter_rest (zip_first (made k))) ∙ (λ k. iter_rest (ends.first k)) ∙ c.iter.ensures.rest ∙ c.fixtures.ensures.value)
          ((λ k. iter_rest (zip_second (made k))) ∙ bodies);
      ordered = rw empty (All-nil IsOrdered);
    }

pub loop-fixture-preserved : goal.loop-fixture-preserved
loop-fixture-preserved c =
    let done = c.loop-fixture.all.items in
    let next = c.bounds.result in
    let steps = c.in-Some.ensures.steps in
    let pushed : c.push.new.self.items ≡ done ++ next ∷ [] = c.in_ok-push.ensures.items in
    record {
      value = next_bounds _ done c.push.new.self.items _ _ _ _ c.in-Some.fixture.now c.in-Some.body.now next c.loop-fixture.invariant.value
          steps.0 steps.1 c.bounds.ensures.value pushed;
      ordered = subst (All IsOrdered) (sym pushed) (All-push IsOrdered done next c.loop-fixture.invariant.ordered c.bounds.ensures.ordered);
    }

pub loop-fixture-smaller : goal.loop-fixture-smaller
loop-fixture-smaller c =
    let steps = c.in-Some.ensures.steps in
    fewer_left _ _ _ _ c.in-Some.fixture.now c.in-Some.body.now steps.0 steps.1

pub returns-clause-ordered : goal.returns-clause-ordered
returns-clause-ordered c = c.loop-fixture.invariant.ordered
