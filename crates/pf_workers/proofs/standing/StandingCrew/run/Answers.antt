use Rattle.std.proofs.Common.{◌≡◌, ◌∙◌, ap, map, subst, sym}
use Rattle.std.specs.Prelude.{All, IsSome}
use Rattle.pf_pool.specs.Pool.{AreDone}
use Rattle.pf_workers.specs.Work.{AreIslandsDone, IsDone}
use Rattle.pf_workers.proofs.Answered.{all_asked, all_solved, all_solving, on_ok_then, part}
use Rattle.pf_workers.proofs.standing.StandingCrew.run.Goals as goal

pub run-requires-clause-all : goal.run-requires-clause-all
run-requires-clause-all g c κs within =
    let stacks = c.args.stacks.now in
    let asked : c.hand_out.new.parts.items ≡ map (part c.args.scene.now) stacks =
    c.in_ok-hand_out.ensures.parts ∙ ap (λ t. map (part t) stacks) c.in_ok-shared.ensures in
    subst (All IsSome) (sym asked) (all_asked c.args.scene.now stacks)

pub take_in-requires-clause-done : goal.take_in-requires-clause-done
take_in-requires-clause-done g c =
    let stacks = c.args.stacks.now in
    let always = g.G.Gate.ALWAYS in
    let asked : c.hand_out.new.parts.items ≡ map (part c.args.scene.now) stacks =
    c.in_ok-hand_out.ensures.parts ∙ ap (λ t. map (part t) stacks) c.in_ok-shared.ensures in
    let done = subst (λ l. AreDone (IsDone always) l c.run.new.parts.items) asked c.in-Ok.ensures.done in
    subst (All (AreIslandsDone always)) (sym c.deref_mut.ensures.value)
    (all_solving always c.args.scene.now stacks c.run.new.parts.items done)

pub returns-in-Ok-clause-solved : goal.returns-in-Ok-clause-solved
returns-in-Ok-clause-solved g c =
    let stacks = c.args.stacks.now in
    let always = g.G.Gate.ALWAYS in
    let asked : c.hand_out.new.parts.items ≡ map (part c.args.scene.now) stacks =
    c.in_ok-hand_out.ensures.parts ∙ ap (λ t. map (part t) stacks) c.in_ok-shared.ensures in
    let done = subst (λ l. AreDone (IsDone always) l c.run.new.parts.items) asked c.in-Ok.ensures.done in
    on_ok_then c.take_in.result c.take_in.ensures.stacks
    (λ solved. all_solved always c.args.scene.now stacks c.run.new.parts.items done c.take_in.new.stacks
    (solved ∙ c.deref_mut.ensures.value))
