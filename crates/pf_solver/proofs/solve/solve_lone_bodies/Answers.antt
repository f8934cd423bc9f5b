use Rattle.std.proofs.Common.{◌∙◌, ap, arith, get_or, length, sym, take}
use Rattle.std.proofs.lemmas.List.{get_or_read}
use Rattle.pf_shapes.specs.Body.{no_state}
use Rattle.pf_solver.specs.Alone.{lone_body_after_tick}
use Rattle.pf_solver.proofs.OneByOne.{lone_bodies_long, no_lone_bodies, one_more}
use Rattle.pf_solver.proofs.solve.solve_lone_bodies.Goals as goal

pub loop-number-init : goal.loop-number-init
loop-number-init c = no_lone_bodies c.scale-pull.result c.args.bodies.now

pub loop-number-preserved : goal.loop-number-preserved
loop-number-preserved c =
    let pull = c.scale-pull.result in
    let numbers = c.args.numbers.now in
    let k = c.loop-number.number-index in
    let n = get_or numbers k 0 in
    let within = c.requires.numbers k 0 c.loop-number-test.true in
    one_more pull c.args.bodies.now numbers k c.loop-number.bodies c.solve_lone_body.new.body c.loop-number-test.true within
    c.requires.order c.loop-number.invariant
    (c.solve_lone_body.ensures
    ∙ ap (lone_body_after_tick pull)
    (sym c.index-bodies-number.is
    ∙ get_or_read c.loop-number.bodies n c.index-bodies-number.result
    (omega (arith, within, ap length c.loop-number.invariant, lone_bodies_long pull c.args.bodies.now (take k numbers)))
    c.index-bodies-number.is no_state))
