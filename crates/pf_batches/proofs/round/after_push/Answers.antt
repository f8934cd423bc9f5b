use Rattle.std.proofs.Common.{rules, pos, ◌≤ℤ◌, subst, arith}
use Rattle.std.proofs.lemmas.Int.{ints}
use Rattle.std.specs.Int.RustNames.{unsigned_abs}
use Rattle.pf_lanes.specs.Lanes.{number_in}
use Rattle.pf_bundles.specs.Prepared.{constraint_in, vector_in}
use Rattle.pf_batches.specs.Contact.{state_in}
use Rattle.pf_batches.proofs.Pushes.{pushes_are_exact, short_push, still_ready}
use Rattle.pf_batches.proofs.round.after_push.Goals as goal

pub after_impulse-requires-clause-exact : goal.after_impulse-requires-clause-exact
after_impulse-requires-clause-exact c = λ k.
    let p = c.args.prepared.now in
    let within : pos (unsigned_abs (number_in k c.twice.result)) ≤ℤ number_in k p.push_limit =
    subst (λ l. pos (unsigned_abs (number_in k c.twice.result)) ≤ℤ number_in k l) c.push_limit.ensures.value
    (c.are_within_each.ensures.0 (grind (arith, rules, c.if-not-are_within_each.false)) k) in
    pushes_are_exact (constraint_in k p.constraint) (state_in k p c.args.state.now) (vector_in k c.impulse_along-impulse.result)
    (unsigned_abs (number_in k p.spin_limit)) (unsigned_abs (number_in k p.push_limit)) (c.push_limit.ensures.limits k).limits
    (short_push (number_in k c.twice.result) (number_in k p.push_limit) (unsigned_abs (number_in k c.args.added)) (vector_in k c.impulse_along-impulse.result)
    (c.twice.ensures k) within (c.impulse_along-impulse.ensures.size k))

pub returns-clause-ready : goal.returns-clause-ready
returns-clause-ready c = λ k spins.
    let p = c.args.prepared.now in
    let within : pos (unsigned_abs (number_in k c.twice.result)) ≤ℤ number_in k p.push_limit =
    subst (λ l. pos (unsigned_abs (number_in k c.twice.result)) ≤ℤ number_in k l) c.push_limit.ensures.value
    (c.are_within_each.ensures.0 (grind (arith, rules, c.if-not-are_within_each.false)) k) in
    still_ready (constraint_in k p.constraint) (state_in k p c.args.state.now) (state_in k p c.after_impulse.result) (vector_in k c.impulse_along-impulse.result)
    (unsigned_abs (number_in k p.spin_limit)) (unsigned_abs (number_in k p.push_limit)) (c.push_limit.ensures.limits k).limits
    (short_push (number_in k c.twice.result) (number_in k p.push_limit) (unsigned_abs (number_in k c.args.added)) (vector_in k c.impulse_along-impulse.result)
    (c.twice.ensures k) within (c.impulse_along-impulse.ensures.size k))
    (c.after_impulse.ensures.value k) spins

pub returns-then-not-are_within_each-clause-ready : goal.returns-then-not-are_within_each-clause-ready
returns-then-not-are_within_each-clause-ready c = λ k spins. c.in_ok-after.ensures.ready k

pub impulse_along-impulse-requires-clause-impulse : goal.impulse_along-impulse-requires-clause-impulse
impulse_along-impulse-requires-clause-impulse c = λ k.
    let p = c.args.prepared.now in
    let within : pos (unsigned_abs (number_in k c.twice.result)) ≤ℤ number_in k p.push_limit =
    subst (λ l. pos (unsigned_abs (number_in k c.twice.result)) ≤ℤ number_in k l) c.push_limit.ensures.value
    (c.are_within_each.ensures.0 (grind (arith, rules, c.if-not-are_within_each.false)) k) in
    omega (arith, ints, c.twice.ensures k, within, (c.push_limit.ensures.limits k).limits.pushes.limit)
