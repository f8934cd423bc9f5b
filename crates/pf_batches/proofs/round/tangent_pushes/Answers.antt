use Rattle.std.proofs.Common.{◌≡◌, neg_ℤ, ◌≤◌, arith}
use Rattle.std.proofs.lemmas.Grind.{common_steps}
use Rattle.std.specs.Int.{int_max, int_min}
use Rattle.std.specs.Int.RustNames.{unsigned_abs}
use Rattle.pf_num.specs.Fx.{difference, product}
use Rattle.pf_rot.specs.Vector.{dot}
use Rattle.pf_lanes.specs.Lanes.{Lane, number_in}
use Rattle.pf_bundles.specs.Prepared.{constraint_in}
use Rattle.pf_solver.specs.Impulse.{relative_velocity}
use Rattle.pf_batches.specs.Contact.{state_in}
use Rattle.pf_batches.proofs.Additions.{IsFriction, is_friction}
use Rattle.pf_batches.proofs.round.tangent_pushes.Goals.{After-greatest}
use Rattle.pf_batches.proofs.round.tangent_pushes.Goals as goal

pub minus-least-requires : goal.minus-least-requires
minus-least-requires c = λ k.
    let size : unsigned_abs (number_in k c.times-limit.result) ≤ 536870912 = c.times-limit.ensures.size k in
    let old : unsigned_abs (number_in k c.args.state.now.tangent) ≤ 1125900980584448 = grind (arith, common_steps, c.requires.unknowns k) in
    grind (arith, common_steps, c.negated.ensures k, size, old)

-- what is added in each lane
pushed : (c : After-greatest) → (k : Lane)
    → IsFriction (constraint_in k c.args.prepared.now.constraint) (state_in k c.args.prepared.now c.args.state.now)
    (number_in k c.greatest.result)
pushed c k =
    let p = c.args.prepared.now in
    let own = constraint_in k p.constraint in
    let m = state_in k p c.args.state.now in
    let limit : number_in k c.times-limit.result ≡ product own.friction m.impulses.normal = grind (arith, common_steps, c.times-limit.ensures.value k) in
    let size : unsigned_abs (number_in k c.times-limit.result) ≤ 536870912 = c.times-limit.ensures.size k in
    let old : unsigned_abs m.impulses.tangent ≤ 1125900980584448 = grind (arith, common_steps, c.requires.unknowns k) in
    let change : number_in k c.negated-change.result ≡ neg_ℤ (product own.tangent_mass (dot (relative_velocity own m) own.tangent)) =
    grind (arith, common_steps, c.negated-change.ensures k, c.times.ensures.value k, c.speed_along-speed.ensures.value k, c.relative_velocity-velocity.ensures k) in
    let small : unsigned_abs (number_in k c.negated-change.result) ≤ 536870912 = grind (arith, common_steps, c.negated-change.ensures k, c.times.ensures.size k) in
    let added : number_in k c.greatest.result ≡ int_max (difference (neg_ℤ (number_in k c.times-limit.result)) m.impulses.tangent) (int_min (difference (number_in k c.times-limit.result) m.impulses.tangent) (number_in k c.negated-change.result)) =
    grind (arith, common_steps, c.greatest.ensures k, c.least.ensures k, c.minus-least.ensures.value k, c.minus-room.ensures.value k, c.negated.ensures k) in
    is_friction own m (number_in k c.greatest.result) (number_in k c.times-limit.result) (number_in k c.negated-change.result)
    limit change added old size small

pub returns-clause-added : goal.returns-clause-added
returns-clause-added c = λ k. (pushed (goal.at.returns-clause-added c).After-greatest k).value

pub returns-clause-total : goal.returns-clause-total
returns-clause-total c = λ k. (pushed (goal.at.returns-clause-total c).After-greatest k).total

pub returns-clause-size : goal.returns-clause-size
returns-clause-size c = λ k. (pushed (goal.at.returns-clause-size c).After-greatest k).size
