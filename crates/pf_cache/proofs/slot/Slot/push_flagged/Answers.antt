use Rattle.std.proofs.Common.{◌<◌, All, ap, arith, length, subst, sym}
use Rattle.pf_shapes.specs.Pair.{Pair}
use Rattle.pf_manifold.specs.Touches.{IsTouchOf}
use Rattle.pf_cache.specs.Slots.{slot_touches}
use Rattle.pf_cache.proofs.PlacedPoints.{has_bodies}
use Rattle.pf_cache.proofs.slot.Slot.push_flagged.Goals as goal

pub bounds-flags-pair-inside : goal.bounds-flags-pair-inside
bounds-flags-pair-inside c =
    let all = subst (λ s. All (IsTouchOf (length c.args.flags.now)) (slot_touches s)) (sym c.self.view_is) c.requires.flags in
    let long = ap (λ s. length (slot_touches s)) c.self.view_is in
    let some : 0 < length (slot_touches c.args.self.now) = omega (arith, c.if-count-eq0.false, c.count.ensures) in
    let of = has_bodies (length c.args.flags.now) c.self.inside.pair c.self.inside.points all (omega (arith, some, long)) in
    let first = ap (λ (p : Pair). p.a) c.pair.view_is in
    omega (arith, of.0, of.1, first)

pub bounds-flags-pair-inside-else-count-eq0 : goal.bounds-flags-pair-inside-else-count-eq0
bounds-flags-pair-inside-else-count-eq0 c =
    let all = subst (λ s. All (IsTouchOf (length c.args.flags.now)) (slot_touches s)) (sym c.self.view_is) c.requires.flags in
    let long = ap (λ s. length (slot_touches s)) c.self.view_is in
    let some : 0 < length (slot_touches c.args.self.now) = omega (arith, c.if-count-eq0.false, c.count.ensures) in
    let of = has_bodies (length c.args.flags.now) c.self.inside.pair c.self.inside.points all (omega (arith, some, long)) in
    let second = ap (λ (p : Pair). p.b) c.pair.view_is in
    omega (arith, of.1, second)
