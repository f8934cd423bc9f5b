use Rattle.std.proofs.Common.{◌∙◌, arith}
use Rattle.pf_bundles.proofs.Seats.{has_seat, seat_kept}
use Rattle.pf_bundles.proofs.unknowns.store_lanes.Goals as goal

pub store_lane-requires-clause-seat : goal.store_lane-requires-clause-seat
store_lane-requires-clause-seat c = has_seat _ c.args.seats.now 0 _ (omega (arith, c.told-seats)) c.requires.first c.requires.seats

pub store_lane-requires-2-clause-seat : goal.store_lane-requires-2-clause-seat
store_lane-requires-2-clause-seat c =
    seat_kept c.args.velocities.now _ c.args.impulses.now _ _ c.store_lane.ensures.velocities c.store_lane.ensures.impulses
    (has_seat _ c.args.seats.now 1 _ (omega (arith, c.told-seats)) c.requires.first c.requires.seats)

pub store_lane-requires-3-clause-seat : goal.store_lane-requires-3-clause-seat
store_lane-requires-3-clause-seat c =
    seat_kept c.args.velocities.now _ c.args.impulses.now _ _ (c.store_lane-2.ensures.velocities ∙ c.store_lane.ensures.velocities)
    (c.store_lane-2.ensures.impulses ∙ c.store_lane.ensures.impulses)
    (has_seat _ c.args.seats.now 2 _ (omega (arith, c.told-seats)) c.requires.first c.requires.seats)

pub store_lane-requires-4-clause-seat : goal.store_lane-requires-4-clause-seat
store_lane-requires-4-clause-seat c =
    seat_kept c.args.velocities.now _ c.args.impulses.now _ _
    (c.store_lane-3.ensures.velocities ∙ c.store_lane-2.ensures.velocities ∙ c.store_lane.ensures.velocities)
    (c.store_lane-3.ensures.impulses ∙ c.store_lane-2.ensures.impulses ∙ c.store_lane.ensures.impulses)
    (has_seat _ c.args.seats.now 3 _ (omega (arith, c.told-seats)) c.requires.first c.requires.seats)
