use Rattle.std.proofs.Common.{◌<◌, arith, length}
use Rattle.pf_bundles.proofs.Seats.{has_seat, taken_each}
use Rattle.pf_batches.proofs.bundle_step.after_exact.Goals as goal

pub exact_lane-requires-clause-seat : goal.exact_lane-requires-clause-seat
exact_lane-requires-clause-seat g c = has_seat _ c.args.seats.now 0 _ (omega (arith, c.told-seats)) c.requires.first c.requires.seats

pub exact_lane-requires-clause-row : goal.exact_lane-requires-clause-row
exact_lane-requires-clause-row g c =
    taken_each (λ own. own.place < length c.args.rows.now) _ c.args.seats.now 0 (omega (arith, c.told-seats)) c.requires.first c.requires.rows

pub exact_lane-requires-2-clause-seat : goal.exact_lane-requires-2-clause-seat
exact_lane-requires-2-clause-seat g c = has_seat _ c.args.seats.now 1 _ (omega (arith, c.told-seats)) c.requires.first c.requires.seats

pub exact_lane-requires-2-clause-row : goal.exact_lane-requires-2-clause-row
exact_lane-requires-2-clause-row g c =
    taken_each (λ own. own.place < length c.args.rows.now) _ c.args.seats.now 1 (omega (arith, c.told-seats)) c.requires.first c.requires.rows

pub exact_lane-requires-3-clause-seat : goal.exact_lane-requires-3-clause-seat
exact_lane-requires-3-clause-seat g c = has_seat _ c.args.seats.now 2 _ (omega (arith, c.told-seats)) c.requires.first c.requires.seats

pub exact_lane-requires-3-clause-row : goal.exact_lane-requires-3-clause-row
exact_lane-requires-3-clause-row g c =
    taken_each (λ own. own.place < length c.args.rows.now) _ c.args.seats.now 2 (omega (arith, c.told-seats)) c.requires.first c.requires.rows

pub exact_lane-requires-4-clause-seat : goal.exact_lane-requires-4-clause-seat
exact_lane-requires-4-clause-seat g c = has_seat _ c.args.seats.now 3 _ (omega (arith, c.told-seats)) c.requires.first c.requires.seats

pub exact_lane-requires-4-clause-row : goal.exact_lane-requires-4-clause-row
exact_lane-requires-4-clause-row g c =
    taken_each (λ own. own.place < length c.args.rows.now) _ c.args.seats.now 3 (omega (arith, c.told-seats)) c.requires.first c.requires.rows
