use Rattle.std.proofs.Common.{arith}
use Rattle.pf_bundles.proofs.Seats.{has_seat}
use Rattle.pf_batches.proofs.bundle_step.read.Goals as goal

pub first_of-requires : goal.first_of-requires
first_of-requires c = has_seat _ c.args.seats.now 0 _ (omega (arith, c.told-seats)) c.requires.first c.requires.seats

pub first_of-requires-2 : goal.first_of-requires-2
first_of-requires-2 c = has_seat _ c.args.seats.now 1 _ (omega (arith, c.told-seats)) c.requires.first c.requires.seats

pub first_of-requires-3 : goal.first_of-requires-3
first_of-requires-3 c = has_seat _ c.args.seats.now 2 _ (omega (arith, c.told-seats)) c.requires.first c.requires.seats

pub first_of-requires-4 : goal.first_of-requires-4
first_of-requires-4 c = has_seat _ c.args.seats.now 3 _ (omega (arith, c.told-seats)) c.requires.first c.requires.seats

pub second_of-requires : goal.second_of-requires
second_of-requires c = has_seat _ c.args.seats.now 0 _ (omega (arith, c.told-seats)) c.requires.first c.requires.seats

pub second_of-requires-2 : goal.second_of-requires-2
second_of-requires-2 c = has_seat _ c.args.seats.now 1 _ (omega (arith, c.told-seats)) c.requires.first c.requires.seats

pub second_of-requires-3 : goal.second_of-requires-3
second_of-requires-3 c = has_seat _ c.args.seats.now 2 _ (omega (arith, c.told-seats)) c.requires.first c.requires.seats

pub second_of-requires-4 : goal.second_of-requires-4
second_of-requires-4 c = has_seat _ c.args.seats.now 3 _ (omega (arith, c.told-seats)) c.requires.first c.requires.seats

pub impulses_of-requires : goal.impulses_of-requires
impulses_of-requires c = has_seat _ c.args.seats.now 0 _ (omega (arith, c.told-seats)) c.requires.first c.requires.seats

pub impulses_of-requires-2 : goal.impulses_of-requires-2
impulses_of-requires-2 c = has_seat _ c.args.seats.now 1 _ (omega (arith, c.told-seats)) c.requires.first c.requires.seats

pub impulses_of-requires-3 : goal.impulses_of-requires-3
impulses_of-requires-3 c = has_seat _ c.args.seats.now 2 _ (omega (arith, c.told-seats)) c.requires.first c.requires.seats

pub impulses_of-requires-4 : goal.impulses_of-requires-4
impulses_of-requires-4 c = has_seat _ c.args.seats.now 3 _ (omega (arith, c.told-seats)) c.requires.first c.requires.seats
