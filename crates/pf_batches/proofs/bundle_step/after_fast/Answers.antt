use Rattle.std.proofs.Common.{◌∙◌, ap, sym}
use Rattle.pf_bundles.specs.Bundle.{lane_number}
use Rattle.pf_bundles.specs.Seats.{seat_state_or, taken_seats}
use Rattle.pf_bundles.proofs.Seats.{taken_at}
use Rattle.pf_batches.proofs.Bundles.{all_grown_within}
use Rattle.pf_batches.proofs.bundle_step.after_fast.Goals as goal

pub returns-clause-size : goal.returns-clause-size
returns-clause-size g c =
    let seats = c.args.seats.now in
    let n = c.args.unknowns.now in
    all_grown_within _ _ c.args.prepared.now n (taken_seats seats) _ _ c.requires.within
    (λ k. c.read-state.ensures k ∙ ap (seat_state_or n) (sym (taken_at seats (lane_number k) c.requires.first))) c.after_lanes.ensures.size
