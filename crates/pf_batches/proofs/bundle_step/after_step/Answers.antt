use Rattle.std.proofs.Common.{◌∙◌, ap, sym}
use Rattle.std.specs.Prelude.{slice_get}
use Rattle.pf_bundles.specs.Bundle.{lane_number}
use Rattle.pf_bundles.specs.LaneRow.{lane_row_in}
use Rattle.pf_bundles.specs.Seats.{seat_state_at}
use Rattle.pf_bundles.proofs.Seats.{taken_at}
use Rattle.pf_batches.specs.Unknowns.{lane_result}
use Rattle.pf_batches.proofs.bundle_step.after_step.Goals as goal
use Rattle.pf_cache.proofs.Filling.{if_some}

pub returns-in-Some-clause-value : goal.returns-in-Some-clause-value
returns-in-Some-clause-value g c = λ k seat at.
    let s = seat_state_at c.args.unknowns.now seat in
    let own = c.seats-seats.ensures in
    c.in-Some.ensures.value k seat (sym (taken_at c.seats-seats.result.now (lane_number k) own.first) ∙ ap (λ seats. slice_get seats (lane_number k)) own.seats ∙ at)
    ∙ ap (λ p. lane_result g.L.ContactStep.step (lane_row_in k p) s) c.prepared.ensures
    ∙ ap (λ l. lane_result g.L.ContactStep.step l s) (c.requires.held k seat at)

pub returns-in-None-clause-value : goal.returns-in-None-clause-value
returns-in-None-clause-value g c =
    let own = c.seats-seats.ensures in
    if_some c.after_exact.result
    (λ after h k seat at. h k seat (sym (taken_at c.seats-seats.result.now (lane_number k) own.first) ∙ ap (λ seats. slice_get seats (lane_number k)) own.seats ∙ at))
    c.after_exact.ensures.value
