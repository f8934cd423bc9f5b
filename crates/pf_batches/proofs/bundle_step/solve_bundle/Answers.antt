use Rattle.std.proofs.Common.{◌∙◌, ◌+◌, ap₂, arith, subst, sym}
use Rattle.std.specs.Prelude.{All}
use Rattle.pf_bundles.specs.Seats.{unknowns_with_all, taken_seats}
use Rattle.pf_bundles.proofs.Seats.{stored_taken}
use Rattle.pf_batches.specs.Contact.{IsSeatWithin}
use Rattle.pf_batches.specs.declared.bundle_step.TheConstants.{GROWTH}
use Rattle.pf_batches.specs.Unknowns.{AreAllWithin}
use Rattle.pf_batches.proofs.AtOnce.{bundle_at_once}
use Rattle.pf_batches.proofs.Bundles.{all_within_more, rows_within, states_within}
use Rattle.pf_batches.proofs.bundle_step.solve_bundle.Goals as goal

pub returns-in-Some-clause-value : goal.returns-in-Some-clause-value
returns-in-Some-clause-value g c = λ done b level fit seats hold.
    c.store.ensures.value
    ∙ stored_taken c.seats.result.now c.states.result c.args.unknowns.now c.seats.ensures.first
    ∙ ap₂ (λ seats states. unknowns_with_all seats states c.args.unknowns.now) c.seats.ensures.seats c.states.ensures
    ∙ bundle_at_once g.L.ContactStep.step (g.met.L.LaneStep.static_arms) b c.args.unknowns.now fit level c.args.rows.now
    c.args.bundle.now.seats c.in-Some.after c.seats.ensures.fits
    seats hold c.in-Some.ensures.value

pub returns-in-Some-clause-within : goal.returns-in-Some-clause-within
returns-in-Some-clause-within g c = λ done.
    let limit = c.args.limit + GROWTH in
    let seats = c.seats.result.now in
    subst (AreAllWithin limit) (sym (c.store.ensures.value ∙ stored_taken seats c.states.result c.args.unknowns.now c.seats.ensures.first))
    (rows_within limit (taken_seats seats) c.states.result c.args.unknowns.now
    (all_within_more c.args.limit limit c.args.unknowns.now (omega arith) c.requires.within)
    (subst (λ states. All (IsSeatWithin limit) states) (sym c.states.ensures) (states_within limit c.in-Some.after c.in-Some.ensures.size)))
