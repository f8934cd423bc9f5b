use Rattle.std.proofs.Common.{◌∙◌, [], ◌∷◌}
use Rattle.pf_bundles.specs.Seats.{taken_seats}
use Rattle.pf_bundles.proofs.Seats.{rows_of_level, seats_of_level}
use Rattle.pf_bundles.proofs.bundle.Bundle.of.Goals as goal

pub returns : goal.returns
returns c = record {
  seats = (λ i. taken_seats (c.seat_of.ensures i ∷ c.seat_of-2.ensures i ∷ c.seat_of-3.ensures i ∷ c.seat_of-4.ensures i ∷ []))
      ∙ seats_of_level c.args.pairs.now c.args.places.now c.requires.fits;
  lanes = λ k. c.of.ensures k ∙ rows_of_level c.args.rows.now c.args.places.now _ _ _ _ c.lane_row.ensures c.lane_row-2.ensures c.lane_row-3.ensures c.lane_row-4.ensures k;
}
