use Rattle.std.proofs.Common.{◌≡◌, get_or, length}
use Rattle.pf_islands.specs.Lone.{only_awake}
use Rattle.pf_islands.proofs.AwakeNumbers.{AreDealt}
use Rattle.pf_islands.proofs.dealing.deal_bodies.Given as goal

abbrev pub invariant-loop-number : goal.invariant-loop-number
invariant-loop-number l = record {
  dealt : AreDealt l.labels (only_awake l.numbers l.bodies) l.islands l.places (get_or l.numbers l.number-index (length (only_awake l.numbers l.bodies)));
  long : length l.places ≡ length l.labels;
}
