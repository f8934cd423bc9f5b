use Rattle.std.proofs.Common.{◌≡◌, ◌≤◌, get_or, length}
use Rattle.pf_islands.specs.Lone.{only_awake}
use Rattle.pf_islands.proofs.AwakeNumbers.{AreEmptied}
use Rattle.pf_islands.proofs.dealing.empty_islands.Given as goal

abbrev pub invariant-loop-number : goal.invariant-loop-number
invariant-loop-number l = record {
  emptied : AreEmptied l.labels (only_awake l.numbers l.bodies) l.islands.items l.count l.island_places.items
      (get_or l.numbers l.number-index (length (only_awake l.numbers l.bodies)));
  within : l.count ≤ length l.islands.items;
  long : length l.island_places.items ≡ length l.labels;
}
