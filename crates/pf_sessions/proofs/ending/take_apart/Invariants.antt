use Rattle.std.proofs.Common.{◌≡◌, drop, map, take}
use Rattle.pf_sessions.specs.Ending.{receiver_of}
use Rattle.pf_sessions.specs.Links.{outputs_of, table_rows}
use Rattle.pf_sessions.proofs.ending.take_apart.Given as goal

abbrev pub invariant-loop : goal.invariant-loop
invariant-loop l = record {
  left : drop l.counter l.initial.peers.items ≡ l.peers.items;
  receivers : l.receivers.items ≡ map receiver_of (take l.counter l.initial.peers.items);
  outputs : table_rows l.outputs.items ≡ outputs_of (take l.counter l.initial.peers.items);
}
