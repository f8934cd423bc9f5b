use Rattle.std.proofs.Common.{◌≡◌, drop, take}
use Rattle.std.specs.List.{AllZip, range_with_len}
use Rattle.pf_sessions.specs.Links.{inputs_of, outputs_of, table_rows}
use Rattle.pf_sessions.specs.Playing.{IsNewPeer}
use Rattle.pf_sessions.proofs.links.linked_peers.Given as goal

abbrev pub invariant-loop-player : goal.invariant-loop-player
invariant-loop-player l = record {
  outputs_left : drop l.player l.initial.outputs.items ≡ l.outputs.items;
  inputs_left : drop l.player l.initial.inputs.items ≡ l.inputs.items;
  each : AllZip (IsNewPeer l.scene) (range_with_len 0 l.player) l.peers.items;
  outputs : outputs_of l.peers.items ≡ table_rows (take l.player l.initial.outputs.items);
  inputs : inputs_of l.peers.items ≡ table_rows (take l.player l.initial.inputs.items);
}
