use Rattle.std.proofs.Common.{◌≡◌, drop, map, take}
use Rattle.std.specs.Prelude.{All}
use Rattle.pf_sessions.specs.Ending.{ShowsLast, receiver_of}
use Rattle.pf_sessions.specs.Links.{outputs_of, table_rows}
use Rattle.pf_sessions.proofs.ending.show_all.Given as goal

abbrev pub invariant-loop : goal.invariant-loop
invariant-loop l = record {
  receivers_left : drop l.counter l.initial.receivers.items ≡ l.receivers.items;
  outputs_left : drop l.counter l.initial.outputs.items ≡ l.outputs.items;
  receivers : map (λ e. receiver_of e.0) l.ended.items ≡ take l.counter l.initial.receivers.items;
  outputs : outputs_of (map (λ e. e.0) l.ended.items) ≡ table_rows (take l.counter l.initial.outputs.items);
  shown : All ShowsLast l.ended.items;
}
