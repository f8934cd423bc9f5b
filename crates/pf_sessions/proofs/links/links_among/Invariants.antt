use Rattle.std.proofs.Common.{◌≡◌, ◌+◌, length}
use Rattle.std.specs.List.{AllZip}
use Rattle.std.specs.Prelude.{All}
use Rattle.pf_sessions.specs.Links.{IsNewLink, table_rows}
use Rattle.pf_sessions.proofs.links.links_among.Given as goal

abbrev pub invariant-loop : goal.invariant-loop
invariant-loop l = record {
  links : AllZip (AllZip IsNewLink) (table_rows l.senders.items) (table_rows l.inputs.items);
  count : length l.senders.items ≡ l.counter;
  wide : All (λ row. length row + 1 ≡ l.peers) (table_rows l.senders.items);
}
