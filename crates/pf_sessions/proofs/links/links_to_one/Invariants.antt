use Rattle.std.proofs.Common.{◌≡◌, length}
use Rattle.std.specs.List.{AllZip}
use Rattle.pf_sessions.specs.Links.{IsNewLink}
use Rattle.pf_sessions.proofs.links.links_to_one.Given as goal

abbrev pub invariant-loop : goal.invariant-loop
invariant-loop l = record {
  links : AllZip IsNewLink l.outputs.items l.inputs.items;
  count : length l.outputs.items ≡ l.counter;
}
