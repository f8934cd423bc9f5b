use Rattle.std.proofs.Common.{◌≡◌, ◌≤◌, vec_len, vec_capacity}
use Rattle.std.specs.List.{range_with_len}
use Rattle.pf_islands.proofs.forest.singles.Given as goal

abbrev pub invariant-loop-body : goal.invariant-loop-body
invariant-loop-body l = record {
  made : l.parents.items ≡ range_with_len 0 l.body;
  count : vec_len l.parents ≡ l.body;
  room : l.len ≤ vec_capacity l.parents;
}
