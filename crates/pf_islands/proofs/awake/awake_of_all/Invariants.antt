use Rattle.std.proofs.Common.{◌≡◌, ◌≤◌, filter, length, vec_capacity, vec_len}
use Rattle.std.specs.List.{range_with_len}
use Rattle.pf_islands.specs.Rows.{is_awake_at}
use Rattle.pf_islands.proofs.awake.awake_of_all.Given as goal

abbrev pub invariant-loop-number : goal.invariant-loop-number
invariant-loop-number l = record {
  numbers : l.numbers.items ≡ filter (is_awake_at l.bodies) (range_with_len 0 l.number);
  few : vec_len l.numbers ≤ l.number;
  room : length l.bodies ≤ vec_capacity l.numbers;
}
