use Rattle.std.proofs.Common.{◌≡◌, ◌≤◌, not, filter, get_or, length, take, vec_capacity, vec_len}
use Rattle.pf_islands.specs.Lone.{is_dealt}
use Rattle.pf_islands.proofs.splitting.parted_numbers.Given as goal

abbrev pub invariant-loop-number : goal.invariant-loop-number
invariant-loop-number l = record {
  dealt : l.dealt.items ≡ filter (λ n. is_dealt l.lone (get_or l.row_counts (get_or l.labels n 0) 0)) (take l.number-index l.numbers);
  lone_numbers : l.lone_numbers.items ≡ filter (λ n. not (is_dealt l.lone (get_or l.row_counts (get_or l.labels n 0) 0))) (take l.number-index l.numbers);
  few_dealt : vec_len l.dealt ≤ l.number-index;
  few_lone : vec_len l.lone_numbers ≤ l.number-index;
  room_dealt : length l.numbers ≤ vec_capacity l.dealt;
  room_lone : length l.numbers ≤ vec_capacity l.lone_numbers;
}
