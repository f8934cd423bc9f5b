use Rattle.std.proofs.Common.{◌≡◌, ◌+◌, ◌++◌, ◌≤◌, length, map, All}
use Rattle.std.specs.Prelude.{drop, take, vec_capacity, vec_len}
use Rattle.pf_cache.specs.Contact.{contact_of_key}
use Rattle.pf_cache.proofs.Walk.{SameFrom}
use Rattle.pf_cache.proofs.next_contacts.add_next.Given as goal

abbrev pub invariant-loop-key : goal.invariant-loop-key
invariant-loop-key l = record {
  within : l.place ≤ length l.old;
  made : l.list.items ≡ l.initial.list.items ++ map (contact_of_key l.old) (take l.key-index l.keys);
  len : vec_len l.list ≡ vec_len l.initial.list + l.key-index;
  room : vec_capacity l.initial.list ≤ vec_capacity l.list;
  same : All (SameFrom l.old l.place) (drop l.key-index l.keys);
}
