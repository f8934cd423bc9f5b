use Rattle.std.proofs.Common.{◌≡◌, map}
use Rattle.std.specs.Map.Iter.{deref_pair}
use Rattle.pf_commands.proofs.Changes.{put_entries}
use Rattle.pf_commands.proofs.map.CommandMap.put_all.Given as goal

abbrev pub invariant-loop-name : goal.invariant-loop-name
invariant-loop-name l = l.self ≡ put_entries l.initial.self (map deref_pair l.yielded)
