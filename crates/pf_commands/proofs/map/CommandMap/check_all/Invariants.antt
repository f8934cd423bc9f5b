use Rattle.std.proofs.Common.{◌≡◌, map, Ok}
use Rattle.std.specs.Map.Iter.{deref_pair}
use Rattle.pf_commands.specs.Check.{check_all}
use Rattle.pf_commands.proofs.map.CommandMap.check_all.Given as goal

abbrev pub invariant-loop-name : goal.invariant-loop-name
invariant-loop-name l = check_all l.scene (map deref_pair l.yielded) ≡ Ok tt
