use Rattle.std.proofs.Common.{◌≡◌, map}
use Rattle.std.specs.Map.Iter.{deref_pair}
use Rattle.pf_commands.proofs.map.CommandMap.at_tick.Given as goal

abbrev pub invariant-loop-payload : goal.invariant-loop-payload
invariant-loop-payload l = l.payloads.items ≡ map (λ e. e.1) (map deref_pair l.yielded)
