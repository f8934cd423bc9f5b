use Rattle.std.proofs.Common.{map}
use Rattle.std.specs.Map.Iter.{deref_pair}
use Rattle.pf_commands.specs.News.{IsNewsOf}
use Rattle.pf_commands.proofs.map.CommandMap.news.Given as goal

abbrev pub invariant-loop-name : goal.invariant-loop-name
invariant-loop-name l = IsNewsOf l.self (map deref_pair l.yielded) l.count l.least
