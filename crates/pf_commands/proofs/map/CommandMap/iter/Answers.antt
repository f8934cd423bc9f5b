use Rattle.std.proofs.Common.{ap, sym, ◌∙◌, subst}
use Rattle.std.specs.FinMap as map
use Rattle.pf_commands.specs.Merge.{IsCommandMap}
use Rattle.pf_commands.proofs.Stored.{entries-from_entries}
use Rattle.pf_commands.proofs.map.CommandMap.iter.Goals as goal

pub returns-clause-entries : goal.returns-clause-entries
returns-clause-entries c =
    c.iter.ensures.rest ∙ sym (entries-from_entries c.self.inside.commands.entries c.iter.ensures.ordered) ∙ ap map.entries c.self.view_is

pub returns-clause-range : goal.returns-clause-range
returns-clause-range c = subst IsCommandMap c.self.view_is c.self.invariant
