use Rattle.std.proofs.Common.{ap, sym, ◌∙◌, subst, length}
use Rattle.std.specs.FinMap as map
use Rattle.pf_commands.specs.Merge.{IsCommandMap}
use Rattle.pf_commands.proofs.Stored.{entries-from_entries}
use Rattle.pf_commands.proofs.map.CommandMap.len.Goals as goal

pub returns-clause-value : goal.returns-clause-value
returns-clause-value c =
    c.len.ensures.len ∙ ap length (sym (entries-from_entries c.self.inside.commands.entries c.len.ensures.ordered))
    ∙ sym (map.len-entries (map.from_entries c.self.inside.commands.entries)) ∙ ap map.len c.self.view_is

pub returns-clause-range : goal.returns-clause-range
returns-clause-range c = subst IsCommandMap c.self.view_is c.self.invariant
