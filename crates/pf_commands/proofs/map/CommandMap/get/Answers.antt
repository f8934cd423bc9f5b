use Rattle.std.proofs.Common.{ap, ◌∙◌}
use Rattle.std.specs.FinMap as map
use Rattle.pf_commands.proofs.Stored.{lookup-get}
use Rattle.pf_commands.proofs.map.CommandMap.get.Goals as goal

pub returns : goal.returns
returns c =
    c.copied.ensures ∙ c.get.ensures.value ∙ lookup-get c.args.name c.self.inside.commands.entries
    ∙ ap (λ m. map.get m c.args.name) c.self.view_is
