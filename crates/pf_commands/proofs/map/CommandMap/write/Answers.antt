use Rattle.std.proofs.Common.{ap, sym, ◌∙◌, subst}
use Rattle.std.specs.Prelude.{IsSome}
use Rattle.std.specs.FinMap as map
use Rattle.pf_commands.specs.Merge.{IsCommandMap}
use Rattle.pf_commands.proofs.Ranges.{AreCommands-insert}
use Rattle.pf_commands.proofs.Stored.{inserted, lookup-get}
use Rattle.pf_commands.proofs.map.CommandMap.write.Goals as goal

pub invariant_of-self : goal.invariant_of-self
invariant_of-self c = rw c.in_err-insert.ensures.err c.self.invariant

pub returns-in_err-insert-clause-held : goal.returns-in_err-insert-clause-held
returns-in_err-insert-clause-held c some =
    let n = c.args.command.now.name in
    let absent = ap (λ m. map.get m n) (sym c.self.view_is) ∙ sym (lookup-get n c.self.inside.commands.entries) ∙ c.in_err-insert.ensures.absent in
    let is = subst IsSome absent some in cc

pub invariant_of-self-2 : goal.invariant_of-self-2
invariant_of-self-2 c =
    subst IsCommandMap (sym (inserted c.self.inside.commands.entries _ c.args.command.now.name c.args.command.now.payload c.in_ok-insert.ensures.updates.0))
    (AreCommands-insert _ c.args.command.now.name c.args.command.now.payload c.self.invariant c.read_ranges.ensures.name c.read_ranges.ensures.payload)

pub returns-clause-ok : goal.returns-clause-ok
returns-clause-ok c =
    inserted c.self.inside.commands.entries _ c.args.command.now.name c.args.command.now.payload c.in_ok-insert.ensures.updates.0
    ∙ ap (λ m. map.insert m c.args.command.now.name c.args.command.now.payload) c.self.view_is

pub returns-clause-value : goal.returns-clause-value
returns-clause-value c =
    c.in_ok-insert.ensures.old ∙ lookup-get c.args.command.now.name c.self.inside.commands.entries
    ∙ ap (λ m. map.get m c.args.command.now.name) c.self.view_is
