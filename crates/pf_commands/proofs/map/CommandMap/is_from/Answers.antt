use Rattle.std.proofs.Common.{sym, ◌∙◌, ap, nat_le}
use Rattle.pf_commands.proofs.Since.{is_from-first}
use Rattle.pf_commands.proofs.map.CommandMap.is_from.Goals as goal

pub returns-in-Some : goal.returns-in-Some
returns-in-Some c =
    ap (nat_le c.args.tick) (c.tick.ensures.value)
    ∙ is_from-first c.args.tick c.args.self.now (c.in-Some.first.now, c.in-Some.field-0-1.now) c.next.new.self (sym c.iter.ensures.entries ∙ c.in-Some.ensures.steps)
