use Rattle.std.proofs.Common.{rules, ap, ◌∙◌, sym, subst, nat_le}
use Rattle.std.proofs.lemmas.Map.Made.{filter_same_pairs}
use Rattle.std.specs.FinMap as map
use Rattle.pf_commands.specs.Merge.{IsCommandMap}
use Rattle.pf_commands.specs.Ticks.{commands_from}
use Rattle.pf_commands.proofs.Since.{from_entries-since, IsCommandMap-from}
use Rattle.pf_commands.proofs.map.CommandMap.drop_before.Goals as goal

pub invariant_of-self : goal.invariant_of-self
invariant_of-self c =
    let kept = filter_same_pairs _ (λ e. nat_le c.args.tick e.0.tick) _ (λ k v b w f' t. search rules) _ _ c.retain.ensures.filtered in
    subst IsCommandMap (sym (from_entries-since c.args.tick c.self.inside.commands.entries c.retain.new.self.entries kept))
    (IsCommandMap-from c.args.tick (map.from_entries c.self.inside.commands.entries) c.self.invariant)

pub returns : goal.returns
returns c =
    let kept = filter_same_pairs _ (λ e. nat_le c.args.tick e.0.tick) _ (λ k v b w f' t. search rules) _ _ c.retain.ensures.filtered in
    from_entries-since c.args.tick c.self.inside.commands.entries c.retain.new.self.entries kept ∙ ap (commands_from c.args.tick) c.self.view_is
