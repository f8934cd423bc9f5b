use Rattle.std.proofs.Common.{ap, sym, ◌∙◌}
use Rattle.pf_commands.specs.Ticks.{is_from}
use Rattle.pf_rollback.proofs.Cores.{core_merge}
use Rattle.pf_rollback.proofs.Late.{merge_late}
use Rattle.pf_rollback.proofs.peer.PeerCore.merge.Goals as goal

pub drop_after_news-requires : goal.drop_after_news-requires
drop_after_news-requires c =
    let late = ap (λ h. is_from h c.args.other.now) (sym c.horizon-horizon.ensures.value) ∙ sym c.is_from.ensures ∙ c.if-not-is_from.false in
    merge_late _ _ c.args.other.now _ c.in_ok-merged.ensures.least late

pub invariant_of-self-2 : goal.invariant_of-self-2
invariant_of-self-2 c =
    let late = ap (λ h. is_from h c.args.other.now) (sym c.horizon-horizon.ensures.value) ∙ sym c.is_from.ensures ∙ c.if-not-is_from.false in (
      rw c.in_ok-merged.ensures.ok
          (core_merge _ _ _ _ _ _ c.args.other.now _ c.self.invariant.0 (sym c.check_all.ensures ∙ c.in_default.is) late
          c.in_ok-merged.ensures.least c.drop_after_news.ensures.base c.drop_after_news.ensures.worlds c.drop_after_news.ensures.lower),
      c.drop_after_news.ensures.follows c.self.inside.scene c.self.invariant.1,
    )
