use Rattle.std.proofs.Common.{◌≡◌, Some, None, if◌then◌else◌, ap, ◌∙◌}
use Rattle.pf_commands.specs.Check.{check}
use Rattle.pf_commands.specs.News.{is_change, is_news}
use Rattle.pf_rollback.specs.Core.{PeerCore, news_tick}
use Rattle.pf_rollback.proofs.Cores.{core_put}
use Rattle.pf_rollback.proofs.Late.{put_late}
use Rattle.pf_rollback.proofs.peer.PeerCore.hold.Goals as goal

tick : (c : goal.After-drop_after_news-arg-2-1) → c.tick_of_news-least.result ≡ news_tick c.self.inside.commands c.args.command.now
tick c =
    let command = c.args.command.now in
    c.tick_of_news-least.ensures
    ∙ ap (λ put. if is_change put then Some c.tick.result else None) c.in_ok-put.ensures.outcome
    ∙ ap (λ t. if is_news c.self.inside.commands (command.name, command.payload) then Some t else None) c.tick.ensures.value

pub drop_after_news-requires : goal.drop_after_news-requires
drop_after_news-requires c =
    let late = rw (← c.self.view_is) at c.requires.horizon in
    put_late _ _ c.args.command.now _ (tick c) late

pub invariant_of-self-2 : goal.invariant_of-self-2
invariant_of-self-2 c =
    let command = c.args.command.now in
    let checked = ap (λ (core : PeerCore). check core.scene command.name command.payload) c.self.view_is ∙ c.requires.allowed in
    let late = rw (← c.self.view_is) at c.requires.horizon in (
      rw c.in_ok-put.ensures.ok
          (core_put _ _ _ _ _ _ command _ c.self.invariant.0 checked late (tick c.before) c.drop_after_news.ensures.base
          c.drop_after_news.ensures.worlds c.drop_after_news.ensures.lower),
      c.drop_after_news.ensures.follows c.self.inside.scene c.self.invariant.1,
    )
