use Rattle.std.proofs.Common.{◌≡◌, ◌++◌, List, append_assoc, refl, ap, subst, ◌∙◌, sym, arith, drop, length, ◌+◌}
use Rattle.std.proofs.lemmas.List.{append-nil}
use Rattle.std.proofs.lemmas.List.FromFn.{length-map-range_with_len}
use Rattle.pf_shapes.specs.Scene.{Scene}
use Rattle.pf_rollback.specs.Peer.{new_peer}
use Rattle.pf_events.specs.declared.event.Event.{Event}
use Rattle.pf_events.specs.declared.event.Reply.{Reply}
use Rattle.pf_events.specs.Session.{IsAmong, Session, new_session, reply_to, session_after}
use Rattle.pf_events.proofs.Sessions.{replies_to-drop, replies_to-all, length-session_after}
use Rattle.pf_events.proofs.replay.run.Goals as goal

pub loop-event-init : goal.loop-event-init
loop-event-init c =
    let same : c.in_ok-session.session ≡ new_session c.args.scene.now c.args.peers =
    c.in_ok-session.ensures.value ∙ ap (λ (s : Scene). new_session s c.args.peers) c.in_ok-try_clone.ensures.value in (
      rw (c.new-replies.ensures.items, same) refl,
      ap (λ (s : Session). length s.peers) same ∙ length-map-range_with_len (new_peer c.args.scene.now) 0 c.args.peers,
    )

pub loop-event-preserved : goal.loop-event-preserved
loop-event-preserved c =
    let s = c.loop-event.session in
    let event = c.event-item.result in
    let rest = drop (c.loop-event.event-index + 1) c.args.events.now in
    let reply_is : c.in_ok-answer.field-0 ≡ reply_to s event = ap (λ (a : Reply × Session). a.0) c.in_ok-answer.ensures.reply in
    let session_is : c.answer.new.self ≡ session_after s event = ap (λ (a : Reply × Session). a.1) c.in_ok-answer.ensures.reply in
    let more = replies_to-drop s c.args.events.now c.loop-event.event-index event (omega arith) c.event-item.is in (
      rw (c.in_ok-push.ensures.items, session_is, reply_is, append_assoc, ← more) c.loop-event.invariant.0,
      ap (λ (s : Session). length s.peers) session_is ∙ length-session_after s event ∙ c.loop-event.invariant.1,
    )

pub returns : goal.returns
returns c =
    let none = replies_to-all c.loop-event.session c.args.events.now c.loop-event.event-index (omega arith) in
    sym (append-nil c.loop-event.replies.items) ∙ ap (λ (rs : List Reply). c.loop-event.replies.items ++ rs) (sym none) ∙ c.loop-event.invariant.0

pub answer-requires : goal.answer-requires
answer-requires c =
    let event = c.event-item.result in
    let P : Event → Type 0 = IsAmong c.args.peers in
    rw c.loop-event.invariant.1 (subst P (sym c.event-item.is) (c.requires.named c.loop-event.event-index event (omega arith)))
