use Rattle.std.proofs.Common.{◌≡◌, ℕ, ◌<◌, List, length, get_or, false, true, ap, ◌∙◌, sym, arith}
use Rattle.std.specs.Prelude.{IsOk}
use Rattle.std.proofs.lemmas.List.{length-map, with_items_is}
use Rattle.std.proofs.lemmas.Result.{IfOk-weaker}
use Rattle.pf_rollback.specs.Core.{PeerCore}
use Rattle.pf_rollback.specs.Peer.{Peer}
use Rattle.pf_events.specs.Crews.{IsCoreAt}
use Rattle.pf_events.specs.Session.{NeedsNoMemory, Session, other_peer_of, other_peer_at, peer_in, event_peer}
use Rattle.pf_events.proofs.Crews.{uses_weaker}
use Rattle.pf_events.proofs.Sessions.{AreCoresAfter, core_at, err_anyway, merged_cores, on_err, peer_answer_is, same_peers}
use Rattle.pf_events.proofs.session.Session.answer_by.Goals as goal

-- both peers of the event have cores
merged_err : (g : _) (c : goal.After-from_residual g)
    → AreCoresAfter c.self.inside.scene c.self.inside.cores.items c.merge_among.new.cores c.args.event c.merge_among.result
merged_err g c =
    let items = c.self.inside.cores.items in
    let count : length items ≡ length c.args.self.now.peers =
    sym (length-map items (λ (core : PeerCore). core.peer)) ∙ ap (λ (s : Session). length s.peers) c.self.view_is in
    merged_cores c.self.inside.scene items c.merge_among.new.cores c.args.event c.merge_among.result c.self.invariant
    (rw count c.requires.among)
    (rw (c.peer-peer.ensures, c.other_peer-other.ensures) at c.if-other-peer.true)
    (rw (c.peer-peer.ensures, c.other_peer-other.ensures, c.deref_mut.ensures.value) at c.merge_among.ensures)

merged_ok : (g : _) (c : goal.In_ok-merge_among g)
    → AreCoresAfter c.self.inside.scene c.self.inside.cores.items c.merge_among.new.cores c.args.event c.merge_among.result
merged_ok g c =
    let items = c.self.inside.cores.items in
    let count : length items ≡ length c.args.self.now.peers =
    sym (length-map items (λ (core : PeerCore). core.peer)) ∙ ap (λ (s : Session). length s.peers) c.self.view_is in
    merged_cores c.self.inside.scene items c.merge_among.new.cores c.args.event c.merge_among.result c.self.invariant
    (rw count c.requires.among)
    (rw (c.peer-peer.ensures, c.other_peer-other.ensures) at c.if-other-peer.true)
    (rw (c.peer-peer.ensures, c.other_peer-other.ensures, c.deref_mut.ensures.value) at c.merge_among.ensures)

pub invariant_of-self : goal.invariant_of-self
invariant_of-self g c =
    let m = merged_err g c in
    rw (with_items_is c.self.inside.cores c.merge_among.new.cores (m.count ∙ sym c.self.inside.cores.ok.0)) m.are

pub invariant_of-self-then-other-peer : goal.invariant_of-self-then-other-peer
invariant_of-self-then-other-peer g c =
    let m = merged_ok g c in
    rw (with_items_is c.self.inside.cores c.merge_among.new.cores (m.count ∙ sym c.self.inside.cores.ok.0)) m.are

pub returns-in_err-merge_among-clause-no_memory : goal.returns-in_err-merge_among-clause-no_memory
returns-in_err-merge_among-clause-no_memory g c = λ none.
    let s = c.args.self.now in
    let needs : NeedsNoMemory s.scene (other_peer_at s c.args.event) (peer_in s (event_peer c.args.event)) c.args.event → IsOk c.merge_among.result =
    rw (← c.self.view_is) (merged_err g c).no_memory in
    let ok : IsOk c.merge_among.result = needs none in
    let bad : false ≡ true = rw c.in_err-merge_among.was at ok in
    absurd cc

pub returns-in_err-merge_among-clause-err : goal.returns-in_err-merge_among-clause-err
returns-in_err-merge_among-clause-err g c =
    let m = merged_err g c in
    let same = rw c.in_err-merge_among.was at m.err in
    err_anyway c.from_residual.result _
    (rw (← c.self.view_is, with_items_is c.self.inside.cores c.merge_among.new.cores (m.count ∙ sym c.self.inside.cores.ok.0)) same)

pub returns-then-other-peer-clause-reply : goal.returns-then-other-peer-clause-reply
returns-then-other-peer-clause-reply g c =
    let m = merged_ok g c in
    let reply = rw c.in_ok-merge_among.was at m.reply in
    rw (← c.self.view_is, with_items_is c.self.inside.cores c.merge_among.new.cores (m.count ∙ sym c.self.inside.cores.ok.0)) reply

-- the event is on one peer, whose core is at its place
core_is : (g : _) (c : goal.After-self-2-1 g)
    → (c.from.result ≡ event_peer c.args.event) × (event_peer c.args.event < length c.self.inside.cores.items)
    × (c.index_mut-core.result.now ≡ get_or c.self.inside.cores.items (event_peer c.args.event) c.index_mut-core.result.now)
core_is g c =
    let at : c.from.result ≡ event_peer c.args.event = c.from.ensures ∙ c.peer-peer.ensures in
    let count : length c.args.self.now.peers ≡ length c.self.inside.cores.items =
    ap (λ (s : Session). length s.peers) (sym c.self.view_is) ∙ length-map c.self.inside.cores.items (λ (core : PeerCore). core.peer) in
    let within : event_peer c.args.event < length c.self.inside.cores.items = omega (arith, count, c.requires.among.0) in
    (at, within, c.index_mut-core.ensures.value ∙ ap (λ (i : ℕ). get_or c.self.inside.cores.items i c.index_mut-core.result.now) at)

pub returns-clause-reply : goal.returns-clause-reply
returns-clause-reply g c =
    let core = core_is g c in
    let same : other_peer_of c.args.event ≡ event_peer c.args.event = sym c.other_peer-other.ensures ∙ c.if-other-peer.false ∙ c.peer-peer.ensures in
    let old = c.index_mut-core.result.now in
    rw (← c.self.view_is, core.0) (IfOk-weaker c.answer_of_peer.result _ _
    (λ reply called. peer_answer_is c.self.inside.scene c.self.inside.cores.items c.args.event old old c.answer_of_peer.new.core reply core.1 core.2
    (rw same core.1) (rw same core.2) c.self.invariant.scenes called)
    c.answer_of_peer.ensures.reply)

pub returns-clause-err : goal.returns-clause-err
returns-clause-err g c =
    let core = core_is g c in
    let old = c.index_mut-core.result.now in
    let with_peers : List Peer → Session = λ ps. record { scene = c.self.inside.scene; peers = ps } in
    rw (← c.self.view_is, core.0) (on_err c.answer_of_peer.result _ _
    (λ same. ap with_peers (same_peers c.self.inside.cores.items (event_peer c.args.event) old c.answer_of_peer.new.core core.2 same))
    c.answer_of_peer.ensures.err)

pub returns-clause-crew : goal.returns-clause-crew
returns-clause-crew g c =
    let core = core_is g c in
    let old = c.index_mut-core.result.now in
    let at : IsCoreAt c.args.self.now (event_peer c.args.event) old =
    rw (← c.self.view_is) (core_at c.self.inside.scene c.self.inside.cores.items (event_peer c.args.event) old core.1 core.2 c.self.invariant.scenes) in
    uses_weaker g.C.Crew.is_called g.C.Crew.may_fail (λ used. used ≡ old) (IsCoreAt c.args.self.now (event_peer c.args.event))
    (λ used is. rw is at) c.args.event c.args.crew.now c.answer_of_peer.result c.answer_of_peer.new.crew c.answer_of_peer.ensures.crew
