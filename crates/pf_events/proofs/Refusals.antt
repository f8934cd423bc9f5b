-- A refused event changes nothing.
use Rattle.std.proofs.Common.{◌≡◌, ◌==◌, if◌then◌else◌, Bool, true, false, ℕ, List, Result, Ok, Err, refl, ap, ◌∙◌, rules}
use Rattle.std.specs.Prelude.{slice_set}
use Rattle.std.proofs.lemmas.List.{set-get_or}
use Rattle.pf_commands.specs.declared.outcome.Put.{Put}
use Rattle.pf_shapes.specs.Scene.{Scene}
use Rattle.pf_rollback.specs.declared.error.Refusal.{Refusal}
use Rattle.pf_rollback.specs.Peer.{Peer, advance, issue, new_peer, seal, take}
use Rattle.pf_events.specs.declared.event.Event.{Event}
use Rattle.pf_events.specs.declared.event.Event.TheVariants.{Issue, Take, Merge, Advance, Settle, Show, Seal}
use Rattle.pf_events.specs.declared.event.Reply.{Reply}
use Rattle.pf_events.specs.declared.event.Reply.TheVariants.{Issued, Took, Merged, Advanced, Sealed, Refused}
use Rattle.pf_events.specs.Session.{Session, merge_of, other_peer_at, peer_answer, peer_in, event_peer, reply_and_peer, reply_to, session_after}

-- the reply is no refusal
abbrev IsNoRefusal : Reply → Type 0
IsNoRefusal reply = (refusal : Refusal) → reply ≡ Refused refusal → ⊥

refused_call : {A : Type 0} (reply : A → Reply) (p : Peer) (r : Result (A × Peer) Refusal) (refusal : Refusal)
    → ((answer : A) → IsNoRefusal (reply answer)) → (reply_and_peer reply p r).0 ≡ Refused refusal → (reply_and_peer reply p r).1 ≡ p
refused_call reply p (Ok answer) refusal is_reply refused = absurd (is_reply answer.0 refusal refused)
refused_call reply p (Err other) refusal is_reply refused = refl

issued : (peer : ℕ) (frame : List ℕ) → IsNoRefusal (Issued peer frame)
issued peer frame refusal is = search rules

took : (peer : ℕ) (outcome : Put) → IsNoRefusal (Took peer outcome)
took peer outcome refusal is = search rules

merged : (peer count : ℕ) → IsNoRefusal (Merged peer count)
merged peer count refusal is = search rules

advanced : (peer reached : ℕ) → IsNoRefusal (Advanced peer reached)
advanced peer reached refusal is = search rules

sealed : (peer tick : ℕ) → IsNoRefusal (Sealed peer tick)
sealed peer tick refusal is = search rules

refused_peer : (s : Scene) (q p : Peer) (event : Event) (refusal : Refusal)
    → (peer_answer s q p event).0 ≡ Refused refusal → (peer_answer s q p event).1 ≡ p
unfolding peer_answer
refused_peer s q p (Issue peer payload) refusal = refused_call (λ frame. Issued peer frame) p (issue s p payload) refusal (issued peer)
refused_peer s q p (Take peer frame) refusal = refused_call (λ outcome. Took peer outcome) p (take s p frame) refusal (took peer)
refused_peer s q p (Merge peer other) refusal = by (other == peer)
  where
    by : (b : Bool) → let a = if b then (Merged peer 0, p) else reply_and_peer (λ count. Merged peer count) p (merge_of s p q) in
        a.0 ≡ Refused refusal → a.1 ≡ p
    by true = λ refused. refl
    by false = refused_call (λ count. Merged peer count) p (merge_of s p q) refusal (merged peer)
refused_peer s q p (Advance peer ticks) refusal = refused_call (λ reached. Advanced peer reached) p (advance p ticks) refusal (advanced peer)
refused_peer s q p (Settle peer) refusal = λ refused. refl
refused_peer s q p (Show peer tick) refusal = λ refused. refl
refused_peer s q p (Seal peer tick) refusal = refused_call (λ done. Sealed peer tick) p (seal s p tick) refusal (λ done. sealed peer tick)

-- the session is the same where the peer is
pub same_after : (s : Session) (event : Event)
    → (peer_answer s.scene (other_peer_at s event) (peer_in s (event_peer event)) event).1 ≡ peer_in s (event_peer event)
    → session_after s event ≡ s
same_after s event same =
    let with_peers : List Peer → Session = λ ps. record s { peers = ps } in
    let i = event_peer event in
    ap with_peers (ap (λ (p : Peer). slice_set s.peers i p) same ∙ set-get_or s.peers i (new_peer s.scene 0))

pub refused_session : (s : Session) (event : Event) (refusal : Refusal) → reply_to s event ≡ Refused refusal → session_after s event ≡ s
refused_session s event refusal refused =
    same_after s event (refused_peer s.scene (other_peer_at s event) (peer_in s (event_peer event)) event refusal refused)
