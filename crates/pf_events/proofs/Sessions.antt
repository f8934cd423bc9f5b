-- Sessions and the cores of their peers.
use Rattle.std.proofs.Common.{◌≡◌, ◌≢◌, ◌==◌, false, ℕ, zero, suc, ◌+◌, ◌<◌, ◌≤◌, ◌⊎◌, inl, inr, List, [], ◌∷◌, drop, map, get_or, length, Some, Result, Ok, Err, refl, ap, ◌∙◌, sym, subst, add-one, arith}
use Rattle.std.proofs.Math.ListN.{length-set}
use Rattle.std.proofs.Math.Seq.{drop-cons}
use Rattle.std.specs.Prelude.{IfOk, IsErr, IsOk, OnErr, slice_get, slice_set}
use Rattle.std.specs.declared.alloc.AllocError.{AllocError}
use Rattle.std.proofs.lemmas.List.Elements.{All-set}
use Rattle.std.proofs.lemmas.Option.{slice_get-get_or}
use Rattle.std.proofs.lemmas.Result.{IfOk-weaker}
use Rattle.std.proofs.lemmas.Bool.Decides.{nat_tests}
use Rattle.std.proofs.lemmas.List.{drop_all, get_or-map, get_or_default, map-set, set-get_or}
use Rattle.pf_shapes.specs.Scene.{Scene}
use Rattle.pf_rollback.specs.Core as core
use Rattle.pf_rollback.specs.Core.{PeerCore}
use Rattle.pf_commands.specs.News.{news}
use Rattle.pf_rollback.specs.Peer.{Peer, new_peer}
use Rattle.pf_events.specs.declared.session.TheConstants.{RING}
use Rattle.pf_events.specs.declared.event.Event.{Event}
use Rattle.pf_events.specs.declared.event.Event.TheVariants.{Issue, Take, Merge, Advance, Settle, Show, Seal}
use Rattle.pf_events.specs.declared.event.Reply.{Reply}
use Rattle.pf_events.specs.declared.event.Reply.TheVariants.{Merged}
use Rattle.pf_events.specs.Answers.{IsMergeReply}
use Rattle.pf_events.specs.Crews.{IsCoreAt}
use Rattle.pf_events.specs.Session.{AreCores, IsAmong, NeedsNoMemory, Session, answer, merge_of, other_peer_of, other_peer_at, peer_answer, peer_in, event_peer, replies_to, reply_and_peer, reply_to, session_after}

-- the core of a peer that begins
abbrev pub new_core : Scene → ℕ → PeerCore
new_core scene player = core.new_core scene player RING

-- the peers of cores
abbrev pub peers_of : List PeerCore → List Peer
peers_of cores = map (λ (core : PeerCore). core.peer) cores

pub peers_of-new_core : (scene : Scene) (players : List ℕ) →
    peers_of (map (new_core scene) players) ≡ map (new_peer scene) players
peers_of-new_core scene [] = refl
peers_of-new_core scene (player ∷ players) =
    ap (λ (ps : List Peer). new_peer scene player ∷ ps) (peers_of-new_core scene players)

pub scene_of-new_core : (scene : Scene) (players : List ℕ) (k : ℕ) (d : PeerCore) → k < length (map (new_core scene) players)
    → (get_or (map (new_core scene) players) k d).scene ≡ scene
scene_of-new_core scene [] k d h = absurd (omega arith)
scene_of-new_core scene (player ∷ players) zero d h = refl
scene_of-new_core scene (player ∷ players) (suc k) d h = scene_of-new_core scene players k d (omega arith)

-- the peer of a core among others of one scene
peer_of_core : (scene : Scene) (cores : List PeerCore) (i : ℕ) (core : PeerCore) → i < length cores → core ≡ get_or cores i core
    → peer_in (record { scene = scene; peers = peers_of cores }) i ≡ core.peer
peer_of_core scene cores i core within is =
    get_or-map (λ (core : PeerCore). core.peer) cores i core (new_peer scene 0) within ∙ ap (λ (core : PeerCore). core.peer) (sym is)

-- a core among others of one scene is that of the peer of its place
pub core_at : (scene : Scene) (cores : List PeerCore) (i : ℕ) (core : PeerCore) → i < length cores → core ≡ get_or cores i core
    → ((k : ℕ) (d : PeerCore) → k < length cores → (get_or cores k d).scene ≡ scene)
    → IsCoreAt (record { scene = scene; peers = peers_of cores }) i core
core_at scene cores i core within is scenes = record {
  scene = ap (λ (core : PeerCore). core.scene) is ∙ scenes i core within;
  peer = sym (peer_of_core scene cores i core within is);
}

-- the reply of one peer is that of the session, and its core after it goes to its place
pub peer_answer_is : (scene : Scene) (cores : List PeerCore) (event : Event) (old other new : PeerCore) (reply : Reply)
    → event_peer event < length cores → old ≡ get_or cores (event_peer event) old
    → other_peer_of event < length cores → other ≡ get_or cores (other_peer_of event) other
    → ((k : ℕ) (d : PeerCore) → k < length cores → (get_or cores k d).scene ≡ scene)
    → ◌≡◌ {A = Reply × Peer} (reply, new.peer) (peer_answer old.scene other.peer old.peer event)
    → ◌≡◌ {A = Reply × Session} (reply, record { scene = scene; peers = peers_of (slice_set cores (event_peer event) new) })
    (answer (record { scene = scene; peers = peers_of cores }) event)
peer_answer_is scene cores event old other new reply within is other_within other_is scenes called =
    let i = event_peer event in
    let s : Session = record { scene = scene; peers = peers_of cores } in
    let same_scene : old.scene ≡ scene = ap (λ (core : PeerCore). core.scene) is ∙ scenes i old within in
    let same_peer : peer_in s i ≡ old.peer = peer_of_core scene cores i old within is in
    let same_other : other_peer_at s event ≡ other.peer = peer_of_core scene cores (other_peer_of event) other other_within other_is in
    let called_there : ◌≡◌ {A = Reply × Peer} (reply, new.peer) (peer_answer scene (other_peer_at s event) (peer_in s i) event) =
    called ∙ ap (λ (s : Scene). peer_answer s other.peer old.peer event) same_scene
    ∙ ap (λ (q : Peer). peer_answer scene q old.peer event) (sym same_other)
    ∙ ap (λ (p : Peer). peer_answer scene (other_peer_at s event) p event) (sym same_peer) in
    let put : peers_of (slice_set cores i new) ≡ slice_set (peers_of cores) i new.peer =
    map-set (λ (core : PeerCore). core.peer) cores i new in
    ap (λ (ps : List Peer). let s : Session = record { scene = scene; peers = ps } in let pair : Reply × Session = (reply, s) in pair) put
    ∙ ap
    (λ (a : Reply × Peer).
    let s : Session = record { scene = scene; peers = slice_set (peers_of cores) i a.1 } in
    let pair : Reply × Session = (a.0, s) in pair)
    called_there

-- a core of the same peer in its place changes no peer
pub same_peers : (cores : List PeerCore) (i : ℕ) (old new : PeerCore) → old ≡ get_or cores i old → new.peer ≡ old.peer
    → peers_of (slice_set cores i new) ≡ peers_of cores
same_peers cores i old new is same =
    map-set (λ (core : PeerCore). core.peer) cores i new ∙ ap (λ (p : Peer). slice_set (peers_of cores) i p) same
    ∙ sym (map-set (λ (core : PeerCore). core.peer) cores i old)
    ∙ ap (λ (core : PeerCore). peers_of (slice_set cores i core)) is ∙ ap peers_of (set-get_or cores i old)

-- ---- events on two peers, which are merges

-- the reply of a peer to one
merge_answer : (s : Scene) (q p : Peer) (event : Event) → other_peer_of event ≢ event_peer event
    → peer_answer s q p event ≡ reply_and_peer (λ count. Merged (event_peer event) count) p (merge_of s p q)
unfolding peer_answer
merge_answer s q p (Issue peer payload) two = absurd (two refl)
merge_answer s q p (Take peer frame) two = absurd (two refl)
merge_answer s q p (Merge peer other) two = let test : (other == peer) ≡ false = grind (arith, nat_tests) in rw test refl
merge_answer s q p (Advance peer ticks) two = absurd (two refl)
merge_answer s q p (Settle peer) two = absurd (two refl)
merge_answer s q p (Show peer tick) two = absurd (two refl)
merge_answer s q p (Seal peer tick) two = absurd (two refl)

merge_needs_none : (s : Scene) (q p : Peer) (event : Event) → other_peer_of event ≢ event_peer event → NeedsNoMemory s q p event
    → IsErr (merge_of s p q) ⊎ (news p.commands q.commands ≡ [])
merge_needs_none s q p (Issue peer payload) two none = absurd (two refl)
merge_needs_none s q p (Take peer frame) two none = absurd (two refl)
merge_needs_none s q p (Merge peer other) two (inl same) = absurd (two same)
merge_needs_none s q p (Merge peer other) two (inr none) = none
merge_needs_none s q p (Advance peer ticks) two none = absurd (two refl)
merge_needs_none s q p (Settle peer) two none = absurd (two refl)
merge_needs_none s q p (Show peer tick) two none = absurd (two refl)
merge_needs_none s q p (Seal peer tick) two none = absurd (two refl)

-- the session of some cores
abbrev pub session_of : Scene → List PeerCore → Session
session_of scene cores = record { scene = scene; peers = peers_of cores }

-- the cores after an event, and the reply to it
pub record AreCoresAfter (scene : Scene) (cores after : List PeerCore) (event : Event) (result : Result Reply AllocError) : Type 0 where
  pub are : AreCores scene after
  pub count : length after ≡ length cores
  pub reply : IfOk result (λ reply. ◌≡◌ {A = Reply × Session} (reply, session_of scene after) (answer (session_of scene cores) event))
  pub no_memory : let s = session_of scene cores in
      NeedsNoMemory scene (other_peer_at s event) (peer_in s (event_peer event)) event → IsOk result
  pub err : OnErr result (session_of scene after ≡ session_of scene cores)

pub on_err : {A E : Type 0} (result : Result A E) (P Q : Type 0) → (P → Q) → OnErr result P → OnErr result Q
on_err (Ok value) P Q more is = tt
on_err (Err error) P Q more is = more is

pub err_anyway : {A E : Type 0} (result : Result A E) (P : Type 0) → P → OnErr result P
err_anyway (Ok value) P is = tt
err_anyway (Err error) P is = is

pub merged_cores : (scene : Scene) (cores after : List PeerCore) (event : Event) (result : Result Reply AllocError)
    → AreCores scene cores → IsAmong (length cores) event → other_peer_of event ≢ event_peer event
    → ((old others : PeerCore) → slice_get cores (event_peer event) ≡ Some old → slice_get cores (other_peer_of event) ≡ Some others
    → (new : PeerCore) × (after ≡ slice_set cores (event_peer event) new) × IsMergeReply (event_peer event) others.peer old new result)
    → AreCoresAfter scene cores after event result
merged_cores scene cores after event result are among two merged =
    let d = new_core scene 0 in
    let i = event_peer event in
    let s = session_of scene cores in
    let old = get_or cores i d in
    let others = get_or cores (other_peer_of event) d in
    let step = merged old others (slice_get-get_or cores i d among.0) (slice_get-get_or cores (other_peer_of event) d among.1) in
    let old_is : old ≡ get_or cores i old = get_or_default cores i d old among.0 in
    let others_is : others ≡ get_or cores (other_peer_of event) others = get_or_default cores (other_peer_of event) d others among.1 in
    let same_scene : old.scene ≡ scene = are.scenes i d among.0 in
    let same_peer : peer_in s i ≡ old.peer = peer_of_core scene cores i old among.0 old_is in
    let same_others : other_peer_at s event ≡ others.peer = peer_of_core scene cores (other_peer_of event) others among.1 others_is in
    let session : List PeerCore → Session = session_of scene in
    record {
      are = rw step.1 (record {
        few = omega (arith, length-set cores i step.0, are.few);
        scenes = All-set (λ (core : PeerCore). core.scene ≡ scene) cores i step.0 (step.2.scene ∙ same_scene) are.scenes;
      });
      count = rw step.1 (length-set cores i step.0);
      reply = rw step.1 (IfOk-weaker result _ _ (λ reply called.
          peer_answer_is scene cores event old others step.0 reply among.0 old_is among.1 others_is are.scenes
          (called ∙ sym (merge_answer old.scene others.peer old.peer event two))) step.2.reply);
      no_memory = λ none. step.2.no_memory (
          let N : Scene → Peer → Peer → Type 0 = λ s q p. IsErr (merge_of s p q) ⊎ (news p.commands q.commands ≡ []) in
          subst (λ (x : Scene). N x others.peer old.peer) (sym same_scene)
          (subst (λ (q : Peer). N scene q old.peer) same_others
          (subst (λ (p : Peer). N scene (other_peer_at s event) p) same_peer (merge_needs_none scene (other_peer_at s event) (peer_in s i) event two none)))
          );
      err = on_err result _ _ (λ (same : step.0 ≡ old). ap session step.1 ∙ ap (λ (ps : List Peer). let s : Session = record { scene = scene; peers = ps } in s)
          (same_peers cores i old step.0 old_is (ap (λ (core : PeerCore). core.peer) same))) step.2.err;
    }

-- ---- one event after the other

replies_to-cons : (s : Session) (event : Event) (events : List Event) →
    replies_to s (event ∷ events) ≡ reply_to s event ∷ replies_to (session_after s event) events
unfolding replies_to
replies_to-cons s event events = refl

replies_to-nil : (s : Session) → replies_to s [] ≡ []
unfolding replies_to
replies_to-nil s = refl

-- the event of one index, and those behind it
pub replies_to-drop : (s : Session) (events : List Event) (i : ℕ) (event : Event)
    → i < length events → event ≡ get_or events i event
    → replies_to s (drop i events) ≡ reply_to s event ∷ replies_to (session_after s event) (drop (i + 1) events)
replies_to-drop s events i event h is =
    let first : drop i events ≡ event ∷ drop (suc i) events =
    drop-cons events i event h ∙ ap (λ (e : Event). e ∷ drop (suc i) events) (sym is) in
    rw (first, add-one) (replies_to-cons s event (drop (suc i) events))

pub replies_to-all : (s : Session) (events : List Event) (i : ℕ) → length events ≤ i → replies_to s (drop i events) ≡ []
replies_to-all s events i h = rw (drop_all i events h) (replies_to-nil s)

-- no event changes how many peers there are
pub length-session_after : (s : Session) (event : Event) → length (session_after s event).peers ≡ length s.peers
length-session_after s event = length-set s.peers (event_peer event) (peer_answer s.scene (other_peer_at s event) (peer_in s (event_peer event)) event).1
