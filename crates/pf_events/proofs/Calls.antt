-- What events do not change of a peer, and which map they leave.
use Rattle.std.proofs.Common.{◌≡◌, ◌≢◌, ℕ, ◌+◌, ◌<◌, Bool, true, false, ◌==◌, if◌then◌else◌, List, [], ◌∷◌, ◌++◌, length, Result, Ok, Err, refl, ap, sym, subst, ◌∙◌, nat_le, nat_lt, arith}
use Rattle.std.specs.FinMap.{get, entries}
use Rattle.std.specs.Prelude.{slice_index_or}
use Rattle.std.proofs.lemmas.Bool.Decides.{nat_tests}
use Rattle.std.proofs.lemmas.List.{ext_get_or, get_or-set_same, get_or-set_other}
use Rattle.pf_shapes.specs.Scene.{Scene}
use Rattle.pf_commands.specs.declared.checking.CheckFault.{CheckFault}
use Rattle.pf_commands.specs.declared.outcome.Put.{Put}
use Rattle.pf_commands.specs.declared.name.TheConstants.{MAX_TICK, NUMBERS}
use Rattle.pf_commands.specs.declared.payload.Command.{Command}
use Rattle.pf_commands.specs.declared.payload.Payload.{Payload}
use Rattle.pf_commands.specs.Check.{check, check_all}
use Rattle.pf_commands.specs.Merge.{CommandMap, merge, singleton, put_all}
use Rattle.pf_commands.specs.Ticks.{IsFrom, commands_before, commands_from, is_from}
use Rattle.pf_commands.specs.News.{news, put_outcome}
use Rattle.pf_rollback.specs.declared.error.Refusal.{Refusal}
use Rattle.pf_commands.proofs.Merging.{merge_assoc}
use Rattle.pf_commands.proofs.Since.{before-merge-from, is_from-IsFrom}
use Rattle.pf_step.specs.World.{same_world}
use Rattle.pf_rollback.specs.declared.error.Refusal.TheVariants.{TooOld}
use Rattle.pf_rollback.specs.Peer.{Peer, if_allowed, new_peer, with_command, with_commands, with_frame, put, issue, merge_map, merge_sealed, advance, next_command, next_number, seal, sealed_peer}
use Rattle.pf_rollback.specs.Sealing.{HasSealed}
use Rattle.pf_rollback.proofs.Seals.{is_sealed, seal_seals, sealed_stays}
use Rattle.pf_events.specs.declared.event.Event.{Event}
use Rattle.pf_events.specs.declared.event.Event.TheVariants.{Issue, Take, Merge, Advance, Settle, Show, Seal}
use Rattle.pf_events.specs.declared.event.Reply.{Reply}
use Rattle.pf_events.specs.declared.event.Reply.TheVariants.{Issued, Took, Merged, Advanced, Sealed}
use Rattle.pf_events.specs.Laws.{if_taken, listed_commands, new_commands, commands_for}
use Rattle.pf_events.specs.Session.{Session, merge_of, other_peer_at, peer_answer, peer_in, event_peer, reply_and_peer, session_after, session_after_all}
use Rattle.pf_events.proofs.Horizons.{IsFrom-put, merge-put_all}
use Rattle.pf_events.proofs.Maps.{put_all-commands_of}
use Rattle.pf_events.proofs.Sessions.{length-session_after}
use Rattle.pf_rollback.proofs.Late.{from_merge}

-- ---- one peer

-- a call that brings commands, refused or not: the player, the horizon and the world there stay; the
-- map is the one with these commands put in, of which none is before the horizon
pub record Brings {A : Type 0} (p : Peer) (cs : List Command) (r : Result (A × Peer) Refusal) : Type 0 where
  pub player : (reply : A → Reply) → (reply_and_peer reply p r).1.player ≡ p.player
  pub horizon : (reply : A → Reply) → (reply_and_peer reply p r).1.horizon ≡ p.horizon
  pub base : (reply : A → Reply) → (reply_and_peer reply p r).1.base ≡ p.base
  pub commands : (reply : A → Reply) → (reply_and_peer reply p r).1.commands ≡ put_all p.commands (if_taken r cs)
  pub from : (reply : A → Reply) → IsFrom p.horizon p.commands → IsFrom p.horizon (reply_and_peer reply p r).1.commands

-- a call that is refused
refused_outcome : {A : Type 0} (p : Peer) (cs : List Command) (refusal : Refusal) → Brings {A = A} p cs (Err refusal)
refused_outcome p cs refusal = record {
  player = λ reply. refl;
  horizon = λ reply. refl;
  base = λ reply. refl;
  commands = λ reply. refl;
  from = λ reply from. from;
}

-- what holds of two calls holds of the one that a test chooses
either : {A : Type 0} (Holds : Result (A × Peer) Refusal → Type 0) (test : Bool) (r s : Result (A × Peer) Refusal) → Holds r → Holds s
    → Holds (if test then r else s)
either Holds true r s first second = first
either Holds false r s first second = second

-- a call that the scene has to allow
allowed : {A : Type 0} (p : Peer) (cs : List Command) (checked : Result (Unit {0}) CheckFault) (r : Result (A × Peer) Refusal)
    → Brings p cs r → Brings p cs (if_allowed checked r)
allowed p cs (Ok done) r brings = brings
allowed p cs (Err fault) r brings = refused_outcome p cs _

put_late : (p : Peer) (c : Command) (outcome : Put) (early : Bool) → nat_lt c.name.tick p.horizon ≡ early
    → Brings p (c ∷ []) (if early then Err (TooOld p.horizon) else Ok (outcome, with_command p c))
put_late p c outcome true test = refused_outcome p (c ∷ []) _
put_late p c outcome false test = record {
  player = λ reply. refl;
  horizon = λ reply. refl;
  base = λ reply. refl;
  commands = λ reply. refl;
  from = λ reply from. IsFrom-put p.horizon p.commands c.name c.payload from (grind (arith, nat_tests));
}

merge_late : (p : Peer) (others : CommandMap) (count : ℕ) (late : Bool) → is_from p.horizon others ≡ late
    → Brings p (listed_commands others) (if late then Ok (count, with_commands p others) else Err (TooOld p.horizon))
merge_late p others count true test = record {
  player = λ reply. refl;
  horizon = λ reply. refl;
  base = λ reply. refl;
  commands = λ reply. sym (put_all-commands_of p.commands others);
  from = λ reply from. from_merge p.horizon p.commands others from (is_from-IsFrom p.horizon others test);
}
merge_late p others count false test = refused_outcome p (listed_commands others) _

pub puts : (s : Scene) (p : Peer) (c : Command) → Brings p (c ∷ []) (put s p c)
unfolding put
puts s p c =
    allowed p (c ∷ []) (check s c.name c.payload) _ (put_late p c (put_outcome (get p.commands c.name) c.payload) (nat_lt c.name.tick p.horizon) refl)

framed : (p : Peer) (c : Command) (r : Result (Put × Peer) Refusal) → Brings p (c ∷ []) r → Brings p (c ∷ []) (with_frame c r)
framed p c (Ok outcome) brings = record {
  player = λ reply. brings.player (λ put. Took 0 put);
  horizon = λ reply. brings.horizon (λ put. Took 0 put);
  base = λ reply. brings.base (λ put. Took 0 put);
  commands = λ reply. brings.commands (λ put. Took 0 put);
  from = λ reply. brings.from (λ put. Took 0 put);
}
framed p c (Err refusal) brings = refused_outcome p (c ∷ []) refusal

pub issues : (s : Scene) (p : Peer) (payload : Payload) → Brings p (next_command p payload ∷ []) (issue s p payload)
unfolding issue
issues s p payload =
    let c = next_command p payload in
    either (Brings p (c ∷ [])) (nat_le MAX_TICK p.reached) (Err _) _ (refused_outcome p (c ∷ []) _)
    (either (Brings p (c ∷ [])) (nat_le NUMBERS (next_number p.commands p.reached p.player)) (Err _) _ (refused_outcome p (c ∷ []) _)
    (framed p c (put s p c) (puts s p c)))

merges_map : (s : Scene) (p : Peer) (others : CommandMap) → Brings p (listed_commands others) (merge_map s p others)
unfolding merge_map
merges_map s p others =
    allowed p (listed_commands others) (check_all s (entries others)) _
    (merge_late p others (length (news p.commands others)) (is_from p.horizon others) refl)

pub merges : (s : Scene) (p q : Peer) → Brings p (listed_commands q.commands) (merge_of s p q)
unfolding merge_sealed
merges s p q =
    let cs = listed_commands q.commands in
    either (Brings p cs) (p.horizon == q.horizon) _ _
    (either (Brings p cs) (same_world p.base q.base) _ _ (merges_map s p q.commands) (refused_outcome p cs _)) (refused_outcome p cs _)

pub advances : (p : Peer) (ticks : ℕ) → Brings p [] (advance p ticks)
unfolding advance
advances p ticks = either (Brings p []) (nat_le (p.reached + ticks) MAX_TICK) _ _ (record {
  player = λ reply. refl;
  horizon = λ reply. refl;
  base = λ reply. refl;
  commands = λ reply. refl;
  from = λ reply from. from;
}) (refused_outcome p [] _)

-- ---- what a peer has sealed, and what it holds

-- A peer after a call that brought commands. All that it has sealed since tick zero and what it holds
-- is what was sealed and held before with these put in.
pub record IsPeerAfter (s : Scene) (sealed : CommandMap) (p q : Peer) (cs : List Command) : Type 0 where
  pub player : q.player ≡ p.player
  pub later : CommandMap
  pub has : HasSealed s later q
  pub all : merge later q.commands ≡ put_all (merge sealed p.commands) cs

-- a peer that has sealed nothing more
with_more : (s : Scene) (sealed : CommandMap) (p q : Peer) (cs : List Command) → HasSealed s sealed p
    → q.player ≡ p.player → q.horizon ≡ p.horizon → q.base ≡ p.base → q.commands ≡ put_all p.commands cs
    → (IsFrom p.horizon p.commands → IsFrom p.horizon q.commands) → IsPeerAfter s sealed p q cs
with_more s sealed p q cs has player horizon base commands from = record {
  player = player;
  later = sealed;
  has = sealed_stays s sealed p q has horizon base (subst (λ h. IsFrom h q.commands) (sym horizon) (from has.from));
  all = ap (merge sealed) commands ∙ merge-put_all sealed p.commands cs;
}

brought : {A : Type 0} (s : Scene) (sealed : CommandMap) (p : Peer) (cs : List Command) (r : Result (A × Peer) Refusal) (reply : A → Reply)
    → HasSealed s sealed p → Brings p cs r → IsPeerAfter s sealed p (reply_and_peer reply p r).1 (if_taken r cs)
brought s sealed p cs r reply has brings =
    with_more s sealed p (reply_and_peer reply p r).1 (if_taken r cs) has
    (brings.player reply) (brings.horizon reply) (brings.base reply) (brings.commands reply) (brings.from reply)

same_after_none : (s : Scene) (sealed : CommandMap) (p : Peer) → HasSealed s sealed p → IsPeerAfter s sealed p p []
same_after_none s sealed p has = with_more s sealed p p [] has refl refl refl refl (λ from. from)

-- a seal moves commands from what is held to what is sealed
sealed_more : (s : Scene) (sealed : CommandMap) (p : Peer) (peer tick : ℕ) → HasSealed s sealed p
    → IsPeerAfter s sealed p (reply_and_peer (λ done. Sealed peer tick) p (seal s p tick)).1 []
sealed_more s sealed p peer tick has = by (seal s p tick) refl
  where
    by : (r : Result (Unit {0} × Peer) Refusal) → seal s p tick ≡ r → IsPeerAfter s sealed p (reply_and_peer (λ done. Sealed peer tick) p r).1 []
    by (Err refusal) is = same_after_none s sealed p has
    by (Ok after) is =
        let same : after.1 ≡ sealed_peer s p tick = sym (is_sealed s p after.1 tick is).peer in
        record {
          player = ap (λ (q : Peer). q.player) same;
          later = merge sealed (commands_before tick p.commands);
          has = seal_seals s sealed p after.1 tick has is;
          all =
              ap (λ (q : Peer). merge (merge sealed (commands_before tick p.commands)) q.commands) same
              ∙ merge_assoc sealed (commands_before tick p.commands) (commands_from tick p.commands)
              ∙ ap (merge sealed) (before-merge-from tick p.commands);
        }

-- the peer of an event after it
peer_after_one : (s : Scene) (sealed : CommandMap) (q p : Peer) (event : Event) → HasSealed s sealed p
    → IsPeerAfter s sealed p (peer_answer s q p event).1 (new_commands s q p event)
unfolding peer_answer
peer_after_one s sealed q p (Issue peer payload) has = brought s sealed p _ (issue s p payload) (λ frame. Issued peer frame) has (issues s p payload)
peer_after_one s sealed q p (Take peer (Ok c)) has = brought s sealed p _ (put s p c) (λ outcome. Took peer outcome) has (puts s p c)
peer_after_one s sealed q p (Take peer (Err fault)) has = same_after_none s sealed p has
peer_after_one s sealed q p (Merge peer other) has = by (other == peer)
  where
    by : (b : Bool) → IsPeerAfter s sealed p (if b then (Merged peer 0, p) else reply_and_peer (λ count. Merged peer count) p (merge_of s p q)).1
        (if b then [] else if_taken (merge_of s p q) (listed_commands q.commands))
    by true = same_after_none s sealed p has
    by false = brought s sealed p _ (merge_of s p q) (λ count. Merged peer count) has (merges s p q)
peer_after_one s sealed q p (Advance peer ticks) has =
    subst (IsPeerAfter s sealed p (reply_and_peer (λ reached. Advanced peer reached) p (advance p ticks)).1) (none_taken (advance p ticks))
    (brought s sealed p [] (advance p ticks) (λ reached. Advanced peer reached) has (advances p ticks))
  where
    none_taken : {A : Type 0} (r : Result A Refusal) → if_taken r [] ≡ []
    none_taken (Ok answer) = refl
    none_taken (Err refusal) = refl
peer_after_one s sealed q p (Settle peer) has = same_after_none s sealed p has
peer_after_one s sealed q p (Show peer tick) has = same_after_none s sealed p has
peer_after_one s sealed q p (Seal peer tick) has = sealed_more s sealed p peer tick has

-- ---- one peer of a session

-- the peer of an event is the one that answered
pub asked_peer : (s : Session) (event : Event) → event_peer event < length s.peers
    → peer_in (session_after s event) (event_peer event) ≡ (peer_answer s.scene (other_peer_at s event) (peer_in s (event_peer event)) event).1
asked_peer s event h =
    get_or-set_same s.peers (event_peer event) (peer_answer s.scene (other_peer_at s event) (peer_in s (event_peer event)) event).1 (new_peer s.scene 0) h

-- any other stays
pub other_peer : (s : Session) (event : Event) (i : ℕ) → i ≢ event_peer event → peer_in (session_after s event) i ≡ peer_in s i
other_peer s event i other =
    get_or-set_other s.peers (event_peer event) i (peer_answer s.scene (other_peer_at s event) (peer_in s (event_peer event)) event).1 (new_peer s.scene 0) other

-- the commands that one event brings to a peer
abbrev commands_by : Session → ℕ → Event → List Command
commands_by s i event = if event_peer event == i then new_commands s.scene (other_peer_at s event) (peer_in s i) event else []

pub peer_after : (s : Session) (sealed : CommandMap) (event : Event) (i : ℕ) → i < length s.peers → HasSealed s.scene sealed (peer_in s i)
    → IsPeerAfter s.scene sealed (peer_in s i) (peer_in (session_after s event) i) (commands_by s i event)
peer_after s sealed event i h has = by (event_peer event == i) refl
  where
    by : (b : Bool) → (event_peer event == i) ≡ b
        → IsPeerAfter s.scene sealed (peer_in s i) (peer_in (session_after s event) i) (if b then new_commands s.scene (other_peer_at s event) (peer_in s i) event else [])
    by true test =
        let same : event_peer event ≡ i = grind (arith, nat_tests) in
        let p : Peer = peer_in s i in
        let other : Peer = other_peer_at s event in
        let asked : peer_in (session_after s event) i ≡ (peer_answer s.scene other p event).1 =
        ap (λ (k : ℕ). peer_in (session_after s event) k) (sym same)
        ∙ asked_peer s event (omega (arith, same))
        ∙ ap (λ (k : ℕ). (peer_answer s.scene other (peer_in s k) event).1) same in
        subst (λ (q : Peer). IsPeerAfter s.scene sealed p q (new_commands s.scene other p event)) (sym asked)
        (peer_after_one s.scene sealed other p event has)
    by false test =
        let other : i ≢ event_peer event = λ same. grind (arith, nat_tests) in
        let stays = other_peer s event i other in
        subst (λ (q : Peer). IsPeerAfter s.scene sealed (peer_in s i) q []) (sym stays) (same_after_none s.scene sealed (peer_in s i) has)

put_all-append : (m : CommandMap) (cs ds : List Command) → put_all m (cs ++ ds) ≡ put_all (put_all m cs) ds
put_all-append m [] ds = refl
put_all-append m (c ∷ cs) ds = put_all-append (merge m (singleton c.name c.payload)) cs ds

-- ---- a list of events

pub length-session_after_all : (s : Session) (events : List Event) → length (session_after_all s events).peers ≡ length s.peers
unfolding session_after_all
length-session_after_all s [] = refl
length-session_after_all s (event ∷ events) =
    length-session_after_all (session_after s event) events ∙ length-session_after s event

pub scene-session_after_all : (s : Session) (events : List Event) → (session_after_all s events).scene ≡ s.scene
unfolding session_after_all
scene-session_after_all s [] = refl
scene-session_after_all s (event ∷ events) = scene-session_after_all (session_after s event) events

pub peer_after_all : (s : Session) (sealed : CommandMap) (events : List Event) (i : ℕ) → i < length s.peers → HasSealed s.scene sealed (peer_in s i)
    → IsPeerAfter s.scene sealed (peer_in s i) (peer_in (session_after_all s events) i) (commands_for s i events)
unfolding session_after_all commands_for
peer_after_all s sealed [] i h has = same_after_none s.scene sealed (peer_in s i) has
peer_after_all s sealed (event ∷ events) i h has =
    let first = peer_after s sealed event i h has in
    let rest = peer_after_all (session_after s event) first.later events i (omega (arith, length-session_after s event)) first.has in
    record {
      player = rest.player ∙ first.player;
      later = rest.later;
      has = rest.has;
      all =
          rest.all ∙ ap (λ m. put_all m (commands_for (session_after s event) i events)) first.all
          ∙ sym (put_all-append (merge sealed (peer_in s i).commands) (commands_by s i event) (commands_for (session_after s event) i events));
    }

-- ---- equal sessions

pub same_peer : (p q : Peer) → p.player ≡ q.player → p.horizon ≡ q.horizon → p.base ≡ q.base → p.commands ≡ q.commands → p.reached ≡ q.reached → p ≡ q
same_peer p q player horizon base commands reached = λ i. record {
  player = player i;
  horizon = horizon i;
  base = base i;
  commands = commands i;
  reached = reached i;
}

pub same_session : (s t : Session) → s.scene ≡ t.scene → length s.peers ≡ length t.peers
    → ((i : ℕ) → i < length s.peers → peer_in s i ≡ peer_in t i) → s ≡ t
same_session s t scene count same =
    let peers : s.peers ≡ t.peers =
    ext_get_or (new_peer s.scene 0) s.peers t.peers count
    (λ i h. same i h ∙ ap (λ (of : Scene). slice_index_or t.peers i (new_peer of 0)) (sym scene)) in
    λ i. record { scene = scene i; peers = peers i }
