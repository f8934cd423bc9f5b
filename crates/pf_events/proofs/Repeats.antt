-- A settle, a frame that is taken again and a map that is merged again change nothing.
use Rattle.std.proofs.Common.{◌≡◌, ◌≢◌, ◌∙◌, ℕ, ◌<◌, ◌≤◌, ◌==◌, nat_lt, if◌then◌else◌, Bool, true, false, cond, List, [], ◌∷◌, length, Some, Result, Ok, Err, refl, ap, sym, subst, arith}
use Rattle.std.proofs.lemmas.Bool.Decides.{nat_tests}
use Rattle.std.specs.Cmp.{eq_by_cmp_equiv}
use Rattle.std.specs.FinMap.{get, get-insert, entries}
use Rattle.pf_shapes.specs.Scene.{Scene}
use Rattle.pf_commands.specs.declared.checking.CheckFault.{CheckFault}
use Rattle.pf_commands.specs.declared.fault.FrameFault.{FrameFault}
use Rattle.pf_commands.specs.declared.outcome.Put.{Put}
use Rattle.pf_commands.specs.declared.payload.Command.{Command}
use Rattle.pf_commands.specs.Check.{check, check_all}
use Rattle.pf_commands.specs.Merge.{CommandMap, merge, put_all, singleton}
use Rattle.pf_commands.specs.Ticks.{IsFrom, commands_from, is_from}
use Rattle.pf_commands.specs.Name.{Name}
use Rattle.pf_commands.specs.News.{is_change, is_news, news, put_outcome}
use Rattle.pf_commands.specs.declared.outcome.Put.TheVariants.{Same}
use Rattle.pf_commands.specs.declared.payload.Payload.{Payload}
use Rattle.pf_commands.proofs.Changes.{merge_one-changed}
use Rattle.pf_commands.proofs.Names.{name_cmp_total}
use Rattle.pf_commands.proofs.Since.{IsFrom-is_from, commands_from-IsFrom, commands_from-merge, is_from-IsFrom}
use Rattle.pf_step.specs.World.{same_world}
use Rattle.pf_step.specs.WorldLaws.{Decides-world}
use Rattle.pf_rollback.specs.declared.error.Refusal.{Refusal}
use Rattle.pf_rollback.specs.declared.error.Refusal.TheVariants.{BasesDiffer, HorizonsDiffer, TooOld}
use Rattle.pf_rollback.specs.Peer.{Peer, advance, if_allowed, issue, merge_map, merge_sealed, put, seal, with_command, with_commands}
use Rattle.pf_rollback.proofs.Seals.{is_sealed}
use Rattle.pf_events.specs.declared.event.Event.{Event}
use Rattle.pf_events.specs.declared.event.Event.TheVariants.{Issue, Take, Merge, Advance, Settle, Show, Seal}
use Rattle.pf_events.specs.declared.event.Reply.{Reply}
use Rattle.pf_events.specs.declared.event.Reply.TheVariants.{Issued, Took, Merged, Advanced, Sealed}
use Rattle.pf_events.specs.Laws.{if_taken}
use Rattle.pf_events.specs.Session.{Session, merge_of, other_peer_at, peer_answer, peer_in, event_peer, replies_to, reply_and_peer, reply_to, session_after, session_after_all}
use Rattle.pf_events.proofs.Calls.{Brings, advances, asked_peer, issues, merges, other_peer, puts, scene-session_after_all}
use Rattle.pf_events.proofs.Horizons.{IsFrom-earlier, IsFrom-singleton, commands_from-later}
use Rattle.pf_events.proofs.Maps.{Absorbs, absorbs_merged, absorbs_more}
use Rattle.pf_events.proofs.Refusals.{same_after}
use Rattle.pf_events.proofs.Sessions.{length-session_after}
use Rattle.pf_commands.proofs.Lists.{put_all-keeps}

settled_peer : (s : Scene) (q p : Peer) (i : ℕ) → (peer_answer s q p (Settle i)).1 ≡ p
unfolding peer_answer
settled_peer s q p i = refl

pub settle_changes_nothing : (s : Session) (i : ℕ) (later : List Event) → replies_to (session_after s (Settle i)) later ≡ replies_to s later
settle_changes_nothing s i later =
    ap (λ (t : Session). replies_to t later) (same_after s (Settle i) (settled_peer s.scene (other_peer_at s (Settle i)) (peer_in s i) i))

-- ---- what a peer still has

-- a peer has, of these commands, those that are not before its horizon
abbrev pub HasLater : Peer → CommandMap → Type 0
HasLater q m = Absorbs q.commands (commands_from q.horizon m)

-- q is a peer after p: its horizon is not before, and of what p has it has what is not before that
record IsOn (p q : Peer) : Type 0 where
  horizon : p.horizon ≤ q.horizon
  has : (m : CommandMap) → HasLater p m → HasLater q m

on_itself : (p : Peer) → IsOn p p
on_itself p = record { horizon = omega arith; has = λ m has. has }

on_more : (p q r : Peer) → IsOn p q → IsOn q r → IsOn p r
on_more p q r first second = record {
  horizon = let a = first.horizon in let b = second.horizon in omega arith;
  has = λ m has. second.has m (first.has m has);
}

-- after commands were brought
on_brought : {A : Type 0} (p : Peer) (cs : List Command) (r : Result (A × Peer) Refusal) (reply : A → Reply) → Brings p cs r
    → IsOn p (reply_and_peer reply p r).1
on_brought p cs r reply brings =
    let q = (reply_and_peer reply p r).1 in
    let same = brings.horizon reply in record {
      horizon = omega (arith, same);
      has = λ m has. rw (same, brings.commands reply)
          (absorbs_more (put_all p.commands (if_taken r cs)) p.commands (commands_from p.horizon m) (put_all-keeps p.commands (if_taken r cs)) has);
    }

-- after a seal
on_sealed : (s : Scene) (p : Peer) (peer tick : ℕ) → IsOn p (reply_and_peer (λ done. Sealed peer tick) p (seal s p tick)).1
on_sealed s p peer tick = by (seal s p tick) refl
  where
    by : (r : Result (Unit {0} × Peer) Refusal) → seal s p tick ≡ r → IsOn p (reply_and_peer (λ done. Sealed peer tick) p r).1
    by (Err refusal) is = on_itself p
    by (Ok after) is =
        let sealed = is_sealed s p after.1 tick is in
        let low = sealed.held.later in
        subst (λ (q : Peer). IsOn p q) sealed.peer (record {
          horizon = low;
          has = λ m has.
              ap (merge (commands_from tick p.commands)) (sym (commands_from-later p.horizon tick m low))
              ∙ sym (commands_from-merge tick p.commands (commands_from p.horizon m))
              ∙ ap (commands_from tick) has;
        })

on_answer : (s : Scene) (q p : Peer) (event : Event) → IsOn p (peer_answer s q p event).1
unfolding peer_answer
on_answer s q p (Issue peer payload) = on_brought p _ (issue s p payload) (λ frame. Issued peer frame) (issues s p payload)
on_answer s q p (Take peer (Ok c)) = on_brought p _ (put s p c) (λ outcome. Took peer outcome) (puts s p c)
on_answer s q p (Take peer (Err fault)) = on_itself p
on_answer s q p (Merge peer other) = by (other == peer)
  where
    by : (b : Bool) → IsOn p (if b then (Merged peer 0, p) else reply_and_peer (λ count. Merged peer count) p (merge_of s p q)).1
    by true = on_itself p
    by false = on_brought p _ (merge_of s p q) (λ count. Merged peer count) (merges s p q)
on_answer s q p (Advance peer ticks) = on_brought p [] (advance p ticks) (λ reached. Advanced peer reached) (advances p ticks)
on_answer s q p (Settle peer) = on_itself p
on_answer s q p (Show peer tick) = on_itself p
on_answer s q p (Seal peer tick) = on_sealed s p peer tick

on_event : (s : Session) (event : Event) (i : ℕ) → i < length s.peers → IsOn (peer_in s i) (peer_in (session_after s event) i)
on_event s event i within = by (event_peer event == i) refl
  where
    by : (b : Bool) → (event_peer event == i) ≡ b → IsOn (peer_in s i) (peer_in (session_after s event) i)
    by true test =
        let same : event_peer event ≡ i = grind (arith, nat_tests) in
        subst (λ (k : ℕ). IsOn (peer_in s k) (peer_in (session_after s event) k)) same
        (subst (λ (q : Peer). IsOn (peer_in s (event_peer event)) q) (sym (asked_peer s event (omega (arith, same))))
        (on_answer s.scene (other_peer_at s event) (peer_in s (event_peer event)) event))
    by false test =
        let other : i ≢ event_peer event = λ same. grind (arith, nat_tests) in
        subst (λ (q : Peer). IsOn (peer_in s i) q) (sym (other_peer s event i other)) (on_itself (peer_in s i))

on_events : (s : Session) (events : List Event) (i : ℕ) → i < length s.peers → IsOn (peer_in s i) (peer_in (session_after_all s events) i)
unfolding session_after_all
on_events s [] i within = on_itself (peer_in s i)
on_events s (event ∷ events) i within =
    on_more (peer_in s i) (peer_in (session_after s event) i) (peer_in (session_after_all (session_after s event) events) i)
    (on_event s event i within) (on_events (session_after s event) events i (omega (arith, length-session_after s event)))

-- ---- a frame that is taken again

-- a call of which a peer already holds all commands leaves the peer as it was
with_same : (q : Peer) (m : CommandMap) → Absorbs q.commands m → record q { commands = merge q.commands m } ≡ q
with_same q m same = ap (λ (k : CommandMap). record q { commands = k }) same

-- A command that p took, or that it refused, is either refused by a later peer, or the later peer
-- has it.
late_again : (p q : Peer) (c : Command) (before : Put) → IsOn (reply_and_peer (λ outcome. Took 0 outcome) p
    (if nat_lt c.name.tick p.horizon then Err (TooOld p.horizon) else Ok (before, with_command p c))).1 q
    → nat_lt c.name.tick q.horizon ≡ false → Absorbs q.commands (singleton c.name c.payload)
late_again p q c before on late = by (nat_lt c.name.tick p.horizon) refl on
  where
    one : CommandMap
    one = singleton c.name c.payload

    at : q.horizon ≤ c.name.tick
    at = grind (arith, nat_tests)

    by : (b : Bool) → nat_lt c.name.tick p.horizon ≡ b
        → IsOn (reply_and_peer (λ outcome. Took 0 outcome) p (if b then Err (TooOld p.horizon) else Ok (before, with_command p c))).1 q
        → Absorbs q.commands one
    by true early on = absurd (let low = on.horizon in grind (arith, nat_tests))
    by false early on =
        let here : p.horizon ≤ c.name.tick = grind (arith, nat_tests) in
        let had : HasLater (with_command p c) one =
        ap (merge (merge p.commands one)) (commands_from-IsFrom p.horizon one (IsFrom-singleton p.horizon c.name c.payload here)) ∙ absorbs_merged p.commands one in
        let has : HasLater q one = on.has one had in
        ap (merge q.commands) (sym (commands_from-IsFrom q.horizon one (IsFrom-singleton q.horizon c.name c.payload at))) ∙ has

put_again : (p q : Peer) (c : Command) (peer : ℕ) (before after : Put) (checked : Result (Unit {0}) CheckFault)
    → IsOn (reply_and_peer (λ outcome. Took 0 outcome) p
    (if_allowed checked (if nat_lt c.name.tick p.horizon then Err (TooOld p.horizon) else Ok (before, with_command p c)))).1 q
    → (reply_and_peer (λ outcome. Took peer outcome) q
    (if_allowed checked (if nat_lt c.name.tick q.horizon then Err (TooOld q.horizon) else Ok (after, with_command q c)))).1 ≡ q
put_again p q c peer before after (Err fault) on = refl
put_again p q c peer before after (Ok done) on = by (nat_lt c.name.tick q.horizon) refl
  where
    by : (b : Bool) → nat_lt c.name.tick q.horizon ≡ b
        → (reply_and_peer (λ outcome. Took peer outcome) q (if b then Err (TooOld q.horizon) else Ok (after, with_command q c))).1 ≡ q
    by true early = refl
    by false late = with_same q (singleton c.name c.payload) (late_again p q c before on late)

-- the reply's name for the peer is in no later peer
same_on : {A : Type 0} (p q : Peer) (r : Result (A × Peer) Refusal) (one other : A → Reply) → IsOn (reply_and_peer one p r).1 q → IsOn (reply_and_peer other p r).1 q
same_on p q (Ok answer) one other on = on
same_on p q (Err refusal) one other on = on

take_again : (s : Scene) (r u p q : Peer) (i : ℕ) (frame : Result Command FrameFault)
    → IsOn (peer_answer s r p (Take i frame)).1 q → (peer_answer s u q (Take i frame)).1 ≡ q
unfolding peer_answer put
take_again s r u p q i (Ok c) on =
    put_again p q c i (put_outcome (get p.commands c.name) c.payload) (put_outcome (get q.commands c.name) c.payload) (check s c.name c.payload)
    (same_on p q (put s p c) (λ outcome. Took i outcome) (λ outcome. Took 0 outcome) on)
take_again s r u p q i (Err fault) on = refl

-- the payload that is held is no news
same_again : (p : Payload) → is_change (put_outcome (Some p) p) ≡ false
same_again p = grind (arith, nat_tests)

-- a command that a map absorbs is no news to it
no_news : (m : CommandMap) (n : Name) (p : Payload) → Absorbs m (singleton n p)
    → is_change (put_outcome (get m n) p) ≡ false
no_news m n p absorbs = by (is_news m (n, p)) refl
  where
    held : is_news m (n, p) ≡ true → get m n ≡ Some p
    held fresh =
        ap (λ (k : CommandMap). get k n) (sym absorbs ∙ merge_one-changed m n p fresh)
        ∙ get-insert name_cmp_total m n p n
        ∙ ap (λ t. cond t (Some p) (get m n)) ((eq_by_cmp_equiv name_cmp_total).refl n)

    by : (b : Bool) → is_news m (n, p) ≡ b → is_change (put_outcome (get m n) p) ≡ false
    by false e = e
    by true e = ap (λ o. is_change (put_outcome o p)) (held e) ∙ same_again p

-- the outcome in a reply to a frame that is taken
abbrev outcome_in : Reply → Put
outcome_in (Took peer put) = put
outcome_in reply = Same

reply_again : (p q : Peer) (c : Command) (i : ℕ) (before put : Put) (checked : Result (Unit {0}) CheckFault)
    → IsOn (reply_and_peer (λ outcome. Took 0 outcome) p
    (if_allowed checked (if nat_lt c.name.tick p.horizon then Err (TooOld p.horizon) else Ok (before, with_command p c)))).1 q
    → (reply_and_peer (λ outcome. Took i outcome) q
    (if_allowed checked (if nat_lt c.name.tick q.horizon then Err (TooOld q.horizon)
    else Ok (put_outcome (get q.commands c.name) c.payload, with_command q c)))).0 ≡ Took i put
    → is_change put ≡ false
reply_again p q c i before put (Err fault) on same = ap (λ r. is_change (outcome_in r)) (sym same)
reply_again p q c i before put (Ok done) on same = by (nat_lt c.name.tick q.horizon) refl same
  where
    outcome : Put
    outcome = put_outcome (get q.commands c.name) c.payload

    by : (b : Bool) → nat_lt c.name.tick q.horizon ≡ b
        → (reply_and_peer (λ outcome. Took i outcome) q (if b then Err (TooOld q.horizon) else Ok (outcome, with_command q c))).0 ≡ Took i put
        → is_change put ≡ false
    by true early same = ap (λ r. is_change (outcome_in r)) (sym same)
    by false late same =
        ap (λ r. is_change (outcome_in r)) (sym same) ∙ no_news q.commands c.name c.payload (late_again p q c before on late)

-- ---- a map that is merged again

-- a map that p merged, or refused, is either refused by a later peer, or the later peer has it
map_again : (p q : Peer) (m : CommandMap) (before : ℕ) → IsOn (reply_and_peer (λ count. Merged 0 count) p
    (if is_from p.horizon m then Ok (before, with_commands p m) else Err (TooOld p.horizon))).1 q
    → is_from q.horizon m ≡ true → Absorbs q.commands m
map_again p q m before on late = by (is_from p.horizon m) refl on
  where
    from : IsFrom q.horizon m
    from = is_from-IsFrom q.horizon m late

    by : (b : Bool) → is_from p.horizon m ≡ b
        → IsOn (reply_and_peer (λ count. Merged 0 count) p (if b then Ok (before, with_commands p m) else Err (TooOld p.horizon))).1 q
        → Absorbs q.commands m
    by true here on =
        let had : HasLater (with_commands p m) m =
        ap (merge (merge p.commands m)) (commands_from-IsFrom p.horizon m (is_from-IsFrom p.horizon m here)) ∙ absorbs_merged p.commands m in
        ap (merge q.commands) (sym (commands_from-IsFrom q.horizon m from)) ∙ on.has m had
    by false early on =
        let also : is_from p.horizon m ≡ true = IsFrom-is_from p.horizon m (IsFrom-earlier p.horizon q.horizon m on.horizon from) in
        absurd (let bad : true ≡ false = sym also ∙ early in cc)

merge_checked : (p q : Peer) (m : CommandMap) (peer before after : ℕ) (checked : Result (Unit {0}) CheckFault)
    → IsOn (reply_and_peer (λ count. Merged 0 count) p
    (if_allowed checked (if is_from p.horizon m then Ok (before, with_commands p m) else Err (TooOld p.horizon)))).1 q
    → (reply_and_peer (λ count. Merged peer count) q
    (if_allowed checked (if is_from q.horizon m then Ok (after, with_commands q m) else Err (TooOld q.horizon)))).1 ≡ q
merge_checked p q m peer before after (Err fault) on = refl
merge_checked p q m peer before after (Ok done) on = by (is_from q.horizon m) refl
  where
    by : (b : Bool) → is_from q.horizon m ≡ b
        → (reply_and_peer (λ count. Merged peer count) q (if b then Ok (after, with_commands q m) else Err (TooOld q.horizon))).1 ≡ q
    by true late = with_same q m (map_again p q m before on late)
    by false early = refl

-- of two tests of horizons and worlds, where the first peer passed both
sealed_again : (s : Scene) (r p q : Peer) (peer : ℕ) → p.horizon ≡ r.horizon → p.base ≡ r.base
    → IsOn (reply_and_peer (λ count. Merged 0 count) p (merge_of s p r)).1 q
    → (reply_and_peer (λ count. Merged peer count) q (merge_of s q r)).1 ≡ q
unfolding merge_sealed merge_map
sealed_again s r p q peer horizon base on =
    by (q.horizon == r.horizon) (same_world q.base r.base)
  where
    same : (p.horizon == r.horizon) ≡ true
    same = grind (arith, nat_tests)

    world : same_world p.base r.base ≡ true
    world = (Decides-world p.base r.base).1 base

    inner : Peer → Result (ℕ × Peer) Refusal
    inner x = if_allowed (check_all s (entries r.commands))
        (if is_from x.horizon r.commands then Ok (length (news x.commands r.commands), with_commands x r.commands) else Err (TooOld x.horizon))

    by : (b c : Bool) → (reply_and_peer (λ count. Merged peer count) q
        (if b then (if c then inner q else Err BasesDiffer) else Err (HorizonsDiffer q.horizon r.horizon))).1 ≡ q
    by true true =
        merge_checked p q r.commands peer (length (news p.commands r.commands)) (length (news q.commands r.commands)) (check_all s (entries r.commands))
        (rw (same, world) at on)
    by true false = refl
    by false c = refl

-- u is r later, when it has sealed and holds the same
merge_again : (s : Scene) (r u p q : Peer) (i j : ℕ) → p.horizon ≡ r.horizon → p.base ≡ r.base
    → u.horizon ≡ r.horizon → u.base ≡ r.base → u.commands ≡ r.commands
    → IsOn (peer_answer s r p (Merge i j)).1 q → (peer_answer s u q (Merge i j)).1 ≡ q
unfolding peer_answer
merge_again s r u p q i j horizon base same_horizon same_base same_commands = by (j == i)
  where
    call : Peer → Peer → Reply × Peer
    call x y = reply_and_peer (λ count. Merged i count) x (merge_of s x y)

    by : (b : Bool) → IsOn (if b then (Merged i 0, p) else call p r).1 q → (if b then (Merged i 0, q) else call q u).1 ≡ q
    by true on = refl
    by false on =
        rw (same_horizon, same_base, same_commands)
        (sealed_again s r p q i horizon base (same_on p q (merge_of s p r) (λ count. Merged i count) (λ count. Merged 0 count) on))

-- ---- a session

-- a peer after an event and others
still_on : (s : Session) (event : Event) (between : List Event) → event_peer event < length s.peers
    → IsOn (peer_answer s.scene (other_peer_at s event) (peer_in s (event_peer event)) event).1
    (peer_in (session_after_all (session_after s event) between) (event_peer event))
still_on s event between within =
    let i = event_peer event in
    let t = session_after s event in
    subst (λ (p : Peer). IsOn p (peer_in (session_after_all t between) i)) (asked_peer s event within)
    (on_events t between i (omega (arith, length-session_after s event)))

pub taken_again : (s : Session) (i : ℕ) (frame : Result Command FrameFault) (between later : List Event) → i < length s.peers
    → let t = session_after_all (session_after s (Take i frame)) between in
    replies_to (session_after t (Take i frame)) later ≡ replies_to t later
taken_again s i frame between later within =
    let event = Take i frame in
    let t = session_after_all (session_after s event) between in
    let same_scene : t.scene ≡ s.scene = scene-session_after_all (session_after s event) between in
    let again = take_again s.scene (other_peer_at s event) (other_peer_at t event) (peer_in s i) (peer_in t i) i frame (still_on s event between within) in
    ap (λ (u : Session). replies_to u later) (same_after t event
    (subst (λ (scene : Scene). (peer_answer scene (other_peer_at t event) (peer_in t i) event).1 ≡ peer_in t i) (sym same_scene) again))

pub merged_again : (s : Session) (i j : ℕ) (between later : List Event) → i < length s.peers
    → (peer_in s i).horizon ≡ (peer_in s j).horizon → (peer_in s i).base ≡ (peer_in s j).base
    → let t = session_after_all (session_after s (Merge i j)) between in
    (peer_in t j).horizon ≡ (peer_in s j).horizon → (peer_in t j).base ≡ (peer_in s j).base
    → (peer_in t j).commands ≡ (peer_in s j).commands → replies_to (session_after t (Merge i j)) later ≡ replies_to t later
merged_again s i j between later within horizon base same_horizon same_base same_commands =
    let event = Merge i j in
    let t = session_after_all (session_after s event) between in
    let same_scene : t.scene ≡ s.scene = scene-session_after_all (session_after s event) between in
    let again = merge_again s.scene (peer_in s j) (peer_in t j) (peer_in s i) (peer_in t i) i j horizon base same_horizon same_base same_commands
    (still_on s event between within) in
    ap (λ (u : Session). replies_to u later) (same_after t event
    (subst (λ (scene : Scene). (peer_answer scene (other_peer_at t event) (peer_in t i) event).1 ≡ peer_in t i) (sym same_scene) again))

pub taken_again_is_no_news : (s : Session) (i : ℕ) (c : Command) (between : List Event) (put : Put) → i < length s.peers
    → let t = session_after_all (session_after s (Take i (Ok c))) between in
    reply_to t (Take i (Ok c)) ≡ Took i put → is_change put ≡ false
unfolding peer_answer Rattle.pf_rollback.specs.Peer.put
taken_again_is_no_news s i c between put within same =
    let event = Take i (Ok c) in
    let t = session_after_all (session_after s event) between in
    let one_scene : t.scene ≡ s.scene = scene-session_after_all (session_after s event) between in
    let p = peer_in s i in
    reply_again p (peer_in t i) c i (put_outcome (get p.commands c.name) c.payload) put
    (check s.scene c.name c.payload)
    (same_on p (peer_in t i) (Rattle.pf_rollback.specs.Peer.put s.scene p c) (λ outcome. Took i outcome) (λ outcome. Took 0 outcome) (still_on s event between within))
    (subst (λ (scene : Scene). (peer_answer scene (other_peer_at t event) (peer_in t i) event).0 ≡ Took i put) one_scene same)
