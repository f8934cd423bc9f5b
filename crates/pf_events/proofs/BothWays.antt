-- Two peers that merge each other's commands.
use Rattle.std.proofs.Common.{◌≡◌, ◌≢◌, ℕ, ◌<◌, ◌==◌, T, Bool, true, false, List, [], ◌∷◌, length, Some, Ok, refl, ap, sym, ◌∙◌, subst, arith}
use Rattle.std.specs.FinMap.{entries, entries_sorted, find, get-entries}
use Rattle.std.specs.FinMap.Entries.{is_sorted}
use Rattle.std.proofs.lemmas.Bool.Decides.{nat_tests}
use Rattle.pf_shapes.specs.Scene.{Scene}
use Rattle.pf_commands.specs.Name.{Name}
use Rattle.pf_commands.specs.Check.{check_all, IsAllowed}
use Rattle.pf_commands.specs.Ticks.{IsFrom, is_from}
use Rattle.pf_commands.proofs.Since.{IsFrom-is_from}
use Rattle.pf_commands.specs.Merge.{name_cmp, CommandMap, merge}
use Rattle.pf_commands.specs.declared.payload.Payload.{Payload}
use Rattle.pf_commands.proofs.Merging.{merge_assoc, merge_same}
use Rattle.pf_commands.proofs.Ranges.{AreCommands-merge, merge_comm}
use Rattle.pf_rollback.specs.Core.{AreAllowed}
use Rattle.pf_step.specs.World.{same_world}
use Rattle.pf_step.specs.WorldLaws.{Decides-world}
use Rattle.pf_rollback.specs.Peer.{Peer, merge_map, merge_sealed, with_commands}
use Rattle.pf_rollback.proofs.Allowed.{allowed_merge}
use Rattle.pf_events.specs.declared.event.Event.TheVariants.{Merge}
use Rattle.pf_events.specs.Laws.{IsAllowedPeer}
use Rattle.pf_events.specs.Session.{Session, peer_answer, peer_in, session_after}
use Rattle.pf_events.proofs.Calls.{asked_peer, other_peer}
use Rattle.pf_events.proofs.Maps.{first, second}
use Rattle.pf_events.proofs.Sessions.{length-session_after}
use Rattle.pf_rollback.proofs.Late.{from_merge}
use Rattle.pf_commands.proofs.Lookups.{found_behind, found_first}

-- ---- the entries of a map that the scene allows

checked : (s : Scene) (es : List (Name × Payload)) → T (is_sorted name_cmp es)
    → ((name : Name) (payload : Payload) → find name_cmp name es ≡ Some payload → IsAllowed s (name, payload)) → check_all s es ≡ Ok tt
checked s [] sorted each = refl
checked s (e ∷ es) sorted each =
    rw (each e.0 e.1 (found_first e es))
    (checked s es (second _ _ sorted) (λ name payload found. each name payload (found_behind e es name payload (first _ _ sorted) found)))

map_checked : (s : Scene) (m : CommandMap) → AreAllowed s m → check_all s (entries m) ≡ Ok tt
map_checked s m are = checked s (entries m) (entries_sorted m) (λ name payload found. are name payload (get-entries m name ∙ found))

-- ---- a merge that is not refused

-- a peer that merges another one with the same horizon and the same world there
merged_peer : (s : Scene) (q p : Peer) (i j : ℕ) → j ≢ i → p.horizon ≡ q.horizon → p.base ≡ q.base → AreAllowed s q.commands → IsFrom q.horizon q.commands
    → ◌≡◌ {A = Peer} (peer_answer s q p (Merge i j)).1 (with_commands p q.commands)
unfolding peer_answer merge_map merge_sealed
merged_peer s q p i j two horizon base are from =
    let test : (j == i) ≡ false = grind (arith, nat_tests) in
    let same : (p.horizon == q.horizon) ≡ true = grind (arith, nat_tests) in
    let world : same_world p.base q.base ≡ true = (Decides-world p.base q.base).1 base in
    let late : is_from p.horizon q.commands ≡ true = IsFrom-is_from p.horizon q.commands (subst (λ h. IsFrom h q.commands) (sym horizon) from) in
    let ok = map_checked s q.commands are in
    rw (test, same, world, ok, late) refl

pub merged_both_ways : (s : Session) (i j : ℕ) → i < length s.peers → j < length s.peers
    → IsAllowedPeer s.scene (peer_in s i) → IsAllowedPeer s.scene (peer_in s j)
    → (peer_in s i).horizon ≡ (peer_in s j).horizon → (peer_in s i).base ≡ (peer_in s j).base
    → let t = session_after (session_after s (Merge i j)) (Merge j i) in
    (peer_in t i).commands ≡ (peer_in t j).commands
merged_both_ways s i j in_i in_j are_i are_j horizon base = by (i == j) refl
  where
    u : Session
    u = session_after s (Merge i j)

    t : Session
    t = session_after u (Merge j i)

    m : CommandMap
    m = (peer_in s i).commands

    k : CommandMap
    k = (peer_in s j).commands

    by : (b : Bool) → (i == j) ≡ b → (peer_in t i).commands ≡ (peer_in t j).commands
    by true test = let same : i ≡ j = grind (arith, nat_tests) in ap (λ n. (peer_in t n).commands) same
    by false test =
        let two : i ≢ j = λ same. grind (arith, nat_tests) in
        let back : j ≢ i = λ same. two (sym same) in
        let p : Peer = peer_in s i in
        let q : Peer = peer_in s j in
        let now_i : peer_in u i ≡ with_commands p q.commands =
        asked_peer s (Merge i j) in_i ∙ merged_peer s.scene q p i j back horizon base are_j.allowed are_j.from in
        let now_j : peer_in u j ≡ q = other_peer s (Merge i j) j back in
        let still_i : (peer_in t i).commands ≡ merge m k = ap (λ (x : Peer). x.commands) (other_peer u (Merge j i) i two ∙ now_i) in
        let are : AreAllowed s.scene (peer_in u i).commands =
        subst (λ (x : Peer). AreAllowed s.scene x.commands) (sym now_i) (allowed_merge s.scene m k are_i.allowed (map_checked s.scene k are_j.allowed)) in
        let from : IsFrom (peer_in u i).horizon (peer_in u i).commands =
        subst (λ (x : Peer). IsFrom x.horizon x.commands) (sym now_i)
        (from_merge p.horizon m k are_i.from (subst (λ h. IsFrom h k) (sym horizon) are_j.from)) in
        let one_horizon : (peer_in u j).horizon ≡ (peer_in u i).horizon =
        ap (λ (x : Peer). x.horizon) now_j ∙ sym horizon ∙ ap (λ (x : Peer). x.horizon) (sym now_i) in
        let one_base : (peer_in u j).base ≡ (peer_in u i).base =
        ap (λ (x : Peer). x.base) now_j ∙ sym base ∙ ap (λ (x : Peer). x.base) (sym now_i) in
        let then_j : (peer_in t j).commands ≡ merge k (merge m k) =
        ap (λ (x : Peer). x.commands)
        (asked_peer u (Merge j i) (omega (arith, length-session_after s (Merge i j)))
        ∙ merged_peer u.scene (peer_in u i) (peer_in u j) j i two one_horizon one_base are from)
        ∙ ap (λ (x : Peer). merge x.commands (peer_in u i).commands) now_j ∙ ap (λ (x : Peer). merge k x.commands) now_i in
        still_i ∙ sym (then_j ∙ merge_comm k (merge m k) are_j.ranges (AreCommands-merge m k are_i.ranges are_j.ranges)
        ∙ merge_assoc m k k ∙ ap (merge m) (merge_same k))
