-- Sessions whose peers are alike reply alike.
use Rattle.std.proofs.Common.{◌≡◌, ℕ, ◌<◌, List, length, ap, ap₂, refl, ◌∙◌, sym, arith}
use Rattle.std.specs.Prelude.{◌↔◌, All, Contains}
use Rattle.std.proofs.lemmas.List.Elements.{All-contains}
use Rattle.pf_commands.specs.declared.payload.Command.{Command}
use Rattle.pf_shapes.specs.Scene.{Scene}
use Rattle.pf_commands.specs.Merge.{CommandMap, IsCommand, IsCommandMap, merge}
use Rattle.pf_commands.specs.Ticks.{commands_from}
use Rattle.pf_step.specs.Simulation.{sim}
use Rattle.pf_rollback.specs.Peer.{Peer}
use Rattle.pf_rollback.specs.Sealing.{HasSealed}
use Rattle.pf_rollback.proofs.Seals.{world_of-sealed}
use Rattle.pf_rollback.proofs.Simulation.{sim_at_horizon}
use Rattle.pf_commands.proofs.Lists.{put_all-same}
use Rattle.pf_commands.proofs.Merging.{same_commands}
use Rattle.pf_events.specs.declared.event.Event.{Event}
use Rattle.pf_events.specs.Laws.{IsAlike, commands_for}
use Rattle.pf_events.specs.Session.{Session, peer_in, replies_to, session_after_all}
use Rattle.pf_events.proofs.Horizons.{held_part}
use Rattle.pf_events.proofs.Calls.{length-session_after_all, peer_after_all, same_peer, same_session, scene-session_after_all}

pub same_replies : (s t : Session) (later : List Event) → s.scene ≡ t.scene → length s.peers ≡ length t.peers
    → ((i : ℕ) → i < length s.peers → IsAlike (peer_in s i) (peer_in t i)) → replies_to s later ≡ replies_to t later
same_replies s t later scene count alike =
    ap (λ (x : Session). replies_to x later) (same_session s t scene count (λ i h.
    let same = alike i h in
    same_peer (peer_in s i) (peer_in t i) same.player same.horizon same.base (same_commands (peer_in s i).commands (peer_in t i).commands same.commands) same.reached))

-- peers that have sealed and hold the same since tick zero, and have the same horizon
same_held : (s : Scene) (sealed others : CommandMap) (p q : Peer) → HasSealed s sealed p → HasSealed s others q → p.horizon ≡ q.horizon
    → merge sealed p.commands ≡ merge others q.commands → p.commands ≡ q.commands
same_held s sealed others p q of_p of_q horizon same =
    held_part p.horizon sealed p.commands of_p.before of_p.from
    ∙ ap₂ commands_from horizon same
    ∙ sym (held_part q.horizon others q.commands of_q.before of_q.from)

-- the world at the horizon is the simulation of all from tick zero
base_is : (s : Scene) (sealed : CommandMap) (p : Peer) → HasSealed s sealed p → p.base ≡ sim s (merge sealed p.commands) p.horizon
base_is s sealed p has =
    sym (sim_at_horizon s p.base p.horizon p.commands p.horizon refl) ∙ world_of-sealed s sealed p p.horizon has (omega arith)

same_base : (s : Scene) (sealed others : CommandMap) (p q : Peer) → HasSealed s sealed p → HasSealed s others q → p.horizon ≡ q.horizon
    → merge sealed p.commands ≡ merge others q.commands → p.base ≡ q.base
same_base s sealed others p q of_p of_q horizon same =
    base_is s sealed p of_p ∙ ap₂ (sim s) same horizon ∙ sym (base_is s others q of_q)

pub same_in_any_order : (s : Session) (sealed : ℕ → CommandMap) (events others later : List Event)
    → ((i : ℕ) → i < length s.peers → HasSealed s.scene (sealed i) (peer_in s i))
    → ((i : ℕ) → i < length s.peers → IsCommandMap (merge (sealed i) (peer_in s i).commands))
    → ((i : ℕ) → i < length s.peers → All IsCommand (commands_for s i events))
    → ((i : ℕ) → i < length s.peers → (c : Command) → Contains (commands_for s i events) c ↔ Contains (commands_for s i others) c)
    → ((i : ℕ) → i < length s.peers → (peer_in (session_after_all s events) i).horizon ≡ (peer_in (session_after_all s others) i).horizon)
    → ((i : ℕ) → i < length s.peers → (peer_in (session_after_all s events) i).reached ≡ (peer_in (session_after_all s others) i).reached)
    → replies_to (session_after_all s events) later ≡ replies_to (session_after_all s others) later
same_in_any_order s sealed events others later has named are same horizons reached =
    let after = session_after_all s events in
    let other = session_after_all s others in
    let scene = scene-session_after_all s events ∙ sym (scene-session_after_all s others) in
    let count : length after.peers ≡ length other.peers =
    length-session_after_all s events ∙ sym (length-session_after_all s others) in
    ap (λ (x : Session). replies_to x later) (same_session after other scene count (λ i h.
    let within : i < length s.peers = omega (arith, length-session_after_all s events) in
    let first = peer_after_all s (sealed i) events i within (has i within) in
    let second = peer_after_all s (sealed i) others i within (has i within) in
    let all : merge first.later (peer_in after i).commands ≡ merge second.later (peer_in other i).commands =
    first.all
    ∙ put_all-same (merge (sealed i) (peer_in s i).commands) (commands_for s i events) (commands_for s i others) (named i within)
    (λ d has. All-contains IsCommand (commands_for s i events) d (are i within) has) (same i within)
    ∙ sym second.all in
    let horizon = horizons i within in
    same_peer (peer_in after i) (peer_in other i) (first.player ∙ sym second.player) horizon
    (same_base s.scene first.later second.later (peer_in after i) (peer_in other i) first.has second.has horizon all)
    (same_held s.scene first.later second.later (peer_in after i) (peer_in other i) first.has second.has horizon all)
    (reached i within)))
