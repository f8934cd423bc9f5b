-- What a peer shows of a tick that it has reached.
use Rattle.std.proofs.Common.{◌≡◌, ℕ, ◌<◌, ◌≤◌, List, Result, length, ap, subst, sym, ◌∙◌}
use Rattle.std.specs.FinMap.{get}
use Rattle.pf_shapes.specs.Scene.{Scene}
use Rattle.pf_commands.specs.Merge.{CommandMap, merge, put_all}
use Rattle.pf_commands.specs.Name.{Name}
use Rattle.pf_commands.proofs.Merging.{same_commands}
use Rattle.pf_step.specs.Simulation.{sim}
use Rattle.pf_step.specs.World.{World}
use Rattle.pf_rollback.specs.declared.error.Refusal.{Refusal}
use Rattle.pf_rollback.specs.Peer.{Peer, world_of}
use Rattle.pf_rollback.specs.Horizon.{sim_at}
use Rattle.pf_rollback.specs.Sealing.{HasSealed}
use Rattle.pf_rollback.proofs.Seals.{world_of-sealed}
use Rattle.pf_rollback.proofs.Worlds.{world_at-held}
use Rattle.pf_events.specs.declared.event.Event.{Event}
use Rattle.pf_events.specs.declared.event.Event.TheVariants.{Show}
use Rattle.pf_events.specs.declared.event.Reply.TheVariants.{Shown}
use Rattle.pf_events.specs.Laws.{commands_for}
use Rattle.pf_events.specs.Session.{Session, other_peer_at, peer_answer, peer_in, reply_to, session_after_all, world_reply}
use Rattle.pf_events.proofs.Calls.{peer_after_all, scene-session_after_all}

shown : (s : Scene) (q p : Peer) (i tick : ℕ) → p.horizon ≤ tick → tick ≤ p.reached → (peer_answer s q p (Show i tick)).0 ≡ Shown i tick (world_of s p tick)
unfolding peer_answer
shown s q p i tick low reached =
    ap (λ (r : Result World Refusal). world_reply i tick r) (world_at-held s p tick (record { later = low; reached = reached }))

pub shown_after : (s : Session) (sealed : CommandMap) (events : List Event) (i tick : ℕ) → i < length s.peers → HasSealed s.scene sealed (peer_in s i)
    → (peer_in (session_after_all s events) i).horizon ≤ tick
    → tick ≤ (peer_in (session_after_all s events) i).reached
    → reply_to (session_after_all s events) (Show i tick)
    ≡ Shown i tick (sim s.scene (put_all (merge sealed (peer_in s i).commands) (commands_for s i events)) tick)
shown_after s sealed events i tick within has low reached =
    let t = session_after_all s events in
    let after = peer_after_all s sealed events i within has in
    shown t.scene (other_peer_at t (Show i tick)) (peer_in t i) i tick low reached
    ∙ ap (λ (scene : Scene). Shown i tick (world_of scene (peer_in t i) tick)) (scene-session_after_all s events)
    ∙ ap (λ (w : World). Shown i tick w) (world_of-sealed s.scene after.later (peer_in t i) tick after.has low)
    ∙ ap (λ (m : CommandMap). Shown i tick (sim s.scene m tick)) after.all

-- peers that have sealed and hold the same
same_worlds : (s : Scene) (p q : Peer) (tick : ℕ) → p.horizon ≡ q.horizon → p.base ≡ q.base
    → ((name : Name) → get p.commands name ≡ get q.commands name) → world_of s p tick ≡ world_of s q tick
same_worlds s p q tick horizon base same =
    ap (λ (h : ℕ). sim_at s p.base h p.commands tick) horizon
    ∙ ap (λ (b : World). sim_at s b q.horizon p.commands tick) base
    ∙ ap (λ (m : CommandMap). sim_at s q.base q.horizon m tick) (same_commands p.commands q.commands same)

pub shown_alike : (s : Session) (i j tick : ℕ)
    → (peer_in s i).horizon ≡ (peer_in s j).horizon → (peer_in s i).base ≡ (peer_in s j).base
    → ((name : Name) → get (peer_in s i).commands name ≡ get (peer_in s j).commands name)
    → (peer_in s i).horizon ≤ tick → tick ≤ (peer_in s i).reached → tick ≤ (peer_in s j).reached
    → (world : World) × (reply_to s (Show i tick) ≡ Shown i tick world) × (reply_to s (Show j tick) ≡ Shown j tick world)
shown_alike s i j tick horizon base same low reached_i reached_j = (
  world_of s.scene (peer_in s i) tick,
  shown s.scene (other_peer_at s (Show i tick)) (peer_in s i) i tick low reached_i,
  shown s.scene (other_peer_at s (Show j tick)) (peer_in s j) j tick (subst (λ h. h ≤ tick) horizon low) reached_j
      ∙ ap (λ (w : World). Shown j tick w) (sym (same_worlds s.scene (peer_in s i) (peer_in s j) tick horizon base same)),
)
