-- The world of a peer at the tick that it has reached.
use Rattle.std.proofs.Common.{◌≡◌, ◌≤◌, ◌∙◌, ℕ, Err, Ok, ap, arith, sym}
use Rattle.pf_shapes.specs.Scene.{Scene}
use Rattle.pf_rollback.specs.Peer.{Peer, world_at, world_of}
use Rattle.pf_rollback.specs.declared.error.Refusal.{Refusal}
use Rattle.pf_rollback.proofs.Worlds.{world_at-held}
use Rattle.pf_step.specs.World.{World}

-- it is the simulation up to that tick
last_is : (s : Scene) (p : Peer) (tick : ℕ) → p.horizon ≤ p.reached → tick ≡ p.reached → world_at s p tick ≡ Ok (world_of s p p.reached)
last_is s p tick low same = ap (world_at s p) same ∙ world_at-held s p p.reached (record { later = low; reached = omega arith })

pub last_shown : (s : Scene) (p : Peer) (tick : ℕ) (world : World) → p.horizon ≤ p.reached → tick ≡ p.reached → world_at s p tick ≡ Ok world
    → world ≡ world_of s p p.reached
last_shown s p tick world low same is = let both = sym is ∙ last_is s p tick low same in cc

pub last_not_refused : (s : Scene) (p : Peer) (tick : ℕ) (refusal : Refusal) → p.horizon ≤ p.reached → tick ≡ p.reached → world_at s p tick ≡ Err refusal → ⊥
last_not_refused s p tick refusal low same is = let both = sym is ∙ last_is s p tick low same in cc
