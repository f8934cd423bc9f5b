-- The worlds that peers show.
use Rattle.std.proofs.Common.{◌≡◌, ℕ, ◌<◌, ◌≤◌, Bool, true, false, if◌then◌else◌, Result, Ok, Err, refl, ap, ◌∙◌, sym, arith, nat_lt}
use Rattle.std.specs.FinMap.{get}
use Rattle.std.proofs.lemmas.Bool.Decides.{nat_tests}
use Rattle.pf_shapes.specs.Scene.{Scene}
use Rattle.pf_commands.specs.Merge.{CommandMap}
use Rattle.pf_commands.specs.Name.{Name}
use Rattle.pf_commands.proofs.Merging.{same_commands}
use Rattle.pf_step.specs.World.{World}
use Rattle.pf_rollback.specs.declared.error.Refusal.{Refusal}
use Rattle.pf_rollback.specs.declared.error.Refusal.TheVariants.{NotReached, TooOld}
use Rattle.pf_rollback.specs.Horizon.{sim_at}
use Rattle.pf_rollback.specs.Peer.{Peer, if_shown, world_of, world_at}

-- an answer about a tick is given from the horizon to the reached tick
pub record CanShow (p : Peer) (tick : ℕ) : Type 0 where
  pub later : p.horizon ≤ tick
  pub reached : tick ≤ p.reached

pub held_answer : {A : Type 0} (p : Peer) (tick : ℕ) (answer value : A) → if_shown p tick answer ≡ Ok value → CanShow p tick × (answer ≡ value)
held_answer {A} p tick answer value is = by (nat_lt p.reached tick) refl (nat_lt tick p.horizon) refl is
  where
    by : (above : Bool) → nat_lt p.reached tick ≡ above → (before : Bool) → nat_lt tick p.horizon ≡ before
        → ◌≡◌ {A = Result A Refusal} (if above then Err (NotReached p.reached) else (if before then Err (TooOld p.horizon) else Ok answer)) (Ok value)
        → CanShow p tick × (answer ≡ value)
    by true above before old is = absurd cc
    by false above true old is = absurd cc
    by false above false old is = (record { later = grind (arith, nat_tests); reached = grind (arith, nat_tests) }, cc)

pub world_at-held : (s : Scene) (p : Peer) (tick : ℕ) → CanShow p tick → world_at s p tick ≡ Ok (world_of s p tick)
unfolding world_at
world_at-held s p tick is =
    let low = is.later in
    let high = is.reached in
    let reached : nat_lt p.reached tick ≡ false = grind (arith, nat_tests) in
    let later : nat_lt tick p.horizon ≡ false = grind (arith, nat_tests) in
    rw (reached, later) refl

-- at a tick above the reached one
pub world_at-above : (s : Scene) (p : Peer) (tick : ℕ) → p.reached < tick → world_at s p tick ≡ Err (NotReached p.reached)
unfolding world_at
world_at-above s p tick above = let test : nat_lt p.reached tick ≡ true = grind (arith, nat_tests) in rw test refl

-- what is shown at a tick that was reached, by the horizon, the base and the commands
abbrev shown : Scene → ℕ → ℕ → World → CommandMap → Result World Refusal
shown s tick horizon base commands = if nat_lt tick horizon then Err (TooOld horizon) else Ok (sim_at s base horizon commands tick)

world_at-reached : (s : Scene) (p : Peer) (tick : ℕ) → tick ≤ p.reached → world_at s p tick ≡ shown s tick p.horizon p.base p.commands
unfolding world_at
world_at-reached s p tick reached = let test : nat_lt p.reached tick ≡ false = grind (arith, nat_tests) in rw test refl

pub same_worlds : (s : Scene) (p q : Peer) (tick : ℕ) → p.horizon ≡ q.horizon → p.base ≡ q.base
    → ((name : Name) → get p.commands name ≡ get q.commands name)
    → tick ≤ p.reached → tick ≤ q.reached → world_at s p tick ≡ world_at s q tick
same_worlds s p q tick horizons bases same p_reached q_reached =
    world_at-reached s p tick p_reached
    ∙ ap (λ (h : ℕ). shown s tick h p.base p.commands) horizons
    ∙ ap (λ (b : World). shown s tick q.horizon b p.commands) bases
    ∙ ap (λ (m : CommandMap). shown s tick q.horizon q.base m) (same_commands p.commands q.commands same)
    ∙ sym (world_at-reached s q tick q_reached)
