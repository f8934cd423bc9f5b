-- What a seal changes, and what peers that have sealed commands show.
use Rattle.std.proofs.Common.{◌≡◌, ℕ, ◌+◌, ◌<◌, ◌≤◌, ◌⊎◌, inl, inr, ◌==◌, Bool, true, false, cond, if◌then◌else◌, length, map, List, Option, Some, None, Result, Ok, Err, refl, ap, sym, ◌∙◌, subst, ⊎_elim, arith, nat_lt, nat_le}
use Rattle.std.specs.FinMap.{get, get-empty, empty, entries}
use Rattle.std.proofs.lemmas.Bool.{cases_lt}
use Rattle.std.proofs.lemmas.Bool.Decides.{nat_tests}
use Rattle.pf_shapes.specs.Scene.{Scene}
use Rattle.pf_commands.specs.declared.checking.CheckFault.{CheckFault}
use Rattle.pf_commands.specs.declared.fault.FrameFault.{FrameFault}
use Rattle.pf_commands.specs.declared.outcome.Put.{Put}
use Rattle.pf_commands.specs.declared.name.TheConstants.{MAX_TICK, NUMBERS}
use Rattle.pf_commands.specs.declared.payload.Command.{Command}
use Rattle.pf_commands.specs.declared.payload.Payload.{Payload}
use Rattle.pf_commands.specs.Check.{check, check_all}
use Rattle.pf_commands.specs.Frame.{encoding}
use Rattle.pf_commands.specs.Merge.{name_cmp, CommandMap, heaviest_of, merge, payloads_at}
use Rattle.pf_commands.specs.Name.{Name}
use Rattle.pf_commands.specs.News.{news, put_outcome}
use Rattle.pf_commands.specs.Ticks.{IsFrom, commands_before, commands_from, is_from}
use Rattle.pf_commands.proofs.Merging.{get-merge}
use Rattle.pf_commands.proofs.Since.{commands_from-IsFrom, get-commands_before, IsFrom-from, is_from-IsFrom}
use Rattle.pf_commands.proofs.Ticks.{same_part}
use Rattle.pf_commands.proofs.Weights.{heavier_of-none, heavier_of_either}
use Rattle.pf_step.specs.Simulation.{sim}
use Rattle.pf_step.specs.World.{World, same_world}
use Rattle.pf_step.proofs.Ticks.{sim_same}
use Rattle.pf_rollback.specs.declared.error.Refusal.{Refusal}
use Rattle.pf_rollback.specs.declared.error.Refusal.TheVariants.{TickLimit, NumbersSpent, TooOld, HorizonsDiffer, BasesDiffer}
use Rattle.pf_rollback.specs.Peer.{Peer, IsPeer, if_allowed, new_peer, with_command, with_commands, with_frame, next_command, next_number, put, take, issue, merge_map, merge_sealed, advance, world_of, world_at, sealed_peer, seal}
use Rattle.pf_rollback.specs.Sealing.{HasSealed}
use Rattle.pf_rollback.proofs.Late.{from_put, from_merge}
use Rattle.pf_rollback.proofs.Simulation.{sim_at_continued, sim_at_horizon, sim_at_sealed}
use Rattle.pf_rollback.proofs.Worlds.{CanShow, held_answer, world_at-held, world_at-above}

-- ---- the sealed peer

-- a seal of the horizon changes nothing
sealed_again : (s : Scene) (p : Peer) (tick : ℕ) → tick ≡ p.horizon → IsFrom p.horizon p.commands → sealed_peer s p tick ≡ p
sealed_again s p tick at from =
    ap (λ (h : ℕ). sealed_peer s p h) at
    ∙ ap (λ (b : World). record p { base = b; commands = commands_from p.horizon p.commands }) (sim_at_horizon s p.base p.horizon p.commands p.horizon refl)
    ∙ ap (λ (m : CommandMap). record p { commands = m }) (commands_from-IsFrom p.horizon p.commands from)

pub seal_again : (s : Scene) (p : Peer) (tick : ℕ) → tick ≡ p.horizon → IsPeer p → seal s p tick ≡ Ok (tt, p)
unfolding seal
seal_again s p tick at is =
    let low = is.horizon in
    let reached : nat_lt p.reached tick ≡ false = grind (arith, nat_tests) in
    let later : nat_lt tick p.horizon ≡ false = grind (arith, nat_tests) in
    rw (reached, later) (ap (λ (q : Peer). Ok (tt, q)) (sealed_again s p tick at is.from))

-- what was sealed is the sealed peer
pub record IsSealed (s : Scene) (p after : Peer) (tick : ℕ) : Type 0 where
  pub held : CanShow p tick
  pub peer : sealed_peer s p tick ≡ after

pub is_sealed : (s : Scene) (p after : Peer) (tick : ℕ) → seal s p tick ≡ Ok (tt, after) → IsSealed s p after tick
unfolding seal
is_sealed s p after tick sealed =
    let is = held_answer p tick (tt, sealed_peer s p tick) (tt, after) sealed in
    record { held = is.0; peer = ap (λ (answer : Unit {0} × Peer). answer.1) is.1 }

-- its worlds from the sealed tick on
sealed_worlds : (s : Scene) (p : Peer) (tick later : ℕ) → CanShow p tick → tick ≤ later
    → world_at s (sealed_peer s p tick) later ≡ world_at s p later
sealed_worlds s p tick later held after = by (cases_lt p.reached later)
  where
    by : (p.reached < later) ⊎ (later ≤ p.reached) → world_at s (sealed_peer s p tick) later ≡ world_at s p later
    by (inl above) = world_at-above s (sealed_peer s p tick) later above ∙ sym (world_at-above s p later above)
    by (inr reached) =
        let low = held.later in
        world_at-held s (sealed_peer s p tick) later (record { later = after; reached = reached })
        ∙ ap (λ (w : World). Ok w) (sim_at_sealed s p.base p.horizon p.commands tick later low after)
        ∙ sym (world_at-held s p later (record { later = omega arith; reached = reached }))

pub seal_keeps_worlds : (s : Scene) (p after : Peer) (tick later : ℕ) → seal s p tick ≡ Ok (tt, after) → tick ≤ later
    → world_at s after later ≡ world_at s p later
seal_keeps_worlds s p after tick later sealed above =
    let is = is_sealed s p after tick sealed in
    ap (λ (q : Peer). world_at s q later) (sym is.peer) ∙ sealed_worlds s p tick later is.held above

-- ---- what is sealed and what is held

-- maps that hold the same under the names of a tick have the same payloads there
payloads_at-same : (m k : CommandMap) (tick : ℕ) → ((name : Name) → name.tick ≡ tick → get m name ≡ get k name)
    → payloads_at m tick ≡ payloads_at k tick
payloads_at-same m k tick same =
    ap (map (λ e. e.1)) (same_part (λ name. name.tick == tick) m k (λ name at. same name (grind (arith, nat_tests))))

nothing : (held : Option Payload) → ((payload : Payload) → held ≡ Some payload → ⊥) → held ≡ None
nothing None not = refl
nothing (Some payload) not = absurd (not payload refl)

-- before the horizon there is what is sealed
payloads_at-sealed : (s : Scene) (sealed : CommandMap) (p : Peer) (tick : ℕ) → HasSealed s sealed p → tick < p.horizon
    → payloads_at sealed tick ≡ payloads_at (merge sealed p.commands) tick
payloads_at-sealed s sealed p tick has before =
    payloads_at-same sealed (merge sealed p.commands) tick (λ name at.
    let none : get p.commands name ≡ None = nothing (get p.commands name) (λ payload held. let high = has.from name payload held in omega arith) in
    sym (heavier_of-none (get sealed name)) ∙ ap (heaviest_of (get sealed name)) (sym none) ∙ sym (get-merge sealed p.commands name))

-- from the horizon on there is what is held
payloads_at-held : (s : Scene) (sealed : CommandMap) (p : Peer) (tick : ℕ) → HasSealed s sealed p → p.horizon ≤ tick
    → payloads_at p.commands tick ≡ payloads_at (merge sealed p.commands) tick
payloads_at-held s sealed p tick has later =
    payloads_at-same p.commands (merge sealed p.commands) tick (λ name at.
    let none : get sealed name ≡ None = nothing (get sealed name) (λ payload held. let low = has.before name payload held in omega arith) in
    ap (λ (held : Option Payload). heaviest_of held (get p.commands name)) (sym none) ∙ sym (get-merge sealed p.commands name))

pub world_of-sealed : (s : Scene) (sealed : CommandMap) (p : Peer) (tick : ℕ) → HasSealed s sealed p → p.horizon ≤ tick
    → world_of s p tick ≡ sim s (merge sealed p.commands) tick
world_of-sealed s sealed p tick has later =
    sim_at_continued s p.base p.horizon p.commands (merge sealed p.commands) tick later
    (has.base ∙ sim_same s sealed (merge sealed p.commands) p.horizon (λ t before. payloads_at-sealed s sealed p t has before))
    (λ t from. payloads_at-held s sealed p t has from)

pub shown_is_sim : (s : Scene) (sealed : CommandMap) (p : Peer) (tick : ℕ) (world : World) → HasSealed s sealed p → world_at s p tick ≡ Ok world
    → world ≡ sim s (merge sealed p.commands) tick
unfolding world_at
shown_is_sim s sealed p tick world has shown =
    let is = held_answer p tick (world_of s p tick) world shown in
    sym is.1 ∙ world_of-sealed s sealed p tick has is.0.later

-- ---- through calls

pub nothing_sealed : (s : Scene) (player : ℕ) → HasSealed s empty (new_peer s player)
unfolding sim
nothing_sealed s player = record {
  base = refl;
  before = λ name payload held. let none = sym (get-empty name_cmp name) ∙ held in absurd cc;
  from = λ name payload held. omega arith;
}

-- the commands before a tick are those that the map holds there
held_before : (m : CommandMap) (tick : ℕ) (name : Name) → name.tick < tick → get (commands_before tick m) name ≡ get m name
held_before m tick name before =
    let test : nat_lt name.tick tick ≡ true = grind (arith, nat_tests) in
    get-commands_before tick m name ∙ ap (λ b. cond b (get m name) None) test

before_held : (m : CommandMap) (tick : ℕ) (name : Name) (payload : Payload) → get (commands_before tick m) name ≡ Some payload → name.tick < tick
before_held m tick name payload held = by (nat_lt name.tick tick) refl (sym (get-commands_before tick m name) ∙ held)
  where
    by : (b : Bool) → nat_lt name.tick tick ≡ b → cond b (get m name) None ≡ Some payload → name.tick < tick
    by true before held = grind (arith, nat_tests)
    by false after held = absurd cc

sealed_more : (s : Scene) (sealed : CommandMap) (p : Peer) (tick : ℕ) → HasSealed s sealed p → p.horizon ≤ tick
    → HasSealed s (merge sealed (commands_before tick p.commands)) (sealed_peer s p tick)
sealed_more s sealed p tick has later =
    let before = commands_before tick p.commands in
    record {
      base =
          world_of-sealed s sealed p tick has later
          ∙ sim_same s (merge sealed p.commands) (merge sealed before) tick (λ t below.
          payloads_at-same (merge sealed p.commands) (merge sealed before) t (λ name at.
          get-merge sealed p.commands name
          ∙ ap (heaviest_of (get sealed name)) (sym (held_before p.commands tick name (omega arith)))
          ∙ sym (get-merge sealed before name)));
      before = λ name payload held.
          ⊎_elim
          (λ old. let low = has.before name payload old in omega arith)
          (λ new. before_held p.commands tick name payload new)
          (heavier_of_either (get sealed name) (get before name) payload (sym (get-merge sealed before name) ∙ held));
      from = IsFrom-from tick p.commands;
    }

pub seal_seals : (s : Scene) (sealed : CommandMap) (p after : Peer) (tick : ℕ) → HasSealed s sealed p → seal s p tick ≡ Ok (tt, after)
    → HasSealed s (merge sealed (commands_before tick p.commands)) after
seal_seals s sealed p after tick has call =
    let is = is_sealed s p after tick call in
    subst (HasSealed s (merge sealed (commands_before tick p.commands))) is.peer (sealed_more s sealed p tick has is.held.later)

pub sealed_stays : (s : Scene) (sealed : CommandMap) (p after : Peer) → HasSealed s sealed p → after.horizon ≡ p.horizon → after.base ≡ p.base
    → IsFrom after.horizon after.commands → HasSealed s sealed after
sealed_stays s sealed p after has horizon base from = record {
  base = base ∙ has.base ∙ ap (sim s sealed) (sym horizon);
  before = λ name payload held. let low = has.before name payload held in omega arith;
  from = from;
}

-- ---- through calls that take commands

-- where a command is put, it is not before the horizon
put_seals : (s : Scene) (sealed : CommandMap) (p after : Peer) (c : Command) (outcome : Put) → HasSealed s sealed p
    → put s p c ≡ Ok (outcome, after) → HasSealed s sealed after
unfolding put
put_seals s sealed p after c outcome has call = by (check s c.name c.payload) (nat_lt c.name.tick p.horizon) refl call
  where
    by : (r : Result (Unit {0}) CheckFault) (old : Bool) → nat_lt c.name.tick p.horizon ≡ old
        → if_allowed {A = Put × Peer} r (if old then Err (TooOld p.horizon) else Ok (put_outcome (get p.commands c.name) c.payload, with_command p c)) ≡ Ok (outcome, after)
        → HasSealed s sealed after
    by (Err fault) old test call = absurd cc
    by (Ok done) true test call = absurd cc
    by (Ok done) false test call =
        let same : ◌≡◌ {A = Put × Peer} (put_outcome (get p.commands c.name) c.payload, with_command p c) (outcome, after) = cc in
        subst (HasSealed s sealed) (ap (λ (answer : Put × Peer). answer.1) same)
        (sealed_stays s sealed p (with_command p c) has refl refl (from_put p.horizon p.commands c has.from (grind (arith, nat_tests))))

pub take_seals : (s : Scene) (sealed : CommandMap) (p after : Peer) (decoded : Result Command FrameFault) (outcome : Put) → HasSealed s sealed p
    → take s p decoded ≡ Ok (outcome, after) → HasSealed s sealed after
take_seals s sealed p after (Ok c) outcome has call = put_seals s sealed p after c outcome has call
take_seals s sealed p after (Err fault) outcome has call = absurd cc

framed : (s : Scene) (sealed : CommandMap) (p after : Peer) (c : Command) (frame : List ℕ) → HasSealed s sealed p
    → with_frame c (put s p c) ≡ Ok (frame, after) → HasSealed s sealed after
framed s sealed p after c frame has call = by (put s p c) refl call
  where
    by : (r : Result (Put × Peer) Refusal) → put s p c ≡ r → with_frame c r ≡ Ok (frame, after) → HasSealed s sealed after
    by (Err refusal) was call = absurd cc
    by (Ok answer) was call =
        let same : ◌≡◌ {A = List ℕ × Peer} (encoding c, answer.1) (frame, after) = cc in
        subst (HasSealed s sealed) (ap (λ (framed : List ℕ × Peer). framed.1) same) (put_seals s sealed p answer.1 c answer.0 has was)

pub issue_seals : (s : Scene) (sealed : CommandMap) (p after : Peer) (payload : Payload) (frame : List ℕ) → HasSealed s sealed p
    → issue s p payload ≡ Ok (frame, after) → HasSealed s sealed after
unfolding issue
issue_seals s sealed p after payload frame has call =
    by (nat_le MAX_TICK p.reached) (nat_le NUMBERS (next_number p.commands p.reached p.player)) call
  where
    by : (last spent : Bool) → (if last then Err TickLimit else (if spent then Err NumbersSpent
        else with_frame (next_command p payload) (put s p (next_command p payload)))) ≡ Ok (frame, after) → HasSealed s sealed after
    by true spent call = absurd cc
    by false true call = absurd cc
    by false false call = framed s sealed p after (next_command p payload) frame has call

pub merge_seals : (s : Scene) (sealed : CommandMap) (p after : Peer) (other : CommandMap) (count : ℕ) → HasSealed s sealed p
    → merge_map s p other ≡ Ok (count, after) → HasSealed s sealed after
unfolding merge_map
merge_seals s sealed p after other count has call = by (check_all s (entries other)) (is_from p.horizon other) refl call
  where
    by : (r : Result (Unit {0}) CheckFault) (late : Bool) → is_from p.horizon other ≡ late
        → if_allowed {A = ℕ × Peer} r (if late then Ok (length (news p.commands other), with_commands p other) else Err (TooOld p.horizon)) ≡ Ok (count, after)
        → HasSealed s sealed after
    by (Err fault) late test call = absurd cc
    by (Ok done) false test call = absurd cc
    by (Ok done) true test call =
        let same : ◌≡◌ {A = ℕ × Peer} (length (news p.commands other), with_commands p other) (count, after) = cc in
        subst (HasSealed s sealed) (ap (λ (answer : ℕ × Peer). answer.1) same)
        (sealed_stays s sealed p (with_commands p other) has refl refl
        (from_merge p.horizon p.commands other has.from (is_from-IsFrom p.horizon other test)))

pub merge_sealed_seals : (s : Scene) (sealed : CommandMap) (p after : Peer) (horizon : ℕ) (base : World) (other : CommandMap) (count : ℕ)
    → HasSealed s sealed p → merge_sealed s p horizon base other ≡ Ok (count, after) → HasSealed s sealed after
unfolding merge_sealed
merge_sealed_seals s sealed p after horizon base other count has call = by (p.horizon == horizon) (same_world p.base base) call
  where
    by : (together alike : Bool) → (if together then (if alike then merge_map s p other else Err BasesDiffer)
        else Err (HorizonsDiffer p.horizon horizon)) ≡ Ok (count, after) → HasSealed s sealed after
    by false alike call = absurd cc
    by true false call = absurd cc
    by true true call = merge_seals s sealed p after other count has call

pub advance_seals : (s : Scene) (sealed : CommandMap) (p after : Peer) (ticks tick : ℕ) → HasSealed s sealed p
    → advance p ticks ≡ Ok (tick, after) → HasSealed s sealed after
unfolding advance
advance_seals s sealed p after ticks tick has call = by (nat_le (p.reached + ticks) MAX_TICK) call
  where
    by : (within : Bool)
        → ◌≡◌ {A = Result (ℕ × Peer) Refusal} (if within then Ok (p.reached + ticks, record p { reached = p.reached + ticks }) else Err TickLimit)
        (Ok (tick, after)) → HasSealed s sealed after
    by false call = absurd cc
    by true call =
        let same : ◌≡◌ {A = ℕ × Peer} (p.reached + ticks, record p { reached = p.reached + ticks }) (tick, after) = cc in
        subst (HasSealed s sealed) (ap (λ (answer : ℕ × Peer). answer.1) same)
        (sealed_stays s sealed p (record p { reached = p.reached + ticks }) has refl refl has.from)
