-- What the type of peer cores keeps, through each call.
use Rattle.std.proofs.Common.{◌≡◌, ℕ, zero, suc, ◌+◌, ◌<◌, ◌≤◌, ◌⊎◌, Bool, true, false, max, length, ◌^◌, List, Option, Some, None, Result, Ok, Err, OnErr, OnOk, if◌then◌else◌, refl, ap, sym, ◌∙◌, subst, ⊎_elim, arith}
use Rattle.std.specs.Prelude.{IfSome}
use Rattle.std.proofs.lemmas.Bool.{true≢false}
use Rattle.std.specs.FinMap.{entries, empty}
use Rattle.pf_shapes.specs.Scene.{Scene}
use Rattle.pf_shapes.specs.declared.fixture.TheConstants.{PLAYERS}
use Rattle.pf_commands.specs.declared.payload.Command.{Command}
use Rattle.pf_commands.specs.Check.{check, check_all}
use Rattle.pf_commands.specs.Merge.{CommandMap, merge, singleton, payloads_at}
use Rattle.pf_commands.specs.News.{is_news, news, least_tick}
use Rattle.pf_commands.specs.Ticks.{IsFrom, commands_from, is_from}
use Rattle.pf_commands.proofs.Changes.{merge_one-kept}
use Rattle.pf_commands.proofs.Since.{IsFrom-from, is_from-IsFrom}
use Rattle.pf_commands.proofs.Ticks.{payloads_at-other, payloads_at-before}
use Rattle.pf_step.specs.Simulation.{sim}
use Rattle.pf_step.specs.Step.{step}
use Rattle.pf_step.specs.Work.{KnowsWorld, Work}
use Rattle.pf_step.specs.World.{World, start_world}
use Rattle.pf_step.specs.Meter.{Meter, saturating_sum}
use Rattle.pf_step.specs.Split.{Island}
use Rattle.pf_rollback.specs.Core.{PeerCore, IsPeerCore, HasSettled, AreAllowed, count_after, news_tick, peer_of}
use Rattle.pf_rollback.specs.Horizon.{sim_at}
use Rattle.pf_rollback.specs.Kept.{Ticks, no_ticks, settled_tick, ticks_after_more, ticks_after_settling}
use Rattle.pf_rollback.specs.Peer.{Peer, with_command, with_commands, world_at, world_of}
use Rattle.pf_rollback.specs.Settling.{AreCalls, islands_at}
use Rattle.pf_rollback.specs.Snapshots.{Snapshots, IsKept, kept_world, settled_world, ticks_of}
use Rattle.pf_rollback.proofs.Allowed.{allowed_empty, allowed_from, allowed_put, allowed_merge}
use Rattle.pf_rollback.proofs.KeptWorlds.{horizon_low}
use Rattle.pf_rollback.proofs.Late.{from_none, from_put, from_merge}
use Rattle.pf_rollback.proofs.Worlds.{world_at-held}
use Rattle.pf_rollback.proofs.Simulation.{sim_at_bodies, sim_at_horizon, sim_at_more, sim_at_same, sim_at_sealed, sim_at_start}

-- ---- worlds after news

-- a command changes no world up to its tick, and none at all where it is no news
world_of-put : (s : Scene) (p : Peer) (c : Command) (t : ℕ) → IfSome (news_tick p.commands c) (λ tick. t ≤ tick)
    → world_of s (with_command p c) t ≡ world_of s p t
world_of-put s p c t = by (is_news p.commands (c.name, c.payload)) refl
  where
    by : (b : Bool) → is_news p.commands (c.name, c.payload) ≡ b → IfSome (if b then Some c.name.tick else None) (λ tick. t ≤ tick)
        → world_of s (with_command p c) t ≡ world_of s p t
    by true fresh before =
        sim_at_same s p.base p.horizon (merge p.commands (singleton c.name c.payload)) p.commands t
        (λ tick from below. payloads_at-other p.commands c.name c.payload tick (λ same. omega (arith, same, before)))
    by false old before = ap (λ m. sim_at s p.base p.horizon m t) (merge_one-kept p.commands c.name c.payload old)

-- a merge changes no world up to the least tick of its news
world_of-merge : (s : Scene) (p : Peer) (k : CommandMap) (t : ℕ) → IfSome (least_tick (news p.commands k)) (λ tick. t ≤ tick)
    → world_of s (with_commands p k) t ≡ world_of s p t
world_of-merge s p k t before =
    sim_at_same s p.base p.horizon (merge p.commands k) p.commands t
    (λ tick from below. payloads_at-before p.commands k tick (earlier (least_tick (news p.commands k)) tick below before))
  where
    earlier : (least : Option ℕ) (tick : ℕ) → tick < t → IfSome least (λ l. t ≤ l) → IfSome least (λ l. tick < l)
    earlier None tick below before = tt
    earlier (Some l) tick below before = omega (arith, before)

-- ---- cores

-- snapshots that begin where others do have the peer of these
pub same_peer : (player reached : ℕ) (m : CommandMap) (kept after : Snapshots) → (after.horizon ≡ kept.horizon) × (after.base ≡ kept.base)
    → peer_of player m reached kept ≡ peer_of player m reached after
same_peer player reached m kept after same =
    ap (λ (h : ℕ). record { player = player; horizon = h; base = kept.base; commands = m; reached = reached }) (sym same.0)
    ∙ ap (λ (b : World). record { player = player; horizon = after.horizon; base = b; commands = m; reached = reached }) (sym same.1)

-- a core after news of this least tick, if there are any
after_news : (s : Scene) (p : Peer) (kept after : Snapshots) (commands : CommandMap) (least : Option ℕ) → IsPeerCore s p kept
    → AreAllowed s commands → IsFrom p.horizon commands
    → ((t : ℕ) → IfSome least (λ tick. t ≤ tick) → world_of s (record p { commands = commands }) t ≡ world_of s p t)
    → ((t : ℕ) (w : World) → IsKept after t w → IsKept kept t w × IfSome least (λ tick. t ≤ tick))
    → settled_tick (ticks_of after) ≤ settled_tick (ticks_of kept)
    → IsPeerCore s (record p { commands = commands }) after
after_news s p kept after commands least is allowed from same worlds lower = record {
  peer = record { player = is.peer.player; horizon = is.peer.horizon; reached = is.peer.reached; from = from };
  bodies = is.bodies;
  start = is.start;
  allowed = allowed;
  worlds = λ t w there. let was = worlds t w there in is.worlds t w was.0 ∙ sym (same t was.1);
  settled = let low = is.settled in omega arith;
}

pub core_put : (s : Scene) (player reached : ℕ) (m : CommandMap) (kept after : Snapshots) (c : Command) (least : Option ℕ)
    → IsPeerCore s (peer_of player m reached kept) kept
    → check s c.name c.payload ≡ Ok tt → kept.horizon ≤ c.name.tick
    → least ≡ news_tick m c
    → (after.horizon ≡ kept.horizon) × (after.base ≡ kept.base)
    → ((t : ℕ) (w : World) → IsKept after t w → IsKept kept t w × IfSome least (λ tick. t ≤ tick))
    → settled_tick (ticks_of after) ≤ settled_tick (ticks_of kept)
    → IsPeerCore s (peer_of player (merge m (singleton c.name c.payload)) reached after) after
core_put s player reached m kept after c least is checked late same base worlds lower =
    let p = peer_of player m reached kept in
    subst (λ q. IsPeerCore s q after) (same_peer player reached _ kept after base)
    (after_news s p kept after _ least is (allowed_put s m c.name c.payload is.allowed checked) (from_put kept.horizon m c is.peer.from late)
    (λ t before. world_of-put s p c t (subst (λ o. IfSome o (λ tick. t ≤ tick)) same before)) worlds lower)

pub core_merge : (s : Scene) (player reached : ℕ) (m : CommandMap) (kept after : Snapshots) (other : CommandMap) (least : Option ℕ)
    → IsPeerCore s (peer_of player m reached kept) kept
    → check_all s (entries other) ≡ Ok tt → is_from kept.horizon other ≡ true
    → least ≡ least_tick (news m other)
    → (after.horizon ≡ kept.horizon) × (after.base ≡ kept.base)
    → ((t : ℕ) (w : World) → IsKept after t w → IsKept kept t w × IfSome least (λ tick. t ≤ tick))
    → settled_tick (ticks_of after) ≤ settled_tick (ticks_of kept)
    → IsPeerCore s (peer_of player (merge m other) reached after) after
core_merge s player reached m kept after other least is checked late same base worlds lower =
    let p = peer_of player m reached kept in
    subst (λ q. IsPeerCore s q after) (same_peer player reached _ kept after base)
    (after_news s p kept after _ least is (allowed_merge s m other is.allowed checked)
    (from_merge kept.horizon m other is.peer.from (is_from-IsFrom kept.horizon other late))
    (λ t before. world_of-merge s p other t (subst (λ o. IfSome o (λ tick. t ≤ tick)) same before)) worlds lower)

-- a core after its next tick is settled
pub core_settled : (s : Scene) (player reached : ℕ) (m : CommandMap) (kept after : Snapshots) (latest world : World)
    → IsPeerCore s (peer_of player m reached kept) kept
    → settled_tick (ticks_of kept) < reached
    → IsKept kept (settled_tick (ticks_of kept)) latest
    → world ≡ step s latest (payloads_at m (settled_tick (ticks_of kept)))
    → (after.horizon ≡ kept.horizon) × (after.base ≡ kept.base)
    → ((t : ℕ) (w : World) → IsKept after t w → IsKept kept t w ⊎ ((t ≡ settled_tick (ticks_of kept) + 1) × (w ≡ world)))
    → settled_tick (ticks_of after) ≡ settled_tick (ticks_of kept) + 1
    → IsPeerCore s (peer_of player m reached after) after
core_settled s player reached m kept after latest world is below last made base worlds settled =
    let p = peer_of player m reached kept in
    let tick = settled_tick (ticks_of kept) in
    let next : world ≡ world_of s p (tick + 1) =
    made ∙ ap (λ w. step s w (payloads_at m tick)) (is.worlds tick latest last) ∙ sym (sim_at_more s kept.base kept.horizon m tick (horizon_low kept)) in
    subst (λ q. IsPeerCore s q after) (same_peer player reached m kept after base)
    (record {
      peer = is.peer;
      bodies = is.bodies;
      start = is.start;
      allowed = is.allowed;
      worlds = λ t w there. ⊎_elim (λ old. is.worlds t w old) (λ new. new.1 ∙ next ∙ ap (world_of s p) (sym new.0)) (worlds t w there);
      settled = omega arith;
    })

-- a core after a step of its next tick, which may have failed
pub core_stepped : {A E : Type 0} (r : Result A E) (s : Scene) (player reached : ℕ) (m : CommandMap) (kept after : Snapshots) (latest world : World)
    → IsPeerCore s (peer_of player m reached kept) kept
    → settled_tick (ticks_of kept) < reached
    → IsKept kept (settled_tick (ticks_of kept)) latest
    → world ≡ step s latest (payloads_at m (settled_tick (ticks_of kept)))
    → (after.horizon ≡ kept.horizon) × (after.base ≡ kept.base)
    → OnOk r ((t : ℕ) (w : World) → IsKept after t w → IsKept kept t w ⊎ ((t ≡ settled_tick (ticks_of kept) + 1) × (w ≡ world)))
    → OnOk r (settled_tick (ticks_of after) ≡ settled_tick (ticks_of kept) + 1)
    → OnErr r (after ≡ kept)
    → IsPeerCore s (peer_of player m reached after) after
core_stepped (Ok done) s player reached m kept after latest world is below last made base worlds settled same =
    core_settled s player reached m kept after latest world is below last made base worlds settled
core_stepped (Err fault) s player reached m kept after latest world is below last made base worlds settled same =
    subst (λ k. IsPeerCore s (peer_of player m reached k) k) (sym same) is

-- the core of a peer that begins
pub core_new : (s : Scene) (player : ℕ) (commands : CommandMap) (kept : Snapshots) (start : World) → player < PLAYERS
    → commands ≡ empty → start ≡ start_world s → length start.bodies ≡ length s.fixtures
    → (kept.horizon ≡ 0) × (kept.base ≡ start)
    → ((t : ℕ) (w : World) → IsKept kept t w → (t ≡ 0) × (w ≡ start)) → (ring : ℕ) → ticks_of kept ≡ no_ticks ring
    → IsPeerCore s (peer_of player commands 0 kept) kept
unfolding start_world settled_tick
core_new s player commands kept start below none begins bodies base worlds ring ticks = record {
  peer = record {
    player = below;
    horizon = omega (arith, base.0);
    reached = omega arith;
    from = subst (IsFrom kept.horizon) (sym none) (from_none kept.horizon);
  };
  bodies = ap (λ (w : World). length w.bodies) base.1 ∙ bodies;
  start = λ first. base.1 ∙ begins;
  allowed = subst (AreAllowed s) (sym none) (allowed_empty s);
  worlds = λ t w there.
      let at = worlds t w there in
      at.1 ∙ sym base.1 ∙ sym (sim_at_horizon s kept.base kept.horizon commands t (at.0 ∙ sym base.0));
  settled = let nothing : settled_tick (no_ticks ring) ≡ 0 = refl in omega (arith, ap settled_tick ticks, nothing);
}

-- the worlds of a peer that has sealed nothing are those from tick zero
pub unsealed_world : (s : Scene) (player reached : ℕ) (m : CommandMap) (kept : Snapshots) (tick : ℕ) → IsPeerCore s (peer_of player m reached kept) kept
    → kept.horizon ≡ 0 → kept_world s m kept tick ≡ sim s m tick
unsealed_world s player reached m kept tick is first =
    ap (λ (h : ℕ). sim_at s kept.base h m tick) first ∙ ap (λ (b : World). sim_at s b 0 m tick) (is.start first) ∙ sim_at_start s m tick

-- a peer shows the settled tick: the kept world there
pub settled_shown : (s : Scene) (player reached : ℕ) (m : CommandMap) (kept : Snapshots) → IsPeerCore s (peer_of player m reached kept) kept
    → world_at s (peer_of player m reached kept) (settled_tick (ticks_of kept)) ≡ Ok (kept_world s m kept (settled_tick (ticks_of kept)))
settled_shown s player reached m kept is =
    world_at-held s (peer_of player m reached kept) _ (record { later = horizon_low kept; reached = is.settled })

-- a core after a tick is sealed
pub core_sealed : (s : Scene) (player reached : ℕ) (m commands : CommandMap) (kept after : Snapshots) (tick : ℕ) (world : World)
    → IsPeerCore s (peer_of player m reached kept) kept
    → kept.horizon ≤ tick → tick ≤ reached
    → world ≡ kept_world s m kept tick → commands ≡ commands_from tick m
    → (after.horizon ≡ tick) × (after.base ≡ world)
    → ((t : ℕ) (w : World) → IsKept after t w → (IsKept kept t w × (tick < t)) ⊎ ((t ≡ tick) × (w ≡ world)))
    → settled_tick (ticks_of after) ≡ max tick (settled_tick (ticks_of kept))
    → IsPeerCore s (peer_of player commands reached after) after
core_sealed s player reached m commands kept after tick world is later low value from base worlds settled =
    subst (λ k. IsPeerCore s (peer_of player k reached after) after) (sym from)
    (subst (λ q. IsPeerCore s q after) peers
    (record {
      peer = record { player = is.peer.player; horizon = low; reached = is.peer.reached; from = IsFrom-from tick m };
      bodies = ap (λ (w : World). length w.bodies) value ∙ sim_at_bodies s kept.base kept.horizon m tick is.bodies;
      start = λ first.
          let at : tick ≡ kept.horizon = omega arith in
          value ∙ sim_at_horizon s kept.base kept.horizon m tick at ∙ is.start (omega arith);
      allowed = allowed_from s tick m is.allowed;
      worlds = λ t w there.
          ⊎_elim
          (λ old. is.worlds t w old.0 ∙ sym (sim_at_sealed s kept.base kept.horizon m tick t later (omega (arith, old.1)))
          ∙ ap (λ (b : World). sim_at s b tick (commands_from tick m) t) (sym value))
          (λ new. new.1 ∙ sym (sim_at_horizon s world tick (commands_from tick m) t new.0))
          (worlds t w there);
      settled = let high = is.settled in omega arith;
    }))
  where
    peers : ◌≡◌ {A = Peer} (record { player = player; horizon = tick; base = world; commands = commands_from tick m; reached = reached })
        (peer_of player (commands_from tick m) reached after)
    peers =
        ap (λ (h : ℕ). record { player = player; horizon = h; base = world; commands = commands_from tick m; reached = reached }) (sym base.0)
        ∙ ap (λ (b : World). record { player = player; horizon = after.horizon; base = b; commands = commands_from tick m; reached = reached }) (sym base.1)

-- ---- settling

-- room for a keyframe changes nothing that is kept
pub ticks_reserved : (kept after : Snapshots) → after ≡ record kept { room = after.room } → ticks_of after ≡ ticks_of kept
unfolding ticks_of
ticks_reserved kept after same = ap ticks_of same

pub core_reserved : (s : Scene) (player reached : ℕ) (m : CommandMap) (kept after : Snapshots) → after ≡ record kept { room = after.room }
    → IsPeerCore s (peer_of player m reached kept) kept → IsPeerCore s (peer_of player m reached after) after
unfolding ticks_of IsKept
core_reserved s player reached m kept after same is =
    subst (λ k. IsPeerCore s (peer_of player m reached k) k) (sym same)
    (record { peer = is.peer; bodies = is.bodies; start = is.start; allowed = is.allowed; worlds = is.worlds; settled = is.settled })

pub kept_reserved : (kept after : Snapshots) (tick : ℕ) (world : World) → after ≡ record kept { room = after.room }
    → IsKept after tick world → IsKept kept tick world
unfolding IsKept
kept_reserved kept after tick world same there = let now = subst (λ k. IsKept k tick world) same there in now

pub peer_reserved : (player reached : ℕ) (m : CommandMap) (kept after : Snapshots) → after ≡ record kept { room = after.room }
    → peer_of player m reached after ≡ peer_of player m reached kept
peer_reserved player reached m kept after same = ap (peer_of player m reached) same

pub settled_none : (core : PeerCore) (peer : Peer) (kept : Ticks) (meter : Meter) → peer ≡ core.peer → kept ≡ core.kept → meter ≡ core.meter
    → HasSettled 0 core (record core { peer = peer; kept = kept; meter = meter })
unfolding ticks_after_more count_after
settled_none core peer kept meter alike same unchanged = record {
  kept = same;
  ticks = ap (λ m. m.ticks) unchanged;
  rest = ap (λ (p : Peer). record core { peer = p; kept = kept; meter = meter }) alike;
}

pub settled_one : (core : PeerCore) (peer : Peer) (kept : Ticks) (meter : Meter) → peer ≡ core.peer
    → kept ≡ ticks_after_settling core.kept (settled_tick core.kept + 1)
    → meter.ticks ≡ saturating_sum core.meter.ticks 1
    → HasSettled 1 core (record core { peer = peer; kept = kept; meter = meter })
unfolding ticks_after_more count_after
settled_one core peer kept meter alike settled counted = record {
  kept = settled;
  ticks = counted;
  rest = ap (λ (p : Peer). record core { peer = p; kept = kept; meter = meter }) alike;
}

pub settled_more : (old mid new : PeerCore) (more : ℕ) → HasSettled more old mid → HasSettled 1 mid new → HasSettled (suc more) old new
unfolding ticks_after_more count_after
settled_more old mid new more before one = record {
  kept = one.kept ∙ ap (λ k. ticks_after_settling k (settled_tick k + 1)) before.kept;
  ticks = one.ticks ∙ ap (λ n. saturating_sum n 1) before.ticks;
  rest = one.rest ∙ ap (λ (core : PeerCore). record core { kept = new.kept; meter = new.meter }) before.rest;
}

pub settled_same : (old mid new : PeerCore) (more : ℕ) → HasSettled more old mid → HasSettled 0 mid new → HasSettled more old new
unfolding ticks_after_more count_after
settled_same old mid new more before none = record {
  kept = none.kept ∙ before.kept;
  ticks = none.ticks ∙ before.ticks;
  rest = none.rest ∙ ap (λ (core : PeerCore). record core { kept = new.kept; meter = new.meter }) before.rest;
}

-- ---- counts

pub count_none : (count : ℕ) → count_after count 0 ≡ count
unfolding count_after
count_none count = refl

pub count_more : (count more next : ℕ) → next ≡ suc more → count_after count next ≡ saturating_sum (count_after count more) 1
unfolding count_after
count_more count more next is = ap (count_after count) is

-- each count that fits is the saturated sum
pub count_sum : (count more : ℕ) → count < 2 ^ 64 → count_after count more ≡ saturating_sum count more
unfolding count_after
count_sum count zero fits = omega arith
count_sum count (suc more) fits = let before = count_sum count more fits in omega arith

-- ---- calls

-- no call changes nothing
pub no_calls : {A : Type 0} (call : A → List Island → A → Type 0) (core : PeerCore) (a : A) → AreCalls call core 0 a a
unfolding AreCalls
no_calls call core a = refl

-- one call more, after some
pub one_call_more : {A : Type 0} (call : A → List Island → A → Type 0) (core : PeerCore) (n : ℕ) (first before last : A)
    → AreCalls call core n first before → call before (islands_at core (settled_tick core.kept + n)) last
    → AreCalls call core (suc n) first last
unfolding AreCalls
one_call_more call core n first before last calls one = (before, calls, one)

-- what is settled changes no islands
pub same_islands : (old new : PeerCore) (more tick : ℕ) → HasSettled more old new → islands_at new tick ≡ islands_at old tick
same_islands old new more tick has = ap (λ (core : PeerCore). islands_at core tick) has.rest

-- what holds in any case holds after an error
pub on_err : {A E P : Type 0} (r : Result A E) → P → OnErr r P
on_err (Ok value) is = tt
on_err (Err fault) is = is

-- what follows from what holds of an answer holds of it
pub ok_map : {A E P Q : Type 0} (r : Result A E) → (P → Q) → OnOk r P → OnOk r Q
ok_map (Ok value) f is = f is
ok_map (Err fault) f is = tt

pub ok_both : {A E P Q R : Type 0} (r : Result A E) → (P → Q → R) → OnOk r P → OnOk r Q → OnOk r R
ok_both (Ok value) f a b = f a b
ok_both (Err fault) f a b = tt

-- and of an error
pub err_both : {A E P Q R : Type 0} (r : Result A E) → (P → Q → R) → OnErr r P → OnErr r Q → OnErr r R
err_both (Ok value) f a b = tt
err_both (Err fault) f a b = f a b

-- ---- what a work knows of dirty bodies

-- where it is not known which bodies are dirty
pub unknown_follows : (s : Scene) (world : World) (work : Work) → work.is_known ≡ false → KnowsWorld s world work
unknown_follows s world work unknown known = absurd (true≢false (sym known ∙ unknown))

-- after room is made
pub follows_reserved : (s : Scene) (work : Work) (kept after : Snapshots) → after ≡ record kept { room = after.room }
    → KnowsWorld s (settled_world kept) work → KnowsWorld s (settled_world after) work
follows_reserved s work kept after same = subst (λ k. KnowsWorld s (settled_world k) work) (sym same)
