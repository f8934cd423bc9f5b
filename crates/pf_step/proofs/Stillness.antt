-- What a body's timer counts, and when a body falls asleep.
use Rattle.std.proofs.Common.{◌≡◌, ◌+◌, ◌-◌, ◌<◌, ◌≤◌, ◌⊎◌, inl, inr, ℕ, zero, suc, true, false, List, [], ◌∷◌, Some, ap, sym, ◌∙◌, subst, arith, slice_get}
use Rattle.std.proofs.lemmas.Bool.{true≢false}
use Rattle.pf_shapes.specs.Fixture.{Fixture}
use Rattle.pf_shapes.specs.Body.{BodyState}
use Rattle.pf_shapes.specs.Scene.{Scene, IsScene, AreStarts}
use Rattle.pf_commands.specs.Merge.{CommandMap, payloads_at}
use Rattle.pf_solver.specs.declared.bodies.TheConstants.{STILL_TICKS}
use Rattle.pf_solver.specs.Bodies.{is_still}
use Rattle.pf_step.specs.Laws.{bodies_before_sleep}
use Rattle.pf_step.specs.Simulation.{sim}
use Rattle.pf_step.specs.World.{start_world}
use Rattle.pf_step.proofs.Commanding.{Commanded, commands_case, same, woken}
use Rattle.pf_islands.proofs.Elements.{same_element}
use Rattle.pf_step.proofs.TickCases.{TickCase, falls_asleep, moves, rests, sleeps, slept, stays_awake, ticked_body}

-- a body is still at a tick
pub record IsStillAt (s : Scene) (m : CommandMap) (tick i : ℕ) : Type 0 where
  pub body : BodyState
  pub is_there : slice_get (sim s m tick).bodies i ≡ Some body
  pub still : is_still body ≡ true

-- a body's timer counts ticks at which the body was still, and a body that sleeps has none
record IsCounted (s : Scene) (m : CommandMap) (tick i : ℕ) (b : BodyState) : Type 0 where
  asleep : b.awake ≡ false → b.timer ≡ 0
  still : (k : ℕ) → k < b.timer → IsStillAt s m (tick - k) i
  within : b.timer ≤ tick

timer_of_start : (fixtures : List Fixture) (starts : List BodyState) (i : ℕ) (b : BodyState) → AreStarts fixtures starts
    → slice_get starts i ≡ Some b → b.timer ≡ 0
timer_of_start [] [] i b h here = absurd cc
timer_of_start (f ∷ fixtures) (start ∷ starts) zero b h here =
    let is : start ≡ b = same_element start b here in
    ap (λ (x : BodyState). x.timer) (sym is) ∙ ap (λ (x : BodyState). x.timer) h.0.at_rest
timer_of_start (f ∷ fixtures) (start ∷ starts) (suc i) b h here = timer_of_start fixtures starts i b h.1 here
timer_of_start [] (start ∷ starts) i b h here = elim h [ ]
timer_of_start (f ∷ fixtures) [] i b h here = elim h [ ]

none_counted : (s : Scene) (m : CommandMap) (tick i : ℕ) (b : BodyState) → b.timer ≡ 0 → IsCounted s m tick i b
none_counted s m tick i b zero_timer = record {
  asleep = λ _. zero_timer;
  still = λ k below. absurd (omega (arith, zero_timer));
  within = omega (arith, zero_timer);
}

-- one tick more: of a body that was there, or that was commanded in this tick
counted_more : (s : Scene) (m : CommandMap) (tick i : ℕ) (was from b : BodyState)
    → slice_get (sim s m (suc tick)).bodies i ≡ Some b → IsCounted s m tick i was → Commanded was from → TickCase from b
    → IsCounted s m (suc tick) i b
counted_more s m tick i was from b here counted (same is) (sleeps asleep sleeping timer) =
    none_counted s m (suc tick) i b
    (timer ∙ ap (λ (x : BodyState). x.timer) is ∙ counted.asleep (sym (ap (λ (x : BodyState). x.awake) is) ∙ asleep))
counted_more s m tick i was from b here counted (woken timer awake rotation) (sleeps asleep sleeping same_timer) =
    absurd (true≢false (sym awake ∙ asleep))
counted_more s m tick i was from b here counted commanded (moves timer awake) = none_counted s m (suc tick) i b timer
counted_more s m tick i was from b here counted commanded (falls_asleep full timer awake) = none_counted s m (suc tick) i b timer
counted_more s m tick i was from b here counted commanded (rests still timer awake) = record {
  asleep = λ asleep. absurd (true≢false (sym awake ∙ asleep));
  still = stilled;
  within = longer commanded;
}
  where
    longer : Commanded was from → b.timer ≤ suc tick
    longer (same is) =
        let same_timer : from.timer ≡ was.timer = ap (λ (x : BodyState). x.timer) is in
        let before = counted.within in
        omega (arith, timer, same_timer, before)
    longer (woken none waking rotation) = omega (arith, none, timer)

    earlier : (k : ℕ) → suc k < b.timer → Commanded was from → IsStillAt s m (tick - k) i
    earlier k below (same is) =
        let same_timer : from.timer ≡ was.timer = ap (λ (x : BodyState). x.timer) is in
        counted.still k (omega (arith, timer, same_timer))
    earlier k below (woken none waking rotation) = absurd (omega (arith, none, timer))

    stilled : (k : ℕ) → k < b.timer → IsStillAt s m (suc tick - k) i
    stilled zero below =
        let now : suc tick ≡ suc tick - 0 = omega arith in
        subst (λ (u : ℕ). IsStillAt s m u i) now (record { body = b; is_there = here; still = still })
    stilled (suc k) below =
        let before : tick - k ≡ suc tick - suc k = omega arith in
        subst (λ (u : ℕ). IsStillAt s m u i) before (earlier k below commanded)

counted : (s : Scene) (m : CommandMap) (tick i : ℕ) (b : BodyState) → IsScene s → slice_get (sim s m tick).bodies i ≡ Some b
    → IsCounted s m tick i b
unfolding sim start_world
counted s m zero i b scene here = none_counted s m 0 i b (timer_of_start s.fixtures s.starts i b scene.started here)
counted s m (suc tick) i b scene here =
    let last = ticked_body s (sim s m tick) (payloads_at m tick) i b here in
    let first = commands_case s.fixtures (sim s m tick).bodies (payloads_at m tick) i last.from last.is_there in
    counted_more s m tick i first.from last.from b here (counted s m tick i first.from scene first.is_there) first.value last.value

pub still_ticks : (s : Scene) (m : CommandMap) (tick i : ℕ) (b : BodyState) → IsScene s
    → slice_get (sim s m tick).bodies i ≡ Some b → (k : ℕ) → k < b.timer
    → (c : BodyState) × (slice_get (sim s m (tick - k)).bodies i ≡ Some c) × (is_still c ≡ true)
still_ticks s m tick i b scene here k below =
    let at = (counted s m tick i b scene here).still k below in
    (at.body, at.is_there, at.still)

pub timer_within : (s : Scene) (m : CommandMap) (tick i : ℕ) (b : BodyState) → IsScene s
    → slice_get (sim s m tick).bodies i ≡ Some b → b.timer ≤ tick
timer_within s m tick i b scene here = (counted s m tick i b scene here).within

fell_case : (was from b c : BodyState) → Commanded was from → TickCase from c → was ≡ b → b.awake ≡ true → c.awake ≡ false
    → STILL_TICKS ≤ b.timer + 1
fell_case was from b c (same is) (sleeps asleep sleeping timer) stood awake fell =
    absurd (true≢false (sym awake ∙ ap (λ (x : BodyState). x.awake) (sym stood ∙ sym is) ∙ asleep))
fell_case was from b c (woken t waking rotation) (sleeps asleep sleeping timer) stood awake fell =
    absurd (true≢false (sym waking ∙ asleep))
fell_case was from b c commanded (moves timer waking) stood awake fell = absurd (true≢false (sym waking ∙ fell))
fell_case was from b c commanded (rests still timer waking) stood awake fell = absurd (true≢false (sym waking ∙ fell))
fell_case was from b c (same is) (falls_asleep full timer sleeping) stood awake fell =
    let same_timer : from.timer ≡ b.timer = ap (λ (x : BodyState). x.timer) (is ∙ stood) in omega (arith, full, same_timer)
fell_case was from b c (woken t waking rotation) (falls_asleep full timer sleeping) stood awake fell =
    absurd (omega (arith, full, t))

pub fell_asleep : (s : Scene) (m : CommandMap) (tick i : ℕ) (b c : BodyState)
    → slice_get (sim s m tick).bodies i ≡ Some b → b.awake ≡ true
    → slice_get (sim s m (suc tick)).bodies i ≡ Some c → c.awake ≡ false
    → STILL_TICKS ≤ b.timer + 1
unfolding sim
fell_asleep s m tick i b c here awake next asleep =
    let last = ticked_body s (sim s m tick) (payloads_at m tick) i c next in
    let first = commands_case s.fixtures (sim s m tick).bodies (payloads_at m tick) i last.from last.is_there in
    fell_case first.from last.from b c first.value last.value (same_element first.from b (sym first.is_there ∙ here)) awake asleep

-- an awake body is awake after commands
commanded_awake : (b c : BodyState) → Commanded b c → b.awake ≡ true → c.awake ≡ true
commanded_awake b c (same is) awake = ap (λ (x : BodyState). x.awake) is ∙ awake
commanded_awake b c (woken timer waking rotation) awake = waking

pub asleep_still : (s : Scene) (m : CommandMap) (tick i : ℕ) (b c d : BodyState)
    → slice_get (sim s m tick).bodies i ≡ Some b → b.awake ≡ true
    → slice_get (sim s m (suc tick)).bodies i ≡ Some c → c.awake ≡ false
    → slice_get (bodies_before_sleep s (sim s m tick) (payloads_at m tick)) i ≡ Some d → is_still d ≡ true
unfolding sim
asleep_still s m tick i b c d here awake next asleep before =
    let w = sim s m tick in
    let payloads = payloads_at m tick in
    let last = ticked_body s w payloads i c next in
    let first = commands_case s.fixtures w.bodies payloads i last.from last.is_there in
    by (slept s w payloads i c d next asleep before)
    (stays_awake s w payloads i last.from d last.is_there
    (commanded_awake first.from last.from first.value
    (ap (λ (x : BodyState). x.awake) (same_element first.from b (sym first.is_there ∙ here)) ∙ awake)) before)
  where
    by : (d.awake ≡ false) ⊎ (is_still d ≡ true) → d.awake ≡ true → is_still d ≡ true
    by (inl sleeping) waking = absurd (true≢false (sym waking ∙ sleeping))
    by (inr still) waking = still
