-- What a tick makes of one body.
use Rattle.std.proofs.Common.{◌≡◌, ◌==◌, ◌+◌, ◌≤◌, ◌⊎◌, inl, inr, ℕ, Bool, true, false, List, Some, min, refl, ap, subst, sym, ◌∙◌, arith, slice_get, if◌then◌else◌}
use Rattle.std.proofs.lemmas.Bool.{and_parts, eq-eqb, eqb-true, true≢false}
use Rattle.std.specs.Prelude.{not, ◌&&◌, ◌||◌, ℤ}
use Rattle.pf_rot.specs.Vector.{V2}
use Rattle.pf_rot.specs.Laws.{IsAtMostOne}
use Rattle.pf_rot.proofs.Directions.{turned_at_most_one}
use Rattle.pf_shapes.specs.Body.{BodyState}
use Rattle.pf_shapes.specs.Scene.{Scene}
use Rattle.pf_commands.specs.declared.payload.Payload.{Payload}
use Rattle.pf_cache.specs.Contact.{next_contacts}
use Rattle.pf_islands.specs.Group.{groups}
use Rattle.pf_islands.specs.Sleep.{at_sleep, is_active, is_resting, bodies_after_sleep, woken_bodies}
use Rattle.pf_islands.proofs.Looked.{all_at, any_from, zip_at}
use Rattle.pf_solver.specs.declared.bodies.TheConstants.{STILL_TICKS}
use Rattle.pf_solver.specs.Bodies.{after_motion, after_timer, is_still}
use Rattle.pf_solver.specs.Solve.{solved_batch}
use Rattle.pf_solver.proofs.Solved.{moved_on, solved_body}
use Rattle.pf_step.specs.Commands.{after_commands}
use Rattle.pf_step.specs.Laws.{bodies_before_sleep}
use Rattle.pf_islands.specs.Rows.{active_rows}
use Rattle.pf_step.specs.Step.{step, touches_of_scene}
use Rattle.pf_step.specs.World.{World}
use Rattle.pf_islands.proofs.Elements.{same_element}

-- a body that is not simulated sleeps on; one that is moves, or is still for one tick more, or goes
-- to sleep with a full timer
pub data TickCase (b c : BodyState) : Type 0 where
  sleeps : b.awake ≡ false → c.awake ≡ false → c.timer ≡ b.timer → TickCase b c
  moves : c.timer ≡ 0 → c.awake ≡ true → TickCase b c
  rests : is_still c ≡ true → c.timer ≡ min (b.timer + 1) STILL_TICKS → c.awake ≡ true → TickCase b c
  falls_asleep : STILL_TICKS ≤ b.timer + 1 → c.timer ≡ 0 → c.awake ≡ false → TickCase b c

-- the body of a number before the phase Points, and what the tick makes of it
pub record IsTicked (bodies : List BodyState) (i : ℕ) (c : BodyState) : Type 0 where
  pub from : BodyState
  pub is_there : slice_get bodies i ≡ Some from
  pub value : TickCase from c
  pub rotation : IsAtMostOne from.rotation → IsAtMostOne c.rotation

-- ---- Activity

pub record IsWoken (bodies : List BodyState) (i : ℕ) (c : BodyState) : Type 0 where
  pub from : BodyState
  pub flag : Bool
  pub is_there : slice_get bodies i ≡ Some from
  pub value : record from { awake = flag } ≡ c
  pub stays : from.awake ≡ true → flag ≡ true

pub woken_at : (labels : List ℕ) (bodies : List BodyState) (i : ℕ) (c : BodyState)
    → slice_get (woken_bodies labels bodies) i ≡ Some c → IsWoken bodies i c
unfolding woken_bodies
woken_at labels bodies i c here =
    let found = zip_at (λ (m : ℕ × BodyState). record m.1 { awake = is_active labels bodies m.0 }) labels bodies i c here in
    record {
      from = found.1;
      flag = is_active labels bodies found.0;
      is_there = found.3;
      value = found.4;
      stays = λ awake.
          any_from (λ (m : ℕ × BodyState). (m.0 == found.0) && m.1.awake) labels bodies i found.0 found.1 found.2 found.3
          (rw (eq-eqb found.0 found.0 refl) awake);
    }

-- ---- Sleep

record IsRested (full : ℕ) (bodies : List BodyState) (i : ℕ) (c : BodyState) : Type 0 where
  from : BodyState
  is_there : slice_get bodies i ≡ Some from
  value : (c ≡ from) ⊎ ((from.awake ≡ true) × (from.timer ≡ full) × (c ≡ at_sleep from))

rested_at : (full : ℕ) (labels : List ℕ) (bodies : List BodyState) (i : ℕ) (c : BodyState)
    → slice_get (bodies_after_sleep full labels bodies) i ≡ Some c → IsRested full bodies i c
unfolding bodies_after_sleep
rested_at full labels bodies i c here =
    let found =
    zip_at (λ (m : ℕ × BodyState). if m.1.awake && is_resting full labels bodies m.0 then at_sleep m.1 else m.1) labels bodies i c here in
    record {
      from = found.1;
      is_there = found.3;
      value = by found.0 found.1 found.2 found.3 (found.1.awake && is_resting full labels bodies found.0) refl found.4;
    }
  where
    by : (label : ℕ) (b : BodyState) → slice_get labels i ≡ Some label → slice_get bodies i ≡ Some b
        → (t : Bool) → (b.awake && is_resting full labels bodies label) ≡ t → (if t then at_sleep b else b) ≡ c
        → (c ≡ b) ⊎ ((b.awake ≡ true) × (b.timer ≡ full) × (c ≡ at_sleep b))
    by label b named there true test is =
        let both = and_parts b.awake (is_resting full labels bodies label) test in
        let full_timer = all_at (λ (m : ℕ × BodyState). not (m.0 == label) || (m.1.timer == full)) labels bodies i label b both.1 named there in
        inr (both.0, eqb-true b.timer full (subst (λ e. (not e || (b.timer == full)) ≡ true) (eq-eqb label label refl) full_timer), sym is)
    by label b named there false test is = inl (sym is)

-- ---- the whole tick

module _ (b : BodyState) (v : V2) (w : ℤ) where
  -- the body with its new velocity, awake or not
  abbrev solving : Bool → BodyState
  solving flag = record b { awake = flag; velocity = v; spin = w }

  awake_case : (c : BodyState) (still : Bool) → is_still (after_motion (solving true)) ≡ still
      → (let moved = record (after_motion (solving true)) { timer = if still then min (b.timer + 1) STILL_TICKS else 0 } in
      (c ≡ moved) ⊎ ((moved.awake ≡ true) × (moved.timer ≡ STILL_TICKS) × (c ≡ at_sleep moved)))
      → TickCase b c
  unfolding after_motion is_still
  awake_case c true still (inl is) =
      rests (ap is_still is ∙ still) (ap (λ (x : BodyState). x.timer) is) (ap (λ (x : BodyState). x.awake) is)
  awake_case c true still (inr (awake, full, is)) =
      falls_asleep (omega (arith, full)) (ap (λ (x : BodyState). x.timer) is) (ap (λ (x : BodyState). x.awake) is)
  awake_case c false still (inl is) = moves (ap (λ (x : BodyState). x.timer) is) (ap (λ (x : BodyState). x.awake) is)
  awake_case c false still (inr (awake, full, is)) = absurd (omega (arith, full))

  flag_case : (c : BodyState) (flag : Bool) → (b.awake ≡ true → flag ≡ true)
      → (let moved = moved_on v w (record b { awake = flag }) in
      (c ≡ moved) ⊎ ((moved.awake ≡ true) × (moved.timer ≡ STILL_TICKS) × (c ≡ at_sleep moved)))
      → TickCase b c
  unfolding after_timer after_motion
  flag_case c true stays rest = awake_case c (is_still (after_motion (solving true))) refl rest
  flag_case c false stays (inl is) =
      sleeps (asleep b.awake refl) (ap (λ (x : BodyState). x.awake) is) (ap (λ (x : BodyState). x.timer) is)
    where
      asleep : (t : Bool) → b.awake ≡ t → b.awake ≡ false
      asleep true e = absurd (true≢false (sym (stays e)))
      asleep false e = e
  flag_case c false stays (inr (awake, full, is)) = absurd (true≢false (sym awake))

  flag_rotation : (c : BodyState) (flag : Bool)
      → (let moved = moved_on v w (record b { awake = flag }) in
      (c ≡ moved) ⊎ ((moved.awake ≡ true) × (moved.timer ≡ STILL_TICKS) × (c ≡ at_sleep moved)))
      → IsAtMostOne b.rotation → IsAtMostOne c.rotation
  unfolding after_timer after_motion
  flag_rotation c true (inl is) h = subst (λ (x : BodyState). IsAtMostOne x.rotation) (sym is) (turned_at_most_one b.rotation w h)
  flag_rotation c true (inr (awake, full, is)) h =
      subst (λ (x : BodyState). IsAtMostOne x.rotation) (sym is) (turned_at_most_one b.rotation w h)
  flag_rotation c false (inl is) h = subst (λ (x : BodyState). IsAtMostOne x.rotation) (sym is) h
  flag_rotation c false (inr (awake, full, is)) h = subst (λ (x : BodyState). IsAtMostOne x.rotation) (sym is) h

pub ticked_body : (s : Scene) (w : World) (payloads : List Payload) (i : ℕ) (c : BodyState)
    → slice_get (step s w payloads).bodies i ≡ Some c → IsTicked (after_commands s.fixtures w.bodies payloads) i c
unfolding step
ticked_body s w payloads i c here =
    let commanded = after_commands s.fixtures w.bodies payloads in
    let points = touches_of_scene s commanded in
    let labels = groups s points in
    let awake = woken_bodies labels commanded in
    let rows = active_rows s awake points (next_contacts w.contacts points) in
    let rest = rested_at STILL_TICKS labels (solved_batch s awake rows).bodies i c here in
    let solve = solved_body s awake rows i rest.from rest.is_there in
    let wake = woken_at labels commanded i solve.before solve.stood in
    let moved : rest.from ≡ moved_on solve.velocity solve.spin (record wake.from { awake = wake.flag }) =
    solve.moved ∙ ap (moved_on solve.velocity solve.spin) (sym wake.value) in
    let value =
    subst (λ (x : BodyState). (c ≡ x) ⊎ ((x.awake ≡ true) × (x.timer ≡ STILL_TICKS) × (c ≡ at_sleep x))) moved rest.value in
    record {
      from = wake.from;
      is_there = wake.is_there;
      value = flag_case wake.from solve.velocity solve.spin c wake.flag wake.stays value;
      rotation = flag_rotation wake.from solve.velocity solve.spin c wake.flag value;
    }

-- ---- falling asleep

full_is_still : (b : BodyState) (v : V2) (w : ℤ) (flag : Bool)
    → (moved_on v w (record b { awake = flag })).awake ≡ true → (moved_on v w (record b { awake = flag })).timer ≡ STILL_TICKS
    → is_still (moved_on v w (record b { awake = flag })) ≡ true
unfolding after_timer after_motion is_still
full_is_still b v w false awake full = absurd (true≢false (sym awake))
full_is_still b v w true awake full = by (is_still (solving b v w true)) refl full
  where
    by : (t : Bool) → is_still (solving b v w true) ≡ t → (if t then min (b.timer + 1) STILL_TICKS else 0) ≡ STILL_TICKS
        → is_still (solving b v w true) ≡ true
    by true e h = e
    by false e h = absurd (omega (arith, h))

-- what sleeps after the tick slept before, or was still when the phase Sleep came
pub slept : (s : Scene) (w : World) (payloads : List Payload) (i : ℕ) (c d : BodyState)
    → slice_get (step s w payloads).bodies i ≡ Some c → c.awake ≡ false
    → slice_get (bodies_before_sleep s w payloads) i ≡ Some d → (d.awake ≡ false) ⊎ (is_still d ≡ true)
unfolding step
slept s w payloads i c d here asleep before =
    let commanded = after_commands s.fixtures w.bodies payloads in
    let points = touches_of_scene s commanded in
    let labels = groups s points in
    let awake = woken_bodies labels commanded in
    let rows = active_rows s awake points (next_contacts w.contacts points) in
    let rest = rested_at STILL_TICKS labels (solved_batch s awake rows).bodies i c here in
    let solve = solved_body s awake rows i rest.from rest.is_there in
    let wake = woken_at labels commanded i solve.before solve.stood in
    let moved : rest.from ≡ moved_on solve.velocity solve.spin (record wake.from { awake = wake.flag }) =
    solve.moved ∙ ap (moved_on solve.velocity solve.spin) (sym wake.value) in
    let is : d ≡ rest.from = same_element d rest.from (sym before ∙ rest.is_there) in
    by wake.from solve.velocity solve.spin wake.flag (is ∙ moved)
    (subst (λ (x : BodyState). (c ≡ x) ⊎ ((x.awake ≡ true) × (x.timer ≡ STILL_TICKS) × (c ≡ at_sleep x))) (sym is) rest.value)
  where
    by : (b : BodyState) (v : V2) (z : ℤ) (flag : Bool) → d ≡ moved_on v z (record b { awake = flag })
        → (c ≡ d) ⊎ ((d.awake ≡ true) × (d.timer ≡ STILL_TICKS) × (c ≡ at_sleep d)) → (d.awake ≡ false) ⊎ (is_still d ≡ true)
    by b v z flag is (inl same) = inl (sym (ap (λ (x : BodyState). x.awake) same) ∙ asleep)
    by b v z flag is (inr (waking, full, sleeping)) =
        inr (ap is_still is
        ∙ full_is_still b v z flag (sym (ap (λ (x : BodyState). x.awake) is) ∙ waking) (sym (ap (λ (x : BodyState). x.timer) is) ∙ full))

-- a body that is awake after the commands is awake when the phase Sleep comes
pub stays_awake : (s : Scene) (w : World) (payloads : List Payload) (i : ℕ) (b d : BodyState)
    → slice_get (after_commands s.fixtures w.bodies payloads) i ≡ Some b → b.awake ≡ true
    → slice_get (bodies_before_sleep s w payloads) i ≡ Some d → d.awake ≡ true
unfolding after_timer after_motion
stays_awake s w payloads i b d here waking before =
    let commanded = after_commands s.fixtures w.bodies payloads in
    let points = touches_of_scene s commanded in
    let labels = groups s points in
    let awake = woken_bodies labels commanded in
    let rows = active_rows s awake points (next_contacts w.contacts points) in
    let solve = solved_body s awake rows i d before in
    let wake = woken_at labels commanded i solve.before solve.stood in
    let is : wake.from ≡ b = same_element wake.from b (sym wake.is_there ∙ here) in
    let flag : wake.flag ≡ true = wake.stays (ap (λ (x : BodyState). x.awake) is ∙ waking) in
    ap (λ (x : BodyState). x.awake) (solve.moved ∙ ap (moved_on solve.velocity solve.spin) (sym wake.value))
    ∙ by wake.from solve.velocity solve.spin wake.flag flag
  where
    by : (x : BodyState) (v : V2) (z : ℤ) (flag : Bool) → flag ≡ true → (moved_on v z (record x { awake = flag })).awake ≡ true
    by x v z true e = refl
    by x v z false e = absurd (true≢false (sym e))
