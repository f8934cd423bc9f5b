-- Bodies to which no chain of contacts leads from an awake one stay as they are.
use Rattle.std.proofs.Common.{◌≡◌, ◌≢◌, ◌+◌, ◌<◌, ◌≤◌, ◌⊎◌, inl, inr, ℕ, zero, suc, Bool, true, false, List, [], ◌∷◌, Some, option_map, length, refl, ap, sym, ◌∙◌, subst, arith, add-zero, add-suc, slice_get, get_or, if◌then◌else◌}
use Rattle.std.proofs.lemmas.Bool.{and_parts, false_from_ne_true, not-true, or_from, true≢false}
use Rattle.std.proofs.lemmas.Option.{get_or_from_slice_get, slice_get-get_or, slice_get-map, slice_get_within}
use Rattle.std.specs.List.{zip}
use Rattle.std.specs.Prelude.{All, not, ◌&&◌}
use Rattle.pf_shapes.specs.Body.{BodyState, no_state}
use Rattle.pf_shapes.specs.Fixture.{Fixture, is_static}
use Rattle.pf_shapes.specs.Scene.{AreStarts, IsScene, Scene, fixture_at, is_static_at, no_fixture}
use Rattle.pf_manifold.specs.Touches.{IsTouchOf, Touch}
use Rattle.pf_commands.specs.declared.payload.Payload.{Payload}
use Rattle.pf_commands.specs.Merge.{CommandMap, payloads_at}
use Rattle.pf_rows.specs.declared.row.Side.TheVariants.{Static, Dynamic}
use Rattle.pf_cache.specs.Contact.{Contact, next_contacts}
use Rattle.pf_rows.specs.Row.{Row}
use Rattle.pf_islands.specs.Group.{group, groups}
use Rattle.pf_islands.specs.Reach.{AreNeighbours, ConnectsBodies, Reaches, connects}
use Rattle.pf_islands.specs.Sleep.{at_sleep, is_active, is_resting, bodies_after_sleep, woken_bodies}
use Rattle.pf_islands.proofs.Together.{neighbours_at}
use Rattle.pf_islands.proofs.Sleeping.{name_at, woken_reach}
use Rattle.pf_solver.specs.declared.bodies.TheConstants.{STILL_TICKS}
use Rattle.pf_solver.specs.Solve.{solved_batch}
use Rattle.pf_solver.proofs.Solved.{IsAway, untouched_body}
use Rattle.pf_step.specs.Commands.{after_commands}
use Rattle.pf_step.specs.Laws.{IsUndisturbed, commanded_bodies}
use Rattle.pf_islands.specs.Rows.{active_rows, is_active_contact, is_awake_at, is_simulated_at, row_of, side_of}
use Rattle.pf_step.specs.Simulation.{sim}
use Rattle.pf_step.specs.Step.{step, touches_of_scene}
use Rattle.pf_step.specs.World.{World, start_world}
use Rattle.pf_islands.proofs.ActiveRows.{HoldsWhere, all_rows}
use Rattle.pf_step.proofs.Commanding.{commands_length, not_commanded, static_stays}
use Rattle.pf_islands.proofs.Elements.{all_at, all_from, same_element, zip_at}
use Rattle.pf_step.proofs.Lengths.{sim_length}
use Rattle.pf_step.proofs.Touching.{points_of_bodies}

-- ---- neighbours and static bodies

-- a static body has no neighbour
between_dynamic : (s : Scene) (t : Touch) (a b : ℕ) → ConnectsBodies s t a b → is_static_at s a ≡ false
between_dynamic s t a b (both, inl (first, second)) =
    ap (is_static_at s) (sym first) ∙ not-true (is_static_at s t.a) (and_parts _ _ both).0
between_dynamic s t a b (both, inr (first, second)) =
    ap (is_static_at s) (sym second) ∙ not-true (is_static_at s t.b) (and_parts _ _ both).1

neighbour_dynamic : (s : Scene) (touches : List Touch) (a b : ℕ) → AreNeighbours s touches a b → is_static_at s a ≡ false
neighbour_dynamic s [] a b h = absurd h
neighbour_dynamic s (t ∷ touches) a b (inl here) = between_dynamic s t a b here
neighbour_dynamic s (t ∷ touches) a b (inr rest) = neighbour_dynamic s touches a b rest

-- so it reaches itself alone
static_reach : (s : Scene) (touches : List Touch) (a b : ℕ) → is_static_at s a ≡ true → Reaches s touches a b → a ≡ b
static_reach s touches a b static ([], same) = same
static_reach s touches a b static (next ∷ chain, along) =
    absurd (true≢false (sym static ∙ neighbour_dynamic s touches a next along.0))

-- static bodies are not awake
abbrev pub StaticsSleep : Scene → List BodyState → Type 0
StaticsSleep s bodies = (j : ℕ) (b : BodyState) → is_static_at s j ≡ true → slice_get bodies j ≡ Some b → b.awake ≡ false

-- a dynamic side labels its body
side_place : (s : Scene) (number i : ℕ) → side_of s number ≡ Dynamic i → number ≡ i
side_place s number i = by (is_static_at s number)
  where
    by : (e : Bool) → (if e then Static else Dynamic number) ≡ Dynamic i → number ≡ i
    by true same = absurd cc
    by false same = cc

same_place : (m n : ℕ) → Dynamic m ≡ Dynamic n → m ≡ n
same_place m n e = cc

-- ---- a tick

module _ (s : Scene) (old : List Contact) (commanded : List BodyState) (count : length commanded ≡ length s.fixtures) where
  abbrev points : List Touch
  points = touches_of_scene s commanded

  abbrev labels : List ℕ
  labels = groups s points

  abbrev awake : List BodyState
  awake = woken_bodies labels commanded

  abbrev rows : List Row
  rows = active_rows s awake points (next_contacts old points)

  here_reached : (i : ℕ) → Reaches s points i i
  here_reached i = ([], refl)

  -- the body of a number after the phase Activity
  woken_is : (i : ℕ) (b : BodyState) → slice_get commanded i ≡ Some b
      → slice_get awake i ≡ Some (record b { awake = is_active labels commanded (group s points i) })
  unfolding woken_bodies
  woken_is i b here =
      let within = slice_get_within commanded i b here in
      let named = name_at s points i (omega (arith, within, count)) in
      slice_get-map (λ (m : ℕ × BodyState). record m.1 { awake = is_active labels commanded m.0 }) (zip labels commanded) i
      ∙ ap (option_map (λ (m : ℕ × BodyState). record m.1 { awake = is_active labels commanded m.0 }))
      (zip_at labels commanded i (group s points i) b named here)

  -- an undisturbed body is not simulated
  inactive : (i : ℕ) (b : BodyState) → slice_get commanded i ≡ Some b → IsUndisturbed s commanded i
      → is_active labels commanded (group s points i) ≡ false
  inactive i b here quiet =
      false_from_ne_true (is_active labels commanded (group s points i))
      (λ active.
      let found = (woken_reach s points commanded count i (record b { awake = is_active labels commanded (group s points i) }) (woken_is i b here)).0 active in
      true≢false (sym found.3 ∙ quiet found.0 found.1 found.2 found.4))

  -- so it stays as it is
  woken_same : (i : ℕ) (b : BodyState) → slice_get commanded i ≡ Some b → IsUndisturbed s commanded i
      → slice_get awake i ≡ Some b
  woken_same i b here quiet =
      woken_is i b here
      ∙ ap (λ flag. Some (record b { awake = flag })) (inactive i b here quiet ∙ sym (quiet i b here (here_reached i)))

  -- the bodies are not awake by their numbers
  asleep_at : (i : ℕ) (b : BodyState) → slice_get commanded i ≡ Some b → IsUndisturbed s commanded i → is_awake_at awake i ≡ false
  asleep_at i b here quiet =
      ap (λ (x : BodyState). x.awake) (get_or_from_slice_get awake i b no_state (woken_same i b here quiet))
      ∙ quiet i b here (here_reached i)

  -- so it is not simulated
  not_simulated : (i : ℕ) → is_awake_at awake i ≡ false → is_simulated_at s awake i ≡ false
  not_simulated i asleep = by (is_static_at s i)
    where
      by : (e : Bool) → (not e && is_awake_at awake i) ≡ false
      by true = refl
      by false = asleep

  -- ---- contacts of an undisturbed body

  module _ (statics : StaticsSleep s commanded) (i : ℕ) (b : BodyState) (here : slice_get commanded i ≡ Some b)
      (quiet : IsUndisturbed s commanded i) (dynamic : is_static_at s i ≡ false) where
    -- the other body of a contact point is undisturbed too
    other_quiet : (k : ℕ) (t : Touch) (j : ℕ) → slice_get points k ≡ Some t
        → (((t.a ≡ i) × (t.b ≡ j)) ⊎ ((t.a ≡ j) × (t.b ≡ i))) → (e : Bool) → is_static_at s j ≡ e → IsUndisturbed s commanded j
    other_quiet k t j stands pair true static =
        λ x c there reach.
        let same = static_reach s points j x static reach in
        statics j c static (subst (λ (y : ℕ). slice_get commanded y ≡ Some c) (sym same) there)
    other_quiet k t j stands pair false moves =
        λ x c there reach.
        let between : ConnectsBodies s t i j = (connected pair, pair) in
        quiet x c there (j ∷ reach.0, (neighbours_at s points k t i j stands between, reach.1))
      where
        connected : (((t.a ≡ i) × (t.b ≡ j)) ⊎ ((t.a ≡ j) × (t.b ≡ i))) → connects s t ≡ true
        connected (inl (first, second)) = rw (first, second, dynamic, moves) refl
        connected (inr (first, second)) = rw (first, second, dynamic, moves) refl

    -- so such a contact is not simulated
    pub contact_inactive : (k : ℕ) (t : Touch) → slice_get points k ≡ Some t → t.a < length commanded → t.b < length commanded
        → (t.a ≡ i) ⊎ (t.b ≡ i) → is_active_contact s awake t ≡ false
    unfolding is_active_contact
    contact_inactive k t stands first second (inl same) =
        let c = get_or commanded t.b b in
        let there = slice_get-get_or commanded t.b b second in
        or_from (is_simulated_at s awake t.a) (is_simulated_at s awake t.b)
        (ap (is_simulated_at s awake) same ∙ not_simulated i (asleep_at i b here quiet))
        (not_simulated t.b (asleep_at t.b c there (other_quiet k t t.b stands (inl (same, refl)) (is_static_at s t.b) refl)))
    contact_inactive k t stands first second (inr same) =
        let c = get_or commanded t.a b in
        let there = slice_get-get_or commanded t.a b first in
        or_from (is_simulated_at s awake t.a) (is_simulated_at s awake t.b)
        (not_simulated t.a (asleep_at t.a c there (other_quiet k t t.a stands (inr (refl, same)) (is_static_at s t.a) refl)))
        (ap (is_simulated_at s awake) same ∙ not_simulated i (asleep_at i b here quiet))

    -- and no row touches the body
    rows_away : All (IsAway i) rows
    unfolding row_of
    rows_away =
        all_rows s awake (IsAway i) points (next_contacts old points)
        (all_from (HoldsWhere s awake (IsAway i)) points away_at)
      where
        first_away : (k : ℕ) (t : Touch) → slice_get points k ≡ Some t → is_active_contact s awake t ≡ true → side_of s t.a ≢ Dynamic i
        first_away k t stands active same =
            let of = all_at (IsTouchOf (length commanded)) points k t (points_of_bodies s commanded count) stands in
            true≢false (sym active ∙ contact_inactive k t stands (omega (arith, of.0, of.1)) of.1 (inl (side_place s t.a i same)))

        second_away : (k : ℕ) (t : Touch) → slice_get points k ≡ Some t → is_active_contact s awake t ≡ true → side_of s t.b ≢ Dynamic i
        second_away k t stands active same =
            let of = all_at (IsTouchOf (length commanded)) points k t (points_of_bodies s commanded count) stands in
            true≢false (sym active ∙ contact_inactive k t stands (omega (arith, of.0, of.1)) of.1 (inr (side_place s t.b i same)))

        away_at : (k : ℕ) (t : Touch) → slice_get points k ≡ Some t → HoldsWhere s awake (IsAway i) t
        away_at k t stands active place c = (first_away k t stands active, second_away k t stands active)

  -- a static body is on no dynamic side
  static_side : (i number : ℕ) → is_static_at s i ≡ true → side_of s number ≢ Dynamic i
  static_side i number static = by (is_static_at s number) refl
    where
      by : (e : Bool) → is_static_at s number ≡ e → (if e then Static else Dynamic number) ≢ Dynamic i
      by true e same = absurd cc
      by false e same =
          let at : number ≡ i = same_place number i same in
          true≢false (sym static ∙ ap (is_static_at s) (sym at) ∙ e)

  -- so no row touches it
  static_away : (i : ℕ) → is_static_at s i ≡ true → All (IsAway i) rows
  unfolding row_of
  static_away i static =
      all_rows s awake (IsAway i) points (next_contacts old points)
      (all_from (HoldsWhere s awake (IsAway i)) points
      (λ k t stands active place c. (static_side i t.a static, static_side i t.b static)))

  -- where no row touches an undisturbed body, it is as before when the phase Sleep comes
  solved_same : (i : ℕ) (b : BodyState) → slice_get commanded i ≡ Some b → IsUndisturbed s commanded i → All (IsAway i) rows
      → slice_get (solved_batch s awake rows).bodies i ≡ Some b
  solved_same i b here quiet away =
      untouched_body s awake rows i b (woken_same i b here quiet) away
      ∙ rw (quiet i b here (here_reached i)) refl

  -- and after it
  rested_same : (i : ℕ) (b : BodyState) → slice_get commanded i ≡ Some b → IsUndisturbed s commanded i → All (IsAway i) rows
      → slice_get (bodies_after_sleep STILL_TICKS labels (solved_batch s awake rows).bodies) i ≡ Some b
  unfolding bodies_after_sleep
  rested_same i b here quiet away =
      let within = slice_get_within commanded i b here in
      let named = name_at s points i (omega (arith, within, count)) in
      let bodies = (solved_batch s awake rows).bodies in
      slice_get-map (λ (m : ℕ × BodyState). if m.1.awake && is_resting STILL_TICKS labels bodies m.0 then at_sleep m.1 else m.1) (zip labels bodies) i
      ∙ ap (option_map (λ (m : ℕ × BodyState). if m.1.awake && is_resting STILL_TICKS labels bodies m.0 then at_sleep m.1 else m.1))
      (zip_at labels bodies i (group s points i) b named (solved_same i b here quiet away))
      ∙ rw (quiet i b here (here_reached i)) refl

-- ---- the tick

-- an undisturbed body stays as it is
pub step_same : (s : Scene) (w : World) (payloads : List Payload) (i : ℕ) (b : BodyState) → length w.bodies ≡ length s.fixtures
    → StaticsSleep s (after_commands s.fixtures w.bodies payloads)
    → slice_get (after_commands s.fixtures w.bodies payloads) i ≡ Some b
    → IsUndisturbed s (after_commands s.fixtures w.bodies payloads) i
    → slice_get (step s w payloads).bodies i ≡ Some b
unfolding step
step_same s w payloads i b paired statics here quiet = by (is_static_at s i) refl
  where
    count : length (after_commands s.fixtures w.bodies payloads) ≡ length s.fixtures
    count = commands_length s.fixtures w.bodies payloads ∙ paired

    by : (e : Bool) → is_static_at s i ≡ e → slice_get (step s w payloads).bodies i ≡ Some b
    by true static =
        rested_same s w.contacts (after_commands s.fixtures w.bodies payloads) count i b here quiet
        (static_away s w.contacts (after_commands s.fixtures w.bodies payloads) count i static)
    by false dynamic =
        rested_same s w.contacts (after_commands s.fixtures w.bodies payloads) count i b here quiet
        (rows_away s w.contacts (after_commands s.fixtures w.bodies payloads) count statics i b here quiet dynamic)

-- ---- the simulation

start_asleep : (fixtures : List Fixture) (starts : List BodyState) (i : ℕ) (b : BodyState) → AreStarts fixtures starts
    → is_static (get_or fixtures i no_fixture) ≡ true → slice_get starts i ≡ Some b → b.awake ≡ false
start_asleep [] [] i b h static here = absurd cc
start_asleep (f ∷ fixtures) (start ∷ starts) zero b h static here =
    ap (λ (x : BodyState). x.awake) (sym (same_element start b here) ∙ h.0.at_rest)
    ∙ ap (λ e. not e) static
start_asleep (f ∷ fixtures) (start ∷ starts) (suc i) b h static here = start_asleep fixtures starts i b h.1 static here
start_asleep [] (start ∷ starts) i b h static here = elim h [ ]
start_asleep (f ∷ fixtures) [] i b h static here = elim h [ ]

static_fixture : (s : Scene) (i : ℕ) → i < length s.fixtures → slice_get s.fixtures i ≡ Some (fixture_at s i)
static_fixture s i within = slice_get-get_or s.fixtures i no_fixture within

-- static bodies are at their starts at each tick
pub static_start : (s : Scene) (m : CommandMap) (tick i : ℕ) (b : BodyState) → IsScene s → is_static_at s i ≡ true
    → slice_get (sim s m tick).bodies i ≡ Some b → slice_get s.starts i ≡ Some b
unfolding sim start_world
static_start s m zero i b scene static here = here
static_start s m (suc tick) i b scene static here =
    let w = sim s m tick in
    let paired = sim_length s m tick scene in
    let payloads = payloads_at m tick in
    let commanded = after_commands s.fixtures w.bodies payloads in
    let count = commands_length s.fixtures w.bodies payloads ∙ paired in
    let within : i < length s.fixtures =
    subst (λ n. i < n) (sim_length s m (suc tick) scene) (slice_get_within (sim s m (suc tick)).bodies i b here) in
    let was : ℕ → BodyState = λ j. get_or w.bodies j b in
    let statics : StaticsSleep s commanded = λ j c motionless there.
    let inside : j < length s.fixtures = subst (λ n. j < n) count (slice_get_within commanded j c there) in
    let before : slice_get w.bodies j ≡ Some c =
    sym (static_stays s.fixtures w.bodies payloads j (fixture_at s j) (static_fixture s j inside) motionless) ∙ there in
    start_asleep s.fixtures s.starts j c scene.started motionless (static_start s m tick j c scene motionless before) in
    let old : slice_get w.bodies i ≡ Some (was i) = slice_get-get_or w.bodies i b (omega (arith, within, paired)) in
    let stays : slice_get commanded i ≡ Some (was i) =
    static_stays s.fixtures w.bodies payloads i (fixture_at s i) (static_fixture s i within) static ∙ old in
    let quiet : IsUndisturbed s commanded i = λ j c there reach.
    statics i c static (subst (λ (y : ℕ). slice_get commanded y ≡ Some c) (sym (static_reach s (touches_of_scene s commanded) i j static reach)) there) in
    let same : was i ≡ b =
    same_element (was i) b (sym (step_same s w payloads i (was i) paired statics stays quiet) ∙ here) in
    static_start s m tick i b scene static (old ∙ ap Some same)

-- so they sleep, also after commands
pub statics_sleep : (s : Scene) (m : CommandMap) (tick : ℕ) → IsScene s → StaticsSleep s (commanded_bodies s m tick)
statics_sleep s m tick scene j c static there =
    let w = sim s m tick in
    let payloads = payloads_at m tick in
    let count = commands_length s.fixtures w.bodies payloads ∙ sim_length s m tick scene in
    let inside : j < length s.fixtures = subst (λ n. j < n) count (slice_get_within (commanded_bodies s m tick) j c there) in
    let before : slice_get w.bodies j ≡ Some c =
    sym (static_stays s.fixtures w.bodies payloads j (fixture_at s j) (static_fixture s j inside) static) ∙ there in
    start_asleep s.fixtures s.starts j c scene.started static (static_start s m tick j c scene static before)

-- a body that is undisturbed at a tick is as it was at the next
undisturbed_tick : (s : Scene) (m : CommandMap) (tick i : ℕ) (b : BodyState) → IsScene s
    → slice_get (sim s m tick).bodies i ≡ Some b → IsUndisturbed s (commanded_bodies s m tick) i
    → slice_get (sim s m (suc tick)).bodies i ≡ Some b
unfolding sim
undisturbed_tick s m tick i b scene here quiet =
    let w = sim s m tick in
    let payloads = payloads_at m tick in
    let commanded = commanded_bodies s m tick in
    let within : i < length commanded =
    omega (arith, slice_get_within w.bodies i b here, commands_length s.fixtures w.bodies payloads) in
    let c = get_or commanded i b in
    let there : slice_get commanded i ≡ Some c = slice_get-get_or commanded i b within in
    let asleep : c.awake ≡ false = quiet i c there ([], refl) in
    let same : c ≡ b = same_element c b (sym (not_commanded s.fixtures w.bodies payloads i c there asleep) ∙ here) in
    step_same s w payloads i c (sim_length s m tick scene) (statics_sleep s m tick scene) there quiet ∙ ap Some same

pub undisturbed_stays : (s : Scene) (m : CommandMap) (tick later i : ℕ) (b : BodyState) → IsScene s
    → slice_get (sim s m tick).bodies i ≡ Some b
    → ((t : ℕ) → tick ≤ t → t < tick + later → IsUndisturbed s (commanded_bodies s m t) i)
    → slice_get (sim s m (tick + later)).bodies i ≡ Some b
undisturbed_stays s m tick zero i b scene here quiet = rw (add-zero tick) here
undisturbed_stays s m tick (suc later) i b scene here quiet =
    rw (add-suc tick later)
    (undisturbed_tick s m (tick + later) i b scene
    (undisturbed_stays s m tick later i b scene here (λ t low high. quiet t low (omega arith)))
    (quiet (tick + later) (omega arith) (omega arith)))
