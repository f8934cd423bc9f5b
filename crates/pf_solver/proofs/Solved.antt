-- What the phases Gravity to Timers keep of a list of bodies with the contacts between them, and
-- what they leave of it.
use Rattle.std.proofs.Common.{◌≡◌, ◌≢◌, ◌∙◌, ℕ, zero, suc, ℤ, pos, neg_ℤ, ◌≤ℤ◌, Bool, true, false, Some, List, [], ◌∷◌, length, map, refl, sym, ap, ap₂, subst}
use Rattle.std.proofs.lemmas.Bool.{cond-true, cond-false}
use Rattle.std.proofs.lemmas.List.{length-map}
use Rattle.std.proofs.lemmas.List.Elements.{All-cons, All-head, All-map, All-nil, All-tail, All-weaker}
use Rattle.std.proofs.lemmas.Option.{none-some, same_Some, slice_get-map}
use Rattle.std.specs.Option.{option_map}
use Rattle.std.specs.Prelude.{All, if◌then◌else◌, slice_get, slice_index_or, slice_set}
use Rattle.pf_rot.specs.Vector.{V2}
use Rattle.pf_shapes.specs.Body.{BodyState, at_rest, no_state}
use Rattle.pf_shapes.specs.Scene.{Scene, fixture_at}
use Rattle.pf_rows.specs.declared.row.Side.{Side}
use Rattle.pf_rows.specs.declared.row.Side.TheVariants.{Static, Dynamic}
use Rattle.pf_rows.specs.Impulses.{no_impulses}
use Rattle.pf_cache.specs.Contact.{Contact}
use Rattle.pf_rows.specs.Row.{Row}
use Rattle.pf_cache.specs.ContactRows.{IsRowAt}
use Rattle.pf_solver.specs.declared.velocities.TheConstants.{ROUNDS}
use Rattle.pf_solver.specs.Bodies.{after_gravity, after_motion, after_timer, each_awake, gravity_per_tick}
use Rattle.pf_solver.specs.Constraint.{constraint_of, friction_of}
use Rattle.pf_solver.specs.Impulse.{Motion, after_round, after_warm_start, friction_limit}
use Rattle.pf_solver.specs.Solve.{pre_step_body, prepared_row, solved_batch}
use Rattle.pf_solver.specs.Velocities.{Batch, Step, bodies_after, body_with, pass, passes, row_after, with_motion}
use Rattle.pf_solver.proofs.Limits.{never_pulls, within_friction}
use Rattle.pf_cache.proofs.Splicing.{all_unmap}
use Rattle.pf_islands.proofs.Elements.{set_other}

-- a row without its accumulated impulses, the only part of it that a pass changes
abbrev pub unloaded : Row → Row
unloaded r = record r { entry = record r.entry { impulses = no_impulses } }

-- a body with this velocity and this spin, after the phases Positions and Timers
abbrev pub moved_on : V2 → ℤ → BodyState → BodyState
moved_on v w b =
    let moved = record b { velocity = v; spin = w } in
    if b.awake then after_timer (after_motion moved) else moved

-- c is the body that stood at this place, with some velocity and spin after the phase Velocities
pub record IsSolvedAt (bodies : List BodyState) (place : ℕ) (c : BodyState) : Type 0 where
  pub before : BodyState
  pub velocity : V2
  pub spin : ℤ
  pub stood : slice_get bodies place ≡ Some before
  pub moved : c ≡ moved_on velocity spin before

-- a row that does not touch the body at this place
abbrev pub IsAway : ℕ → Row → Type 0
IsAway place r = (r.entry.first ≢ Dynamic place) × (r.entry.second ≢ Dynamic place)

-- the accumulated impulses of a row are within their limits
pub record IsLimited (r : Row) : Type 0 where
  pub normal : pos 0 ≤ℤ r.entry.impulses.normal
  pub friction : let limit = friction_limit r.constraint r.entry.impulses in
      pos 0 ≤ℤ limit
      → (neg_ℤ limit ≤ℤ r.entry.impulses.tangent) × (r.entry.impulses.tangent ≤ℤ limit)

-- the coefficient of friction of a row is that of its two bodies
abbrev pub HasFriction : Scene → Row → Type 0
HasFriction s r =
    r.constraint.friction
    ≡ friction_of (fixture_at s r.entry.touch.a).friction (fixture_at s r.entry.touch.b).friction

-- an element of a mapped list comes from an element at the same place
from_map : {A B : Type 0} (f : A → B) (xs : List A) (i : ℕ) (y : B) → slice_get (map f xs) i ≡ Some y
    → (x : A) × (slice_get xs i ≡ Some x) × (f x ≡ y)
from_map f [] i y h = absurd (none-some y h)
from_map f (x ∷ xs) zero y h = (x, refl, same_Some (f x) y h)
from_map f (x ∷ xs) (suc i) y h = from_map f xs i y h

-- what does not depend on accumulated impulses still holds where they alone have changed
pub still : (P : Row → Type 0) (rows after : List Row) → map unloaded after ≡ map unloaded rows
    → All (λ r. P (unloaded r)) rows → All (λ r. P (unloaded r)) after
still P rows after same h = all_unmap P unloaded after (subst (All P) (sym same) (All-map P unloaded rows h))

-- a new velocity and spin of the body at a place leave the rest of each body
set_rest : (bodies : List BodyState) (place : ℕ) (m : Motion)
    → map at_rest (slice_set bodies place (body_with m (slice_index_or bodies place no_state))) ≡ map at_rest bodies
set_rest [] place m = refl
set_rest (b ∷ bodies) zero m = refl
set_rest (b ∷ bodies) (suc place) m = ap (λ rest. at_rest b ∷ rest) (set_rest bodies place m)

-- the same for the body on a side
motion_rest : (bodies : List BodyState) (side : Side) (m : Motion)
    → map at_rest (with_motion bodies side m) ≡ map at_rest bodies
unfolding with_motion
motion_rest bodies Static m = refl
motion_rest bodies (Dynamic place) m = set_rest bodies place m

-- a motion of the body on a side leaves a body that does not stand there
motion_away : (i : ℕ) (bodies : List BodyState) (side : Side) (m : Motion) → side ≢ Dynamic i
    → slice_get (with_motion bodies side m) i ≡ slice_get bodies i
unfolding with_motion
motion_away i bodies Static m away = refl
motion_away i bodies (Dynamic place) m away = set_other bodies place i _ (λ e. away (ap Dynamic e))

-- what passes keep
module _ (step : Step) where
  -- a pass changes accumulated impulses alone of the rows
  pub pass_rows : (bodies : List BodyState) (rows : List Row)
      → map unloaded (pass step bodies rows).rows ≡ map unloaded rows
  unfolding pass row_after
  pass_rows bodies [] = refl
  pass_rows bodies (r ∷ rows) = ap (λ rest. unloaded r ∷ rest) (pass_rows (bodies_after step bodies r) rows)

  -- the step of a row changes velocities and spins alone of the bodies
  after_rest : (bodies : List BodyState) (r : Row) → map at_rest (bodies_after step bodies r) ≡ map at_rest bodies
  unfolding bodies_after
  after_rest bodies r = motion_rest _ r.entry.second _ ∙ motion_rest bodies r.entry.first _

  -- and so does a pass
  pub pass_bodies : (bodies : List BodyState) (rows : List Row)
      → map at_rest (pass step bodies rows).bodies ≡ map at_rest bodies
  unfolding pass
  pass_bodies bodies [] = refl
  pass_bodies bodies (r ∷ rows) = pass_bodies (bodies_after step bodies r) rows ∙ after_rest bodies r

  -- the step of a row leaves a body that the row does not touch
  after_away : (i : ℕ) (bodies : List BodyState) (r : Row) → IsAway i r
      → slice_get (bodies_after step bodies r) i ≡ slice_get bodies i
  unfolding bodies_after
  after_away i bodies r away =
      motion_away i _ r.entry.second _ away.1 ∙ motion_away i bodies r.entry.first _ away.0

  -- a pass leaves a body that no row touches
  pass_away : (i : ℕ) (bodies : List BodyState) (rows : List Row) → All (IsAway i) rows
      → slice_get (pass step bodies rows).bodies i ≡ slice_get bodies i
  unfolding pass
  pass_away i bodies [] away = refl
  pass_away i bodies (r ∷ rows) away =
      pass_away i (bodies_after step bodies r) rows (All-tail (IsAway i) r rows away)
      ∙ after_away i bodies r (All-head (IsAway i) r rows away)

  -- the same three of several passes
  pub passes_rows : (n : ℕ) (b : Batch) → map unloaded (passes n step b).rows ≡ map unloaded b.rows
  unfolding passes
  passes_rows zero b = refl
  passes_rows (suc n) b = pass_rows (passes n step b).bodies (passes n step b).rows ∙ passes_rows n b

  pub passes_bodies : (n : ℕ) (b : Batch) → map at_rest (passes n step b).bodies ≡ map at_rest b.bodies
  unfolding passes
  passes_bodies zero b = refl
  passes_bodies (suc n) b = pass_bodies (passes n step b).bodies (passes n step b).rows ∙ passes_bodies n b

  passes_away : (i n : ℕ) (b : Batch) → All (IsAway i) b.rows
      → slice_get (passes n step b).bodies i ≡ slice_get b.bodies i
  unfolding passes
  passes_away i zero b away = refl
  passes_away i (suc n) b away =
      pass_away i (passes n step b).bodies (passes n step b).rows
      (still (IsAway i) b.rows (passes n step b).rows (passes_rows n b) away)
      ∙ passes_away i n b away

-- after a round along all rows, all are within their limits
pass_limits : (bodies : List BodyState) (rows : List Row) → All IsLimited (pass after_round bodies rows).rows
unfolding pass row_after
pass_limits bodies [] = All-nil IsLimited
pass_limits bodies (r ∷ rows) =
    All-cons IsLimited (row_after after_round bodies r) (pass after_round (bodies_after after_round bodies r) rows).rows
    (record { normal = never_pulls r.constraint _; friction = within_friction r.constraint _ })
    (pass_limits (bodies_after after_round bodies r) rows)

-- and so they are after the last of several rounds
last_limits : (n : ℕ) (b : Batch) → All IsLimited (passes (suc n) after_round b).rows
unfolding passes
last_limits n b = pass_limits (passes n after_round b).bodies (passes n after_round b).rows

-- the contact points do not depend on accumulated impulses
touches_unloaded : (rows : List Row) → map (λ r. r.entry.touch) (map unloaded rows) ≡ map (λ r. r.entry.touch) rows
touches_unloaded [] = refl
touches_unloaded (r ∷ rows) = ap (λ rest. r.entry.touch ∷ rest) (touches_unloaded rows)

-- gravity on a body, where it is awake
abbrev if_fallen : V2 → BodyState → BodyState
if_fallen pull b = if b.awake then after_gravity pull b else b

-- position and timer of a body, where it is awake
abbrev if_moved : BodyState → BodyState
if_moved b = if b.awake then after_timer (after_motion b) else b

-- gravity changes velocities alone
fallen_rest : (pull : V2) (bodies : List BodyState) → map at_rest (map (if_fallen pull) bodies) ≡ map at_rest bodies
unfolding after_gravity
fallen_rest pull [] = refl
fallen_rest pull (b ∷ bodies) = ap₂ (λ (x : BodyState) rest. x ∷ rest) (by b.awake) (fallen_rest pull bodies)
  where
    by : (t : Bool) → at_rest (if t then after_gravity pull b else b) ≡ at_rest b
    by true = refl
    by false = refl

-- a body after gravity is moved where it was awake before
fallen_moved : (pull : V2) (b : BodyState)
    → if_moved (if_fallen pull b) ≡ (if b.awake then after_timer (after_motion (after_gravity pull b)) else b)
unfolding after_gravity
fallen_moved pull b = by b.awake refl
  where
    by : (t : Bool) → b.awake ≡ t
        → if_moved (if t then after_gravity pull b else b)
        ≡ (if t then after_timer (after_motion (after_gravity pull b)) else b)
    by true e = cond-true b.awake _ _ e
    by false e = cond-false b.awake _ _ e

-- the pre-step keeps the contact points
touches_prepared : (s : Scene) (bodies : List BodyState) (rows : List Row)
    → map (λ r. r.entry.touch) (map (prepared_row s bodies) rows) ≡ map (λ r. r.entry.touch) rows
unfolding prepared_row
touches_prepared s bodies [] = refl
touches_prepared s bodies (r ∷ rows) = ap (λ rest. r.entry.touch ∷ rest) (touches_prepared s bodies rows)

-- the pre-step keeps the sides
prepared_away : (s : Scene) (bodies : List BodyState) (i : ℕ) (rows : List Row) → All (IsAway i) rows
    → All (IsAway i) (map (prepared_row s bodies) rows)
unfolding prepared_row
prepared_away s bodies i rows away = All-map (IsAway i) (prepared_row s bodies) rows away

-- on either side a body has the friction of its fixture
anchored : (s : Scene) (bodies : List BodyState) (number : ℕ) (side : Side)
    → (pre_step_body s bodies number side).friction ≡ (fixture_at s number).friction
unfolding pre_step_body
anchored s bodies number Static = refl
anchored s bodies number (Dynamic place) = refl

-- the pre-step gives a row the friction of its two bodies
prepared_friction : (s : Scene) (bodies : List BodyState) (r : Row) → HasFriction s (prepared_row s bodies r)
unfolding prepared_row constraint_of
prepared_friction s bodies r =
    ap₂ friction_of (anchored s bodies r.entry.touch.a r.entry.first) (anchored s bodies r.entry.touch.b r.entry.second)

-- the phases one by one, of bodies and rows of a scene
module _ (s : Scene) (bodies : List BodyState) (rows : List Row) where
  abbrev pull : V2
  pull = gravity_per_tick s.gravity

  abbrev fallen : List BodyState
  fallen = each_awake (after_gravity pull) bodies

  abbrev prepared : List Row
  prepared = map (prepared_row s fallen) rows

  abbrev warm : Batch
  warm = pass after_warm_start fallen prepared

  abbrev after : Batch
  after = passes ROUNDS after_round warm

  -- after the rounds, the rows are those of the pre-step but for their accumulated impulses
  rows_same : map unloaded after.rows ≡ map unloaded prepared
  rows_same = passes_rows after_round ROUNDS warm ∙ pass_rows after_warm_start fallen prepared

  -- and the bodies are as before but for their velocities and spins
  bodies_same : map at_rest after.bodies ≡ map at_rest bodies
  bodies_same =
      passes_bodies after_round ROUNDS warm
      ∙ (pass_bodies after_warm_start fallen prepared ∙ fallen_rest pull bodies)

  -- the bodies stay as many
  pub solved_length : length (solved_batch s bodies rows).bodies ≡ length bodies
  unfolding solved_batch
  solved_length =
      length-map after.bodies if_moved
      ∙ (sym (length-map after.bodies at_rest) ∙ (ap length bodies_same ∙ length-map bodies at_rest))

  -- the contact points stay as they are
  pub solved_touches : map (λ r. r.entry.touch) (solved_batch s bodies rows).rows ≡ map (λ r. r.entry.touch) rows
  unfolding solved_batch
  solved_touches =
      sym (touches_unloaded after.rows)
      ∙ (ap (map (λ (r : Row). r.entry.touch)) rows_same ∙ (touches_unloaded prepared ∙ touches_prepared s fallen rows))

  -- rows stay at the places of their contacts
  pub solved_at_places : (contacts : List Contact) → All (IsRowAt contacts) rows
      → All (IsRowAt contacts) (solved_batch s bodies rows).rows
  unfolding solved_batch prepared_row
  solved_at_places contacts at =
      All-weaker (λ r. IsRowAt contacts (unloaded r)) (IsRowAt contacts)
      (λ r h. record { within = h.within; key = h.key }) after.rows
      (still (IsRowAt contacts) prepared after.rows rows_same
      (All-map (λ r. IsRowAt contacts (unloaded r)) (prepared_row s fallen) rows
      (All-weaker (IsRowAt contacts) (λ r. IsRowAt contacts (unloaded (prepared_row s fallen r)))
      (λ r h. record { within = h.within; key = h.key }) rows at)))

  -- rows keep their sides
  pub solved_sides : (P : Side → Side → Type 0) → All (λ r. P r.entry.first r.entry.second) rows
      → All (λ r. P r.entry.first r.entry.second) (solved_batch s bodies rows).rows
  unfolding solved_batch prepared_row
  solved_sides P at =
      still (λ r. P r.entry.first r.entry.second) prepared after.rows rows_same
      (All-map (λ r. P r.entry.first r.entry.second) (prepared_row s fallen) rows at)

  -- each body has another velocity and spin after the phase Velocities, and is then moved
  pub solved_body : (i : ℕ) (c : BodyState) → slice_get (solved_batch s bodies rows).bodies i ≡ Some c
      → IsSolvedAt bodies i c
  unfolding solved_batch
  solved_body i c found =
      let (m, m_stands, c_is) = from_map if_moved after.bodies i c found in
      let rests : slice_get (map at_rest bodies) i ≡ Some (at_rest m) =
      sym (ap (λ bs. slice_get bs i) bodies_same)
      ∙ (slice_get-map at_rest after.bodies i ∙ ap (option_map at_rest) m_stands) in
      let (b, b_stands, rest) = from_map at_rest bodies i (at_rest m) rests in
      record {
        before = b;
        velocity = m.velocity;
        spin = m.spin;
        stood = b_stands;
        moved = sym c_is ∙ ap (λ (x : BodyState). if_moved (record x { velocity = m.velocity; spin = m.spin })) (sym rest);
      }

  -- a body that no row touches has its velocity and spin after gravity
  pub untouched_body : (i : ℕ) (b : BodyState) → slice_get bodies i ≡ Some b → All (IsAway i) rows
      → slice_get (solved_batch s bodies rows).bodies i
      ≡ Some (if b.awake then after_timer (after_motion (after_gravity (gravity_per_tick s.gravity) b)) else b)
  unfolding solved_batch
  untouched_body i b stands away =
      let away_then = prepared_away s fallen i rows away in
      let away_warm = still (IsAway i) prepared warm.rows (pass_rows after_warm_start fallen prepared) away_then in
      let kept =
      passes_away after_round i ROUNDS warm away_warm ∙ pass_away after_warm_start i fallen prepared away_then in
      let fell = kept ∙ (slice_get-map (if_fallen pull) bodies i ∙ ap (option_map (if_fallen pull)) stands) in
      slice_get-map if_moved after.bodies i ∙ (ap (option_map if_moved) fell ∙ ap Some (fallen_moved pull b))

  -- the accumulated impulses of all rows are within their limits
  pub solved_limits : All IsLimited (solved_batch s bodies rows).rows
  unfolding solved_batch
  solved_limits = last_limits 9 warm

  -- the coefficient of friction of each row is that of its two bodies
  pub solved_friction : All (HasFriction s) (solved_batch s bodies rows).rows
  unfolding solved_batch
  solved_friction =
      still (HasFriction s) prepared after.rows rows_same
      (All-map (HasFriction s) (prepared_row s fallen) rows
      (λ k d within. prepared_friction s fallen (slice_index_or rows k d)))
