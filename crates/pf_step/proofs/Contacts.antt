-- The contacts of a world: their keys, and the limits of their accumulated impulses.
use Rattle.std.proofs.Common.{◌≡◌, ◌<◌, ◌⊎◌, inl, inr, ℕ, zero, suc, ◌==◌, ℤ, pos, neg_ℤ, ◌≤ℤ◌, Bool, true, false, List, [], ◌∷◌, length, map, refl, ap, ap₂, sym, ◌∙◌, subst, arith, get_or, cond, if◌then◌else◌}
use Rattle.std.proofs.lemmas.Bool.{cases_order, eqb-true}
use Rattle.std.proofs.lemmas.List.Elements.{All-nil, All-cons, All-head, All-map, All-tail}
use Rattle.std.proofs.lemmas.Int.{ints}
use Rattle.std.proofs.lemmas.Simd.{map-map}
use Rattle.std.specs.Prelude.{All}
use Rattle.pf_num.specs.Fx.{product, root}
use Rattle.pf_num.proofs.Operations.{product-zero, product_comm}
use Rattle.pf_shapes.specs.Body.{BodyState}
use Rattle.pf_shapes.specs.Pair.{IsPairOf}
use Rattle.pf_shapes.specs.Scene.{IsScene, Scene, fixture_at}
use Rattle.pf_commands.specs.declared.payload.Payload.{Payload}
use Rattle.pf_commands.specs.Merge.{CommandMap, payloads_at}
use Rattle.pf_manifold.specs.Key.{AreTouches, IsKey, IsRising, Key, key_of, rank}
use Rattle.pf_manifold.specs.Touches.{IsTouchOf, Touch}
use Rattle.pf_rows.specs.Impulses.{Impulses, no_impulses}
use Rattle.pf_cache.specs.Contact.{AreContacts, Contact, impulses_at, next_contacts}
use Rattle.pf_rows.specs.Row.{AreRows, Row, impulses_or}
use Rattle.pf_cache.specs.ContactRows.{with_rows}
use Rattle.pf_cache.proofs.Kept.{same_keys}
use Rattle.pf_islands.specs.Group.{groups}
use Rattle.pf_islands.specs.Sleep.{woken_bodies}
use Rattle.pf_solver.specs.Constraint.{friction_of}
use Rattle.pf_solver.specs.Impulse.{friction_limit}
use Rattle.pf_solver.specs.Solve.{solved_batch}
use Rattle.pf_solver.proofs.Solved.{HasFriction, IsLimited, solved_friction, solved_limits, solved_touches}
use Rattle.pf_step.specs.Commands.{after_commands}
use Rattle.pf_step.specs.Laws.{IsWithinFriction}
use Rattle.pf_islands.specs.Rows.{active_rows}
use Rattle.pf_step.specs.Simulation.{sim}
use Rattle.pf_step.specs.Step.{step, touches_of_scene}
use Rattle.pf_step.specs.World.{World, start_world}
use Rattle.pf_islands.proofs.ActiveRows.{rows_in_order}
use Rattle.pf_step.proofs.Commanding.{commands_length}
use Rattle.pf_step.proofs.Lengths.{sim_length}
use Rattle.pf_step.proofs.Touching.{points_in_order, points_of_bodies}
use Rattle.pf_cache.proofs.Splicing.{all_unmap}
use Rattle.pf_manifold.proofs.BestAxis.{times-positive}

-- ---- numbers

no_less : (z : ℤ) → z ≤ℤ z
no_less z = omega (arith, ints)

either_from_zero : (e : Bool) (n : ℕ) → pos 0 ≤ℤ cond e (pos 0) (pos n)
either_from_zero true n = omega (arith, ints)
either_from_zero false n = omega (arith, ints)

-- a coefficient of friction is not negative
root_from_zero : (a : ℤ) → pos 0 ≤ℤ root a
unfolding root
root_from_zero a = either_from_zero _ _

friction_from_zero : (a b : ℤ) → pos 0 ≤ℤ friction_of a b
unfolding friction_of
friction_from_zero a b = root_from_zero (product a b)

-- ---- keys of one rank

pub same_bodies : (k l : Key) → IsKey k → IsKey l → rank k ≡ rank l → (k.a ≡ l.a) × (k.b ≡ l.b)
same_bodies k l hk hl e = (first (cases_order k.a l.a), second (cases_order k.b l.b))
  where
    first : (k.a ≡ l.a) ⊎ ((k.a < l.a) ⊎ (l.a < k.a)) → k.a ≡ l.a
    first (inl same) = same
    first (inr (inl less)) = absurd (omega (arith, less, e, hk.bodies, hk.feature, hl.bodies, hl.feature))
    first (inr (inr less)) = absurd (omega (arith, less, e, hk.bodies, hk.feature, hl.bodies, hl.feature))

    second : (k.b ≡ l.b) ⊎ ((k.b < l.b) ⊎ (l.b < k.b)) → k.b ≡ l.b
    second (inl same) = same
    second (inr (inl less)) =
        absurd (omega (arith, less, e, first (cases_order k.a l.a), hk.feature, hl.feature))
    second (inr (inr less)) =
        absurd (omega (arith, less, e, first (cases_order k.a l.a), hk.feature, hl.feature))

-- ---- limits

module _ (s : Scene) where
  abbrev Limited : Contact → Type 0
  Limited c = IsWithinFriction s c.key c.impulses

  -- the same limits for each key of the two bodies
  other_key : (k l : Key) (p : Impulses) → IsKey k → IsKey l → rank k ≡ rank l → IsWithinFriction s k p → IsWithinFriction s l p
  other_key k l p hk hl e h =
      let same = same_bodies k l hk hl e in record {
        normal = h.normal;
        friction = subst
            (λ (f : ℤ). (neg_ℤ (product f p.normal) ≤ℤ p.tangent) × (p.tangent ≤ℤ product f p.normal))
            (ap₂ (λ (a b : ℕ). friction_of (fixture_at s a).friction (fixture_at s b).friction) same.0 same.1) h.friction;
      }

  none_limited : (k : Key) → IsWithinFriction s k no_impulses
  none_limited k =
      let f = friction_of (fixture_at s k.a).friction (fixture_at s k.b).friction in
      let none : product f (pos 0) ≡ pos 0 = product_comm f (pos 0) ∙ product-zero f in record {
        normal = no_less (pos 0);
        friction = rw none (no_less (pos 0), no_less (pos 0));
      }

  row_limited : (r : Row) → IsLimited r → HasFriction s r → IsWithinFriction s (key_of r.entry.touch) r.entry.impulses
  unfolding friction_limit
  row_limited r limited is =
      let p = r.entry.impulses in
      let f = friction_of (fixture_at s r.entry.touch.a).friction (fixture_at s r.entry.touch.b).friction in
      let low : pos 0 ≤ℤ product r.constraint.friction p.normal =
      subst (λ (x : ℤ). pos 0 ≤ℤ product x p.normal) (sym is)
      (times-positive f p.normal (friction_from_zero (fixture_at s r.entry.touch.a).friction (fixture_at s r.entry.touch.b).friction) limited.normal) in
      record {
        normal = limited.normal;
        friction = subst
            (λ (x : ℤ). (neg_ℤ (product x p.normal) ≤ℤ p.tangent) × (p.tangent ≤ℤ product x p.normal)) is
            (limited.friction low);
      }

  -- of the impulses that are found by a rank
  old_limited : (k : Key) → IsKey k → (old : List Contact) → All (λ c. IsKey c.key) old → All Limited old
      → IsWithinFriction s k (impulses_at (rank k) old)
  old_limited k key [] keys h = none_limited k
  old_limited k key (c ∷ old) keys h =
      by (rank c.key == rank k) refl
      (old_limited k key old (All-tail (λ x. IsKey x.key) c old keys) (All-tail Limited c old h))
    where
      by : (t : Bool) → (rank c.key == rank k) ≡ t → IsWithinFriction s k (impulses_at (rank k) old)
          → IsWithinFriction s k (if t then c.impulses else impulses_at (rank k) old)
      by true e rest =
          other_key c.key k c.impulses (All-head (λ x. IsKey x.key) c old keys) key (eqb-true (rank c.key) (rank k) e)
          (All-head Limited c old h)
      by false e rest = rest

  abbrev RowLimited : Row → Type 0
  RowLimited r = IsKey (key_of r.entry.touch) × IsWithinFriction s (key_of r.entry.touch) r.entry.impulses

  rows_limited : (k : Key) → IsKey k → (p : Impulses) → IsWithinFriction s k p → (rows : List Row) → All RowLimited rows
      → IsWithinFriction s k (impulses_or p (rank k) rows)
  rows_limited k key p own [] h = own
  rows_limited k key p own (r ∷ rows) h =
      by (rank (key_of r.entry.touch) == rank k) refl
      (rows_limited k key p own rows (All-tail RowLimited r rows h))
    where
      by : (t : Bool) → (rank (key_of r.entry.touch) == rank k) ≡ t → IsWithinFriction s k (impulses_or p (rank k) rows)
          → IsWithinFriction s k (if t then r.entry.impulses else impulses_or p (rank k) rows)
      by true e rest =
          let here = All-head RowLimited r rows h in
          other_key (key_of r.entry.touch) k r.entry.impulses here.0 key (eqb-true (rank (key_of r.entry.touch)) (rank k) e) here.1
      by false e rest = rest

  all_limited : (old : List Contact) (points : List Touch) (rows : List Row) → All (λ t. IsKey (key_of t)) points
      → All (λ c. IsKey c.key) old → All Limited old → All RowLimited rows
      → All Limited (with_rows (next_contacts old points) rows)
  unfolding with_rows next_contacts
  all_limited old [] rows keys old_keys h limited = All-nil Limited
  all_limited old (t ∷ points) rows keys old_keys h limited =
      let key = All-head (λ x. IsKey (key_of x)) t points keys in
      let k = key_of t in
      let p = impulses_at (rank k) old in
      All-cons Limited (record { key = k; impulses = impulses_or p (rank k) rows }) (with_rows (next_contacts old points) rows)
      (rows_limited k key p (old_limited k key old old_keys h) rows limited)
      (all_limited old points rows (All-tail (λ x. IsKey (key_of x)) t points keys) old_keys h limited)

-- ---- keys

rows_keep_keys : (contacts : List Contact) (rows : List Row) → map (λ c. c.key) (with_rows contacts rows) ≡ map (λ c. c.key) contacts
unfolding with_rows
rows_keep_keys [] rows = refl
rows_keep_keys (c ∷ contacts) rows = ap (λ rest. c.key ∷ rest) (rows_keep_keys contacts rows)

pub step_keys : (s : Scene) (w : World) (payloads : List Payload)
    → map (λ c. c.key) (step s w payloads).contacts ≡ map key_of (touches_of_scene s (after_commands s.fixtures w.bodies payloads))
unfolding step
step_keys s w payloads = rows_keep_keys _ _ ∙ same_keys w.contacts (touches_of_scene s (after_commands s.fixtures w.bodies payloads))

-- contacts with the keys of contact points are in their order
same_order : (points : List Touch) (contacts : List Contact) → map (λ c. c.key) contacts ≡ map key_of points → AreTouches points
    → AreContacts contacts
same_order points contacts same order = record {
  rising = subst (IsRising 0)
      (sym (map-map rank key_of points) ∙ ap (map rank) (sym same) ∙ map-map rank (λ (c : Contact). c.key) contacts) order.rising;
  keys = all_unmap IsKey (λ (c : Contact). c.key) contacts
      (subst (All IsKey) (sym same) (All-map IsKey key_of points order.keys));
}

-- ---- worlds

module _ (s : Scene) (scene : IsScene s) where
  abbrev LimitedRow : Row → Type 0
  LimitedRow r = IsKey (key_of r.entry.touch) × IsWithinFriction s (key_of r.entry.touch) r.entry.impulses

  -- solved rows have keys, and their accumulated impulses are within their limits
  solved_rows : (bodies : List BodyState) (rows : List Row) → AreRows rows → All LimitedRow (solved_batch s bodies rows).rows
  solved_rows bodies rows order =
      let after = (solved_batch s bodies rows).rows in
      let keys : All (λ (r : Row). IsKey (key_of r.entry.touch)) after =
      all_unmap (λ (t : Touch). IsKey (key_of t)) (λ (r : Row). r.entry.touch) after
      (subst (All (λ (t : Touch). IsKey (key_of t))) (sym (solved_touches s bodies rows)) order.keys) in
      let limits = solved_limits s bodies rows in
      let friction = solved_friction s bodies rows in
      λ k d within.
      (keys k d within, row_limited s (get_or after k d) (limits k d within) (friction k d within))

  step_limited : (w : World) (payloads : List Payload) → length w.bodies ≡ length s.fixtures
      → AreContacts w.contacts → All (Limited s) w.contacts → All (Limited s) (step s w payloads).contacts
  unfolding step
  step_limited w payloads paired order h =
      let commanded = after_commands s.fixtures w.bodies payloads in
      let points = touches_of_scene s commanded in
      let count = commands_length s.fixtures w.bodies payloads ∙ paired in
      let in_order = points_in_order s commanded count scene in
      let awake = woken_bodies (groups s points) commanded in
      let rows = active_rows s awake points (next_contacts w.contacts points) in
      all_limited s w.contacts points (solved_batch s awake rows).rows in_order.keys order.keys h
      (solved_rows awake rows (rows_in_order s awake points (next_contacts w.contacts points) in_order))

  step_order : (w : World) (payloads : List Payload) → length w.bodies ≡ length s.fixtures
      → AreContacts (step s w payloads).contacts
  step_order w payloads paired =
      let commanded = after_commands s.fixtures w.bodies payloads in
      let points = touches_of_scene s commanded in
      let count = commands_length s.fixtures w.bodies payloads ∙ paired in
      let in_order = points_in_order s commanded count scene in
      same_order points (step s w payloads).contacts (step_keys s w payloads) in_order

  pub sim_order : (m : CommandMap) (tick : ℕ) → AreContacts (sim s m tick).contacts
  unfolding sim start_world
  sim_order m zero = record { rising = tt; keys = All-nil (λ c. IsKey c.key) }
  sim_order m (suc tick) = step_order (sim s m tick) (payloads_at m tick) (sim_length s m tick scene)

  -- their keys are those of two bodies of the scene
  pub sim_pairs : (m : CommandMap) (tick : ℕ)
      → All (λ c. IsPairOf (length s.fixtures) (record { a = c.key.a; b = c.key.b })) (sim s m (suc tick)).contacts
  unfolding sim
  sim_pairs m tick =
      let w = sim s m tick in
      let bodies = after_commands s.fixtures w.bodies (payloads_at m tick) in
      let count : length bodies ≡ length s.fixtures =
      commands_length s.fixtures w.bodies (payloads_at m tick) ∙ sim_length s m tick scene in
      let P : Key → Type 0 = λ k. IsPairOf (length s.fixtures) (record { a = k.a; b = k.b }) in
      let points : All (λ t. P (key_of t)) (touches_of_scene s bodies) =
      subst (λ n. All (IsTouchOf n) (touches_of_scene s bodies)) count (points_of_bodies s bodies count) in
      all_unmap P (λ (c : Contact). c.key) (step s w (payloads_at m tick)).contacts
      (subst (All P) (sym (step_keys s w (payloads_at m tick))) (All-map P key_of (touches_of_scene s bodies) points))

  pub sim_limited : (m : CommandMap) (tick : ℕ) → All (Limited s) (sim s m tick).contacts
  unfolding sim start_world
  sim_limited m zero = All-nil (Limited s)
  sim_limited m (suc tick) =
      step_limited (sim s m tick) (payloads_at m tick) (sim_length s m tick scene) (sim_order m tick) (sim_limited m tick)
