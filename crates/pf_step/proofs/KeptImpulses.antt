-- Contacts that are not simulated keep their accumulated impulses.
use Rattle.std.proofs.Common.{◌≡◌, ◌≢◌, ◌⊎◌, ℕ, zero, suc, ◌==◌, Bool, true, false, List, [], ◌∷◌, Some, length, refl, ap, ap₂, sym, ◌∙◌, subst, arith, slice_get, if◌then◌else◌}
use Rattle.std.proofs.lemmas.Bool.{eqb-true, eq-eqb, ne_eqb, true≢false}
use Rattle.std.proofs.lemmas.List.Elements.{All-head, All-map, All-tail}
use Rattle.std.specs.Prelude.{All, ◌||◌}
use Rattle.pf_shapes.specs.Body.{BodyState}
use Rattle.pf_shapes.specs.Scene.{IsScene, Scene, is_static_at}
use Rattle.pf_commands.specs.Merge.{CommandMap, payloads_at}
use Rattle.pf_manifold.specs.Key.{IsKey, key_of, rank}
use Rattle.pf_manifold.specs.Touches.{IsTouchOf, Touch}
use Rattle.pf_rows.specs.Impulses.{Impulses}
use Rattle.pf_cache.specs.Contact.{Contact, impulses_at, next_contacts}
use Rattle.pf_rows.specs.Row.{Row, impulses_or}
use Rattle.pf_cache.specs.ContactRows.{with_rows}
use Rattle.pf_islands.specs.Group.{groups}
use Rattle.pf_islands.specs.Sleep.{woken_bodies}
use Rattle.pf_solver.specs.Solve.{solved_batch}
use Rattle.pf_solver.proofs.Solved.{solved_touches}
use Rattle.pf_step.specs.Laws.{IsUndisturbed, commanded_bodies}
use Rattle.pf_islands.specs.Rows.{active_rows, is_active_contact, is_simulated_at, row_of}
use Rattle.pf_step.specs.Simulation.{sim}
use Rattle.pf_step.specs.Step.{step, touches_of_scene}
use Rattle.pf_islands.proofs.ActiveRows.{HoldsWhere, all_rows}
use Rattle.pf_step.proofs.Commanding.{commands_length}
use Rattle.pf_step.proofs.Contacts.{same_bodies}
use Rattle.pf_islands.proofs.Elements.{all_at, all_from, same_element}
use Rattle.pf_step.proofs.Lengths.{sim_length}
use Rattle.pf_step.proofs.Touching.{points_in_order, points_of_bodies}
use Rattle.pf_step.proofs.Undisturbed.{contact_inactive, statics_sleep}
use Rattle.pf_cache.proofs.Splicing.{all_unmap}

abbrev IsOther : ℕ → Touch → Type 0
IsOther n t = rank (key_of t) ≢ n

-- where no row has this rank, nothing is found
none_found : (p : Impulses) (n : ℕ) (rows : List Row) → All (λ r. IsOther n r.entry.touch) rows → impulses_or p n rows ≡ p
none_found p n [] h = refl
none_found p n (r ∷ rows) h =
    rw (ne_eqb (rank (key_of r.entry.touch)) n (All-head (λ (x : Row). IsOther n x.entry.touch) r rows h))
    (none_found p n rows (All-tail (λ (x : Row). IsOther n x.entry.touch) r rows h))

stays_at : (n : ℕ) (contacts : List Contact) (rows : List Row) → All (λ r. IsOther n r.entry.touch) rows
    → impulses_at n (with_rows contacts rows) ≡ impulses_at n contacts
unfolding with_rows
stays_at n [] rows h = refl
stays_at n (c ∷ contacts) rows h = by (rank c.key == n) refl (stays_at n contacts rows h)
  where
    by : (t : Bool) → (rank c.key == n) ≡ t → impulses_at n (with_rows contacts rows) ≡ impulses_at n contacts
        → (if t then impulses_or c.impulses (rank c.key) rows else impulses_at n (with_rows contacts rows))
        ≡ (if t then c.impulses else impulses_at n contacts)
    by true e rest =
        let same : rank c.key ≡ n = eqb-true (rank c.key) n e in
        none_found c.impulses (rank c.key) rows (subst (λ m. All (λ r. IsOther m r.entry.touch) rows) (sym same) h)
    by false e rest = rest

-- an update keeps the impulses of each key that has a point
kept_at : (old : List Contact) (points : List Touch) (k : ℕ) (t : Touch) → slice_get points k ≡ Some t
    → impulses_at (rank (key_of t)) (next_contacts old points) ≡ impulses_at (rank (key_of t)) old
unfolding next_contacts
kept_at old [] k t here = absurd cc
kept_at old (x ∷ points) zero t here =
    let is : x ≡ t = same_element x t here in
    rw (← is, eq-eqb (rank (key_of x)) (rank (key_of x)) refl) refl
kept_at old (x ∷ points) (suc k) t here = by (rank (key_of x) == rank (key_of t)) refl (kept_at old points k t here)
  where
    by : (e : Bool) → (rank (key_of x) == rank (key_of t)) ≡ e
        → impulses_at (rank (key_of t)) (next_contacts old points) ≡ impulses_at (rank (key_of t)) old
        → (if e then impulses_at (rank (key_of x)) old else impulses_at (rank (key_of t)) (next_contacts old points))
        ≡ impulses_at (rank (key_of t)) old
    by true test rest = ap (λ n. impulses_at n old) (eqb-true (rank (key_of x)) (rank (key_of t)) test)
    by false test rest = rest

module _ (s : Scene) (scene : IsScene s) (m : CommandMap) (tick : ℕ) where
  abbrev bodies : List BodyState
  bodies = commanded_bodies s m tick

  abbrev points : List Touch
  points = touches_of_scene s bodies

  abbrev awake : List BodyState
  awake = woken_bodies (groups s points) bodies

  abbrev contacts : List Contact
  contacts = next_contacts (sim s m tick).contacts points

  abbrev rows : List Row
  rows = active_rows s awake points contacts

  count : length bodies ≡ length s.fixtures
  count = commands_length s.fixtures (sim s m tick).bodies (payloads_at m tick) ∙ sim_length s m tick scene

  -- a contact that is simulated has another rank than one that is not
  other_rank : (k j : ℕ) (t u : Touch) → slice_get points k ≡ Some t → is_active_contact s awake t ≡ false
      → slice_get points j ≡ Some u → is_active_contact s awake u ≡ true → IsOther (rank (key_of t)) u
  unfolding is_active_contact
  other_rank k j t u here inactive there active same =
      let keys = (points_in_order s bodies count scene).keys in
      let one = same_bodies (key_of u) (key_of t)
      (all_at (λ x. IsKey (key_of x)) points j u keys there) (all_at (λ x. IsKey (key_of x)) points k t keys here) same in
      true≢false (sym active
      ∙ ap₂ (λ a b. is_simulated_at s awake a || is_simulated_at s awake b) one.0 one.1 ∙ inactive)

  others : (k : ℕ) (t : Touch) → slice_get points k ≡ Some t → is_active_contact s awake t ≡ false
      → All (λ r. IsOther (rank (key_of t)) r.entry.touch) (solved_batch s awake rows).rows
  unfolding row_of
  others k t here inactive =
      let n = rank (key_of t) in
      let before : All (λ (r : Row). IsOther n r.entry.touch) rows =
      all_rows s awake (λ r. IsOther n r.entry.touch) points contacts
      (all_from (HoldsWhere s awake (λ r. IsOther n r.entry.touch)) points
      (λ j u there active place c. other_rank k j t u here inactive there active)) in
      all_unmap (IsOther n) (λ (r : Row). r.entry.touch) (solved_batch s awake rows).rows
      (subst (All (IsOther n)) (sym (solved_touches s awake rows))
      (All-map (IsOther n) (λ (r : Row). r.entry.touch) rows before))

  pub kept_impulses : (i : ℕ) (b : BodyState) (k : ℕ) (t : Touch) → slice_get bodies i ≡ Some b
      → is_static_at s i ≡ false → IsUndisturbed s bodies i → slice_get points k ≡ Some t → (t.a ≡ i) ⊎ (t.b ≡ i)
      → impulses_at (rank (key_of t)) (sim s m (suc tick)).contacts ≡ impulses_at (rank (key_of t)) (sim s m tick).contacts
  unfolding sim step
  kept_impulses i b k t there dynamic quiet here labels =
      let of = all_at (IsTouchOf (length bodies)) points k t (points_of_bodies s bodies count) here in
      let inactive : is_active_contact s awake t ≡ false =
      contact_inactive s (sim s m tick).contacts bodies count (statics_sleep s m tick scene) i b there quiet dynamic k t here
      (omega (arith, of.0, of.1)) of.1 labels in
      stays_at (rank (key_of t)) contacts (solved_batch s awake rows).rows (others k t here inactive)
      ∙ kept_at (sim s m tick).contacts points k t here
