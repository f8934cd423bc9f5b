-- What the contacts of a group accumulate alone in a tick is what they accumulate in the tick.
use Rattle.std.proofs.Common.{◌≡◌, ◌∙◌, ℕ, zero, suc, ◌==◌, Bool, true, false, List, [], ◌∷◌, Some, length, map, option_map, refl, sym, ap, subst, slice_get, if◌then◌else◌}
use Rattle.std.proofs.lemmas.Bool.{eq-eqb, eqb-true, true≢false}
use Rattle.std.proofs.lemmas.List.Elements.{All-filter, All-map}
use Rattle.std.proofs.lemmas.Option.{slice_get-map}
use Rattle.std.specs.Prelude.{All}
use Rattle.pf_shapes.specs.Scene.{IsScene, Scene}
use Rattle.pf_manifold.specs.Key.{key_of, rank}
use Rattle.pf_manifold.specs.Touches.{Touch}
use Rattle.pf_commands.specs.declared.payload.Payload.{Payload}
use Rattle.pf_rows.specs.Impulses.{Impulses}
use Rattle.pf_cache.specs.Contact.{Contact, impulses_at, next_contacts}
use Rattle.pf_rows.specs.Row.{AreRows, Row, impulses_or}
use Rattle.pf_cache.specs.ContactRows.{with_rows}
use Rattle.pf_cache.proofs.FoundRows.{all_found, row_rank, rows_rise}
use Rattle.pf_islands.specs.Island.{states_of, touches_one, row_among, rows_among, group_members}
use Rattle.pf_solver.specs.Solve.{solved_batch}
use Rattle.pf_solver.specs.Velocities.{Batch}
use Rattle.pf_solver.proofs.Solved.{solved_touches}
use Rattle.pf_step.specs.Commands.{after_commands}
use Rattle.pf_step.specs.Activity.{batch_of_tick, labels_of_tick}
use Rattle.pf_islands.specs.Rows.{row_of}
use Rattle.pf_step.specs.Step.{step, touches_of_scene}
use Rattle.pf_step.specs.World.{World}
use Rattle.pf_islands.proofs.ActiveRows.{HoldsWhere, all_rows, rows_in_order}
use Rattle.pf_step.proofs.Apart.{groups_alone}
use Rattle.pf_step.proofs.Commanding.{commands_length}
use Rattle.pf_islands.proofs.Elements.{all_from, same_element}
use Rattle.pf_step.proofs.Touching.{points_in_order}
use Rattle.pf_cache.proofs.Splicing.{all_unmap}

-- some contact has the key of a contact point
abbrev HasContact : List Contact → Touch → Type 0
HasContact contacts t =
    (k : ℕ) × (c : Contact) × (slice_get contacts k ≡ Some c) × (rank c.key ≡ rank (key_of t))

-- a contact has the impulses of the row of its key
stored_at : (n : ℕ) (p : Impulses) (contacts : List Contact) (rows : List Row) (k : ℕ) (c : Contact)
    → slice_get contacts k ≡ Some c → rank c.key ≡ n → ((q : Impulses) → impulses_or q n rows ≡ p)
    → impulses_at n (with_rows contacts rows) ≡ p
unfolding with_rows
stored_at n p [] rows k c here is found = absurd cc
stored_at n p (x ∷ contacts) rows k c here is found =
    by (rank x.key == n) refl k here (λ j there. stored_at n p contacts rows j c there is found)
  where
    by : (t : Bool) → (rank x.key == n) ≡ t → (i : ℕ) → slice_get (x ∷ contacts) i ≡ Some c
        → ((j : ℕ) → slice_get contacts j ≡ Some c → impulses_at n (with_rows contacts rows) ≡ p)
        → (if t then impulses_or x.impulses (rank x.key) rows else impulses_at n (with_rows contacts rows)) ≡ p
    by true e i there rest =
        ap (λ m. impulses_or x.impulses m rows) (eqb-true (rank x.key) n e) ∙ found x.impulses
    by false e zero there rest =
        let same : x ≡ c = same_element x c there in
        absurd (true≢false (sym (eq-eqb (rank x.key) n (ap (λ (y : Contact). rank y.key) same ∙ is)) ∙ e))
    by false e (suc j) there rest = rest j there

-- an update has a contact for each point
updated_has : (old : List Contact) (points : List Touch) (k : ℕ) (t : Touch) → slice_get points k ≡ Some t
    → HasContact (next_contacts old points) t
unfolding next_contacts
updated_has old points k t here =
    (k, _, slice_get-map _ points k ∙ ap (option_map _) here, refl)

module _ (s : Scene) (w : World) (payloads : List Payload) (paired : length w.bodies ≡ length s.fixtures) (scene : IsScene s) where
  abbrev points : List Touch
  points = touches_of_scene s (after_commands s.fixtures w.bodies payloads)

  abbrev contacts : List Contact
  contacts = next_contacts w.contacts points

  abbrev batch : Batch
  batch = batch_of_tick s w payloads

  abbrev after : List Row
  after = (solved_batch s batch.bodies batch.rows).rows

  -- the rows have the contact points that they had, in their order
  same_touches : map (λ r. r.entry.touch) after ≡ map (λ r. r.entry.touch) batch.rows
  same_touches = solved_touches s batch.bodies batch.rows

  in_order : AreRows after
  in_order =
      let count = commands_length s.fixtures w.bodies payloads ∙ paired in
      let before : AreRows batch.rows =
      rows_in_order s batch.bodies points contacts (points_in_order s (after_commands s.fixtures w.bodies payloads) count scene) in
      record {
        rising = rw (same_touches) before.rising;
        keys = rw (same_touches) before.keys;
      }

  rows_have_contacts : All (λ r. HasContact contacts r.entry.touch) batch.rows
  unfolding row_of
  rows_have_contacts =
      all_rows s batch.bodies (λ r. HasContact contacts r.entry.touch) points contacts
      (all_from (HoldsWhere s batch.bodies (λ r. HasContact contacts r.entry.touch)) points
      (λ k t stands active place c. updated_has w.contacts points k t stands))

  have_contacts : All (λ r. HasContact contacts r.entry.touch) after
  have_contacts =
      all_unmap (HasContact contacts) (λ (r : Row). r.entry.touch) after
      (subst (All (HasContact contacts)) (sym same_touches)
      (All-map (HasContact contacts) (λ (r : Row). r.entry.touch) batch.rows rows_have_contacts))

  -- each row's impulses are those of its contact after the tick
  stored : All (λ r. impulses_at (row_rank r) (step s w payloads).contacts ≡ r.entry.impulses) after
  unfolding step
  stored =
      λ k d within.
      let has = have_contacts k d within in
      stored_at _ _ contacts after has.0 has.1 has.2 has.3
      (λ q. all_found q 0 after (rows_rise after in_order) k d within)

  -- and so are those of a group alone
  pub group_stored : (label : ℕ)
      → let own = group_members (labels_of_tick s w payloads) label in
      All (λ r. impulses_at (rank (key_of r.entry.touch)) (step s w payloads).contacts ≡ r.entry.impulses)
      (solved_batch s (states_of own batch.bodies) (rows_among own batch.rows)).rows
  group_stored label =
      let own = group_members (labels_of_tick s w payloads) label in
      let Stored : Row → Type 0 =
      λ r. impulses_at (rank (key_of r.entry.touch)) (step s w payloads).contacts ≡ r.entry.impulses in
      subst (λ (b : Batch). All Stored b.rows) (sym (groups_alone s w payloads label paired))
      (All-map Stored (row_among own) _ (All-filter (touches_one own) Stored after stored))
