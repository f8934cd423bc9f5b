-- No contact leads out of a group to another dynamic body, so groups are solved alone.
use Rattle.std.proofs.Common.{◌≡◌, ◌∙◌, ℕ, ◌<◌, ◌==◌, List, length, sym, subst, arith}
use Rattle.std.proofs.lemmas.List.Elements.{All-filter, All-weaker}
use Rattle.std.specs.List.{range_with_len}
use Rattle.std.specs.Prelude.{All, slice_index_or}
use Rattle.pf_shapes.specs.Scene.{Scene}
use Rattle.pf_manifold.specs.Key.{IsRising}
use Rattle.pf_manifold.specs.Touches.{IsTouchOf, Touch}
use Rattle.pf_commands.specs.declared.payload.Payload.{Payload}
use Rattle.pf_cache.specs.Contact.{next_contacts}
use Rattle.pf_islands.specs.Split.{IsActiveRow}
use Rattle.pf_islands.proofs.Together.{rows_are_active}
use Rattle.pf_islands.proofs.Whole.{own_or_other}
use Rattle.pf_islands.specs.Group.{groups}
use Rattle.pf_islands.specs.Sleep.{woken_bodies}
use Rattle.pf_cache.proofs.ChosenNumbers.{range_within}
use Rattle.pf_islands.proofs.Members.{filter_rises, range_rises}
use Rattle.pf_islands.proofs.Starting.{groups_long}
use Rattle.pf_solver.specs.Alone.{seen_from}
use Rattle.pf_islands.specs.Island.{states_of, rows_among, IsOwnOrOther, group_members}
use Rattle.pf_solver.specs.Solve.{solved_batch}
use Rattle.pf_solver.proofs.Seen.{solved_seen}
use Rattle.pf_step.specs.Commands.{after_commands}
use Rattle.pf_step.specs.Activity.{batch_of_tick, labels_of_tick}
use Rattle.pf_islands.specs.Rows.{active_rows}
use Rattle.pf_step.specs.Step.{touches_of_scene}
use Rattle.pf_step.specs.World.{World}
use Rattle.pf_step.proofs.Commanding.{commands_length}
use Rattle.pf_step.proofs.Lengths.{woken_length}
use Rattle.pf_step.proofs.Touching.{points_of_bodies}

-- ---- members

module _ (s : Scene) (touches : List Touch) (label : ℕ) where
  abbrev labels : List ℕ
  labels = groups s touches

  abbrev numbers : List ℕ
  numbers = group_members labels label

  numbers_rise : IsRising 0 numbers
  numbers_rise =
      filter_rises (λ i. slice_index_or labels i 0 == label) 0 (range_with_len 0 (length labels))
      (range_rises 0 (length labels))

  numbers_within : All (λ n. n < length s.fixtures) numbers
  numbers_within =
      All-filter (λ i. slice_index_or labels i 0 == label) (λ n. n < length s.fixtures) (range_with_len 0 (length labels))
      (range_within 0 (length labels) (length s.fixtures) (omega (arith, groups_long s touches)))

-- ---- a tick

-- so each group is solved alone as it is in the one list
pub groups_alone : (s : Scene) (w : World) (payloads : List Payload) (label : ℕ)
    → length w.bodies ≡ length s.fixtures
    → let batch = batch_of_tick s w payloads in
    let own = group_members (labels_of_tick s w payloads) label in
    solved_batch s (states_of own batch.bodies) (rows_among own batch.rows)
    ≡ seen_from own (solved_batch s batch.bodies batch.rows)
groups_alone s w payloads label paired =
    let commanded = after_commands s.fixtures w.bodies payloads in
    let count = commands_length s.fixtures w.bodies payloads ∙ paired in
    let points = touches_of_scene s commanded in
    let awake = woken_bodies (groups s points) commanded in
    let long =
    woken_length (groups s points) commanded (groups_long s points ∙ sym count) ∙ count in
    solved_seen (group_members (groups s points) label) s awake
    (active_rows s awake points (next_contacts w.contacts points))
    (numbers_rise s points label)
    (subst (λ n. All (λ i. i < n) (group_members (groups s points) label)) (sym long) (numbers_within s points label))
    (All-weaker (IsActiveRow (groups s points) awake) (IsOwnOrOther (group_members (groups s points) label))
    (λ r is. own_or_other (groups s points) awake label r is) (active_rows s awake points (next_contacts w.contacts points))
    (rows_are_active s points awake (next_contacts w.contacts points) long
    (subst (λ n. All (IsTouchOf n) points) (count ∙ sym long) (points_of_bodies s commanded count))))
