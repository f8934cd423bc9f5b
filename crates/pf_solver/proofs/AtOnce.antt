-- The rows of a level may be solved at once.
use Rattle.std.proofs.Common.{◌≡◌, ◌≢◌, ◌∙◌, ℕ, None, Option, Some, List, [], ◌∷◌, map, refl, sym, ap}
use Rattle.std.proofs.lemmas.List.Elements.{All-cons, All-head, All-nil, All-tail}
use Rattle.std.specs.List.{fold}
use Rattle.std.specs.Prelude.{All, slice_get, slice_set}
use Rattle.pf_shapes.specs.Body.{BodyState}
use Rattle.pf_rows.specs.Row.{Row}
use Rattle.pf_solver.specs.Impulse.{ContactState}
use Rattle.pf_solver.specs.Laws.{solved_at, solved_where}
use Rattle.pf_levels.specs.Levels.{ShareNoBody, ShareNoBodyAt, IsLevel, pair_of}
use Rattle.pf_solver.specs.Order.{solved_at_once, solved_in, stored_where}
use Rattle.pf_solver.specs.Velocities.{Batch, Step, bodies_after, bodies_with, contact_state, row_after, row_with}
use Rattle.pf_solver.proofs.Commute.{pair_at, read_after, state_kept}

module _ (step : Step) where
  -- a row that reads what it read before is stored as it is solved
  stored_is : (before : List BodyState) (now : Batch) (p : ℕ) (o : Option Row)
      → ((r : Row) → o ≡ Some r → contact_state now.bodies r ≡ contact_state before r)
      → stored_where step before now p o ≡ solved_where step now p o
  unfolding bodies_after row_after
  stored_is before now p None reads = refl
  stored_is before now p (Some r) reads =
      ap (λ (s : ContactState).
      record {
        bodies = bodies_with (step r.constraint s) now.bodies r;
        rows = slice_set now.rows p (row_with (step r.constraint s) r);
      })
      (sym (reads r refl))

  -- what a row reads is not what another row of the level writes
  reads_on : (now : Batch) (p : ℕ) (o : Option Row) (r : Row) → ((t : Row) → o ≡ Some t → ShareNoBody (pair_of t) (pair_of r))
      → contact_state (solved_where step now p o).bodies r ≡ contact_state now.bodies r
  unfolding bodies_after
  reads_on now p None r apart = refl
  reads_on now p (Some t) r apart = state_kept t r (apart t refl) now.bodies (step t.constraint (contact_state now.bodies t))

  module _ (first : Batch) where
    -- the row at a place, and what it reads, are still as they were
    record IsAsBefore (now : Batch) (q : ℕ) : Type 0 where
      row : slice_get now.rows q ≡ slice_get first.rows q
      reads : (r : Row) → slice_get first.rows q ≡ Some r → contact_state now.bodies r ≡ contact_state first.bodies r

    next : (now : Batch) (p q : ℕ) → p ≢ q → ShareNoBodyAt (map pair_of first.rows) p q → IsAsBefore now p → IsAsBefore now q
        → IsAsBefore (solved_at step now p) q
    next now p q other apart here there = record {
      row = read_after step now q p (slice_get now.rows p) other ∙ there.row;
      reads = λ r at.
          reads_on now p (slice_get now.rows p) r
          (λ t is. apart (pair_of t) (pair_of r) (pair_at step first.rows p t (sym here.row ∙ is)) (pair_at step first.rows q r at))
          ∙ there.reads r at;
    }

    all_next : (now : Batch) (p : ℕ) (level : List ℕ) → All (λ q. (p ≢ q) × ShareNoBodyAt (map pair_of first.rows) p q) level
        → IsAsBefore now p → All (IsAsBefore now) level → All (IsAsBefore (solved_at step now p)) level
    all_next now p [] apart here there = All-nil (IsAsBefore (solved_at step now p))
    all_next now p (q ∷ level) apart here there =
        let P : ℕ → Type 0 = λ x. (p ≢ x) × ShareNoBodyAt (map pair_of first.rows) p x in
        let far = All-head P q level apart in
        All-cons (IsAsBefore (solved_at step now p)) q level
        (next now p q far.0 far.1 here (All-head (IsAsBefore now) q level there))
        (all_next now p level (All-tail P q level apart) here (All-tail (IsAsBefore now) q level there))

    at_once : (level : List ℕ) (now : Batch) → IsLevel (map pair_of first.rows) level → All (IsAsBefore now) level
        → fold (λ (b : Batch) p. stored_where step first.bodies b p (slice_get first.rows p)) now level ≡ fold (solved_at step) now level
    at_once [] now apart before = refl
    at_once (p ∷ level) now apart before =
        let here = All-head (IsAsBefore now) p level before in
        let same : stored_where step first.bodies now p (slice_get first.rows p) ≡ solved_at step now p =
        stored_is first.bodies now p (slice_get first.rows p) here.reads ∙ ap (solved_where step now p) (sym here.row) in
        ap (λ x. fold (λ (b : Batch) q. stored_where step first.bodies b q (slice_get first.rows q)) x level) same
        ∙ at_once level (solved_at step now p) apart.1
        (all_next now p level apart.0 here (All-tail (IsAsBefore now) p level before))

    untouched : (level : List ℕ) → All (IsAsBefore first) level
    untouched [] = All-nil (IsAsBefore first)
    untouched (q ∷ level) = All-cons (IsAsBefore first) q level (record { row = refl; reads = λ r at. refl }) (untouched level)

  pub level_at_once : (b : Batch) (level : List ℕ) → IsLevel (map pair_of b.rows) level
      → solved_at_once level step b ≡ solved_in level step b
  level_at_once b level apart = at_once b level b apart (untouched b level)
