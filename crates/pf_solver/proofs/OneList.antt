-- The passes along rows are one list of single rows.
use Rattle.std.proofs.Common.{◌≡◌, ◌∙◌, ℕ, zero, suc, ◌+◌, Some, List, [], ◌∷◌, ◌++◌, length, append_assoc, refl, sym, ap}
use Rattle.std.proofs.lemmas.List.{length_push, set_at}
use Rattle.std.proofs.lemmas.List.Sums.{fold-append}
use Rattle.std.specs.List.{fold, range_with_len}
use Rattle.std.specs.Prelude.{slice_get}
use Rattle.pf_shapes.specs.Body.{BodyState}
use Rattle.pf_rows.specs.Row.{Row}
use Rattle.pf_solver.specs.Laws.{places_written, solved_at, solved_where}
use Rattle.pf_solver.specs.Velocities.{Batch, Step, bodies_after, pass, passes, row_after}
use Rattle.pf_solver.proofs.Passes.{rows_length}

-- behind a front stands the row r
read_at : (front : List Row) (r : Row) (rest : List Row) → slice_get (front ++ r ∷ rest) (length front) ≡ Some r
read_at [] r rest = refl
read_at (x ∷ front) r rest = read_at front r rest

module _ (step : Step) where
  -- the row behind the front is solved, and is then the last of the front
  solved_next : (bodies : List BodyState) (front : List Row) (r : Row) (rest : List Row)
      → solved_at step (record { bodies = bodies; rows = front ++ r ∷ rest }) (length front)
      ≡ record { bodies = bodies_after step bodies r; rows = (front ++ row_after step bodies r ∷ []) ++ rest }
  solved_next bodies front r rest =
      let b : Batch = record { bodies = bodies; rows = front ++ r ∷ rest } in
      ap (solved_where step b (length front)) (read_at front r rest)
      ∙ ap (λ rows. record { bodies = bodies_after step bodies r; rows = rows })
      (set_at front r rest (row_after step bodies r) (length front) refl
      ∙ sym (append_assoc front (row_after step bodies r ∷ []) rest))

  -- a pass along the rows behind a front
  pub pass_behind : (bodies : List BodyState) (front rows : List Row)
      → fold (solved_at step) (record { bodies = bodies; rows = front ++ rows })
      (range_with_len (length front) (length rows))
      ≡ record { bodies = (pass step bodies rows).bodies; rows = front ++ (pass step bodies rows).rows }
  unfolding pass
  pass_behind bodies front [] = refl
  pass_behind bodies front (r ∷ rows) =
      let after = row_after step bodies r in
      let next = bodies_after step bodies r in
      let places = range_with_len (length front + 1) (length rows) in
      ap (λ b. fold (solved_at step) b places) (solved_next bodies front r rows)
      ∙ (ap
      (λ n.
      fold (solved_at step) (record { bodies = next; rows = (front ++ after ∷ []) ++ rows })
      (range_with_len n (length rows)))
      (sym (length_push front after))
      ∙ (pass_behind next (front ++ after ∷ []) rows
      ∙ ap (λ rs. record { bodies = (pass step next rows).bodies; rows = rs })
      (append_assoc front (after ∷ []) (pass step next rows).rows)))

  -- the rows stay as many
  passes_length : (n : ℕ) (b : Batch) → length (passes n step b).rows ≡ length b.rows
  unfolding passes
  passes_length zero b = refl
  passes_length (suc n) b = rows_length step (passes n step b).bodies (passes n step b).rows ∙ passes_length n b

  -- so many passes are one list of single rows
  pub passes_are_one_list : (n : ℕ) (b : Batch)
      → passes n step b ≡ fold (solved_at step) b (places_written n (length b.rows))
  unfolding passes
  passes_are_one_list zero b = refl
  passes_are_one_list (suc n) b =
      let before = passes n step b in
      let places = range_with_len 0 (length b.rows) in
      sym (pass_behind before.bodies [] before.rows)
      ∙ (ap (λ count. fold (solved_at step) before (range_with_len 0 count)) (passes_length n b)
      ∙ (ap (λ x. fold (solved_at step) x places) (passes_are_one_list n b)
      ∙ sym (fold-append (solved_at step) b (places_written n (length b.rows)) places)))
