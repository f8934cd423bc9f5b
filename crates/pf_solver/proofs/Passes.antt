-- Passes along rows.
use Rattle.std.proofs.Common.{◌≡◌, ◌∙◌, ℕ, zero, suc, ◌+◌, ◌<◌, ◌≤◌, List, [], ◌∷◌, ◌++◌, take, drop, set, get_or, length, length-set, length-take, append_assoc, refl, sym, ap, ap₂, subst, arith}
use Rattle.std.proofs.lemmas.List.{append-nil, drop_all, drop_more, take_all, take_more, get_or_at, set_at}
use Rattle.std.proofs.lemmas.List.Elements.{All-cons, All-head, All-nil, All-tail}
use Rattle.std.specs.Prelude.{All}
use Rattle.pf_shapes.specs.Body.{BodyState}
use Rattle.pf_rows.specs.declared.row.Side.{Side}
use Rattle.pf_rows.specs.declared.row.Side.TheVariants.{Static, Dynamic}
use Rattle.pf_rows.specs.Impulses.{Impulses}
use Rattle.pf_rows.specs.Row.{IsEntryOf, Row}
use Rattle.pf_solver.specs.Impulse.{Motion}
use Rattle.pf_solver.specs.Velocities.{Batch, Step, bodies_after, with_motion, pass, passes, row_after}

pub with_length : (bodies : List BodyState) (side : Side) (m : Motion) → length (with_motion bodies side m) ≡ length bodies
unfolding with_motion
with_length bodies Static m = refl
with_length bodies (Dynamic place) m = length-set bodies place _

pub passes_none : (step : Step) (b : Batch) → b ≡ passes 0 step b
unfolding passes
passes_none step b = refl

pub passes_more : (n : ℕ) (step : Step) (b : Batch)
    → passes (n + 1) step b ≡ pass step (passes n step b).bodies (passes n step b).rows
unfolding passes
passes_more n step b = let more : n + 1 ≡ suc n = omega arith in ap (λ m. passes m step b) more

-- without rows nothing changes
pub passes_nothing : (n : ℕ) (step : Step) (bodies : List BodyState)
    → passes n step (record { bodies = bodies; rows = [] }) ≡ record { bodies = bodies; rows = [] }
unfolding passes pass
passes_nothing zero step bodies = refl
passes_nothing (suc n) step bodies =
    ap (λ (b : Batch). pass step b.bodies b.rows) (passes_nothing n step bodies)

module _ (step : Step) where
  -- the bodies stay as many
  pub after_length : (bodies : List BodyState) (r : Row) → length (bodies_after step bodies r) ≡ length bodies
  unfolding bodies_after
  after_length bodies r = with_length _ r.entry.second _ ∙ with_length bodies r.entry.first _

  -- a pass along one row more at the end
  pass_append : (bodies : List BodyState) (rows : List Row) (r : Row)
      → pass step bodies (rows ++ r ∷ []) ≡ record {
        bodies = bodies_after step (pass step bodies rows).bodies r;
        rows = (pass step bodies rows).rows ++ row_after step (pass step bodies rows).bodies r ∷ [];
      }
  unfolding pass
  pass_append bodies [] r = refl
  pass_append bodies (x ∷ rows) r =
      ap (λ (rest : Batch). record { bodies = rest.bodies; rows = row_after step bodies x ∷ rest.rows })
      (pass_append (bodies_after step bodies x) rows r)

  pub pass_more : (bodies : List BodyState) (rows : List Row) (i : ℕ) (d : Row) → i < length rows
      → pass step bodies (take (i + 1) rows) ≡ record {
        bodies = bodies_after step (pass step bodies (take i rows)).bodies (get_or rows i d);
        rows = (pass step bodies (take i rows)).rows
            ++ row_after step (pass step bodies (take i rows)).bodies (get_or rows i d) ∷ [];
      }
  pass_more bodies rows i d within =
      ap (pass step bodies) (take_more rows i d within) ∙ pass_append bodies (take i rows) (get_or rows i d)

  pub rows_length : (bodies : List BodyState) (rows : List Row) → length (pass step bodies rows).rows ≡ length rows
  unfolding pass
  rows_length bodies [] = refl
  rows_length bodies (r ∷ rows) = ap suc (rows_length (bodies_after step bodies r) rows)

  -- a step of a pass: the row that is read is still as it was, and its write leads to one row more
  module _ (bodies : List BodyState) (rows now : List Row) (i : ℕ) (r : Row) (within : i < length rows)
      (now_is : now ≡ (pass step bodies (take i rows)).rows ++ drop i rows) where
    abbrev front : List Row
    front = (pass step bodies (take i rows)).rows

    long : length front ≡ i
    long = rows_length bodies (take i rows) ∙ omega (arith, length-take i rows, within)

    parts : now ≡ front ++ get_or rows i r ∷ drop (i + 1) rows
    parts = now_is ∙ ap (λ rest. front ++ rest) (drop_more rows i r within)

    pub row_is : r ≡ get_or now i r → r ≡ get_or rows i r
    row_is read = read ∙ ap (λ rest. get_or rest i r) parts ∙ get_or_at front _ _ r i long

    pub rows_more : (after : Row) → after ≡ row_after step (pass step bodies (take i rows)).bodies (get_or rows i r)
        → set now i after ≡ (pass step bodies (take (i + 1) rows)).rows ++ drop (i + 1) rows
    rows_more after is =
        ap (λ rest. set rest i after) parts ∙ set_at front _ _ after i long
        ∙ sym (append_assoc front (after ∷ []) _)
        ∙ ap (λ rest. rest ++ drop (i + 1) rows)
        (ap (λ y. front ++ y ∷ []) is ∙ sym (ap (λ (b : Batch). b.rows) (pass_more bodies rows i r within)))

  -- the rows still name bodies of the list
  rows_fit : (n : ℕ) (bodies : List BodyState) (rows : List Row) → All (λ r. IsEntryOf n r.entry) rows
      → All (λ r. IsEntryOf n r.entry) (pass step bodies rows).rows
  unfolding pass row_after
  rows_fit n bodies [] fit = All-nil (λ r. IsEntryOf n r.entry)
  rows_fit n bodies (r ∷ rows) fit =
      All-cons (λ x. IsEntryOf n x.entry) (row_after step bodies r) (pass step (bodies_after step bodies r) rows).rows
      (same_sides n r _ (All-head (λ x. IsEntryOf n x.entry) r rows fit))
      (rows_fit n (bodies_after step bodies r) rows (All-tail (λ x. IsEntryOf n x.entry) r rows fit))
    where
      same_sides : (m : ℕ) (x : Row) (p : Impulses) → IsEntryOf m x.entry → IsEntryOf m (record x.entry { impulses = p })
      same_sides m x p h = record { first = h.first; second = h.second; apart = h.apart }

  pub bodies_length : (bodies : List BodyState) (rows : List Row) → length (pass step bodies rows).bodies ≡ length bodies
  unfolding pass
  bodies_length bodies [] = refl
  bodies_length bodies (r ∷ rows) = bodies_length (bodies_after step bodies r) rows ∙ after_length bodies r

  pub after_pass : (bodies : List BodyState) (rows : List Row) → All (λ r. IsEntryOf (length bodies) r.entry) rows
      → All (λ r. IsEntryOf (length (pass step bodies rows).bodies) r.entry) (pass step bodies rows).rows
  after_pass bodies rows fit =
      subst (λ n. All (λ r. IsEntryOf n r.entry) (pass step bodies rows).rows) (sym (bodies_length bodies rows))
      (rows_fit (length bodies) bodies rows fit)

  -- all rows are passed
  pub whole_pass : (bodies : List BodyState) (rows : List Row) (i : ℕ) (bodies_now : List BodyState) (rows_now : List Row)
      → length rows ≤ i → bodies_now ≡ (pass step bodies (take i rows)).bodies
      → rows_now ≡ (pass step bodies (take i rows)).rows ++ drop i rows
      → record { bodies = bodies_now; rows = rows_now } ≡ pass step bodies rows
  whole_pass bodies rows i bodies_now rows_now over bodies_are rows_are =
      let all = take_all i rows over in
      ap₂ (λ bs rs. record { bodies = bs; rows = rs })
      (bodies_are ∙ ap (λ rs. (pass step bodies rs).bodies) all)
      (rows_are ∙ ap₂ (λ rs rest. (pass step bodies rs).rows ++ rest) all (drop_all i rows over) ∙ append-nil _)

  pub passed_fit : (bodies : List BodyState) (rows : List Row) (after : Batch) → after ≡ pass step bodies rows
      → All (λ r. IsEntryOf (length bodies) r.entry) rows
      → All (λ r. IsEntryOf (length after.bodies) r.entry) after.rows
  passed_fit bodies rows after is fit =
      subst (λ (b : Batch). All (λ r. IsEntryOf (length b.bodies) r.entry) b.rows) (sym is) (after_pass bodies rows fit)
