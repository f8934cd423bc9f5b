-- Rows without a common dynamic body may be solved in either order.
use Rattle.std.proofs.Common.{◌≡◌, ◌≢◌, ◌∙◌, ℕ, zero, suc, None, Option, Some, List, [], ◌∷◌, get_or, map, set, refl, sym, ap, ap₂}
use Rattle.std.proofs.lemmas.List.{get_or-set_other}
use Rattle.std.specs.Prelude.{slice_get, slice_set}
use Rattle.pf_shapes.specs.Body.{BodyState, no_state}
use Rattle.pf_rows.specs.declared.row.Side.{Side}
use Rattle.pf_rows.specs.declared.row.Side.TheVariants.{Static, Dynamic}
use Rattle.pf_rows.specs.Row.{AreApart, InverseMass, Row}
use Rattle.pf_islands.proofs.Elements.{set_other}
use Rattle.pf_solver.specs.Impulse.{ContactState, Motion}
use Rattle.pf_solver.specs.Laws.{solved_at, solved_where}
use Rattle.pf_levels.specs.Levels.{RowPair, ShareNoBody, ShareNoBodyAt, pair_of}
use Rattle.pf_solver.specs.Velocities.{Batch, Step, bodies_after, bodies_with, body_with, contact_state, motion_at, motion_of, row_after, with_motion}

-- two writes at two places
set_comm : {X : Type 0} (xs : List X) (i j : ℕ) (x y : X) → i ≢ j → set (set xs i x) j y ≡ set (set xs j y) i x
set_comm [] i j x y apart = refl
set_comm (z ∷ xs) zero zero x y apart = absurd (apart refl)
set_comm (z ∷ xs) zero (suc j) x y apart = refl
set_comm (z ∷ xs) (suc i) zero x y apart = refl
set_comm (z ∷ xs) (suc i) (suc j) x y apart = ap (λ rest. z ∷ rest) (set_comm xs i j x y (λ same. apart (ap suc same)))

-- the motion of another body stays
motion_kept : (bodies : List BodyState) (mass : InverseMass) (side other : Side) (m : Motion) → AreApart other side
    → motion_at (with_motion bodies other m) mass side ≡ motion_at bodies mass side
unfolding motion_at with_motion
motion_kept bodies mass Static other m apart = refl
motion_kept bodies mass (Dynamic n) Static m apart = refl
motion_kept bodies mass (Dynamic n) (Dynamic k) m apart =
    ap (motion_of mass) (get_or-set_other bodies k n (body_with m (get_or bodies k no_state)) no_state (λ same. apart (sym same)))

-- the motions of two bodies are written in either order
with_comm : (bodies : List BodyState) (s t : Side) (m k : Motion) → AreApart s t
    → with_motion (with_motion bodies s m) t k ≡ with_motion (with_motion bodies t k) s m
unfolding with_motion
with_comm bodies Static Static m k apart = refl
with_comm bodies Static (Dynamic j) m k apart = refl
with_comm bodies (Dynamic i) Static m k apart = refl
with_comm bodies (Dynamic i) (Dynamic j) m k apart =
    let X = body_with m (get_or bodies i no_state) in
    let Y = body_with k (get_or bodies j no_state) in
    ap (λ b. set (set bodies i X) j (body_with k b)) (get_or-set_other bodies i j X no_state (λ same. apart (sym same)))
    ∙ set_comm bodies i j X Y apart
    ∙ ap (λ b. set (set bodies j Y) i (body_with m b)) (sym (get_or-set_other bodies j i Y no_state apart))

module _ (t r : Row) (apart : ShareNoBody (pair_of t) (pair_of r)) where
  -- what one row reads is not what the other writes
  pub state_kept : (bodies : List BodyState) (k : ContactState) → contact_state (bodies_with k bodies t) r ≡ contact_state bodies r
  unfolding contact_state
  state_kept bodies k =
      let half = with_motion bodies t.entry.first k.first in
      ap₂ (λ (a b : Motion). record { first = a; second = b; impulses = r.entry.impulses })
      (motion_kept half r.first_mass r.entry.first t.entry.second k.second apart.second_first
      ∙ motion_kept bodies r.first_mass r.entry.first t.entry.first k.first apart.firsts)
      (motion_kept half r.second_mass r.entry.second t.entry.second k.second apart.seconds
      ∙ motion_kept bodies r.second_mass r.entry.second t.entry.first k.first apart.first_second)

  -- both write their bodies, in either order
  bodies_comm : (bodies : List BodyState) (k m : ContactState)
      → bodies_with m (bodies_with k bodies t) r ≡ bodies_with k (bodies_with m bodies r) t
  bodies_comm bodies k m =
      let t1 : List BodyState → List BodyState = λ bs. with_motion bs t.entry.first k.first in
      let t2 : List BodyState → List BodyState = λ bs. with_motion bs t.entry.second k.second in
      let r1 : List BodyState → List BodyState = λ bs. with_motion bs r.entry.first m.first in
      let r2 : List BodyState → List BodyState = λ bs. with_motion bs r.entry.second m.second in
      ap r2 (with_comm (t1 bodies) t.entry.second r.entry.first k.second m.first apart.second_first)
      ∙ ap (λ bs. r2 (t2 bs)) (with_comm bodies t.entry.first r.entry.first k.first m.first apart.firsts)
      ∙ with_comm (t1 (r1 bodies)) t.entry.second r.entry.second k.second m.second apart.seconds
      ∙ ap t2 (with_comm (r1 bodies) t.entry.first r.entry.second k.first m.second apart.first_second)

swapped : (t r : Row) → ShareNoBody (pair_of t) (pair_of r) → ShareNoBody (pair_of r) (pair_of t)
swapped t r apart = record {
  firsts = other t.entry.first r.entry.first apart.firsts;
  first_second = other t.entry.second r.entry.first apart.second_first;
  second_first = other t.entry.first r.entry.second apart.first_second;
  seconds = other t.entry.second r.entry.second apart.seconds;
}
  where
    other : (a b : Side) → AreApart a b → AreApart b a
    other Static Static h = h
    other Static (Dynamic n) h = h
    other (Dynamic m) Static h = h
    other (Dynamic m) (Dynamic n) h = λ same. h (sym same)

module _ (step : Step) where
  -- a row is solved as it would be before the other one
  row_kept : (bodies : List BodyState) (t r : Row) → ShareNoBody (pair_of t) (pair_of r)
      → row_after step (bodies_after step bodies t) r ≡ row_after step bodies r
  unfolding row_after bodies_after
  row_kept bodies t r apart =
      ap (λ (m : ContactState). record r { entry = record r.entry { impulses = (step r.constraint m).impulses } })
      (state_kept t r apart bodies (step t.constraint (contact_state bodies t)))

  -- the bodies after both, in either order
  bodies_both : (bodies : List BodyState) (t r : Row) → ShareNoBody (pair_of t) (pair_of r)
      → bodies_after step (bodies_after step bodies t) r ≡ bodies_after step (bodies_after step bodies r) t
  unfolding bodies_after
  bodies_both bodies t r apart =
      let k = step t.constraint (contact_state bodies t) in
      let m = step r.constraint (contact_state bodies r) in
      ap (λ s. bodies_with (step r.constraint s) (bodies_with k bodies t) r) (state_kept t r apart bodies k)
      ∙ bodies_comm t r apart bodies k m
      ∙ ap (λ s. bodies_with (step t.constraint s) (bodies_with m bodies r) t) (sym (state_kept r t (swapped t r apart) bodies m))

  -- the other row is still there
  pub read_after : (b : Batch) (p q : ℕ) (o : Option Row) → q ≢ p → slice_get (solved_where step b q o).rows p ≡ slice_get b.rows p
  read_after b p q None apart = refl
  read_after b p q (Some t) apart = set_other b.rows q p (row_after step b.bodies t) apart

  both : (b : Batch) (p q : ℕ) (o u : Option Row) → q ≢ p
      → ((t r : Row) → u ≡ Some t → o ≡ Some r → ShareNoBody (pair_of t) (pair_of r))
      → solved_where step (solved_where step b q u) p o ≡ solved_where step (solved_where step b p o) q u
  both b p q None None other apart = refl
  both b p q None (Some t) other apart = refl
  both b p q (Some r) None other apart = refl
  both b p q (Some r) (Some t) other apart =
      let far = apart t r refl refl in
      ap₂ (λ bodies rows. record { bodies = bodies; rows = rows })
      (bodies_both b.bodies t r far)
      (ap (λ x. slice_set (slice_set b.rows q (row_after step b.bodies t)) p x) (row_kept b.bodies t r far)
      ∙ set_comm b.rows q p (row_after step b.bodies t) (row_after step b.bodies r) other
      ∙ ap (λ y. slice_set (slice_set b.rows p (row_after step b.bodies r)) q y) (sym (row_kept b.bodies r t (swapped t r far))))

  -- the pair of the row at a place
  pub pair_at : (rows : List Row) (p : ℕ) (r : Row) → slice_get rows p ≡ Some r → slice_get (map pair_of rows) p ≡ Some (pair_of r)
  pair_at [] p r at = cc
  pair_at (x ∷ rows) zero r at = ap (λ (o : Option Row). by o) at
    where
      by : Option Row → Option RowPair
      by None = None
      by (Some y) = Some (pair_of y)
  pair_at (x ∷ rows) (suc p) r at = pair_at rows p r at

  -- the rows at two places that are apart
  pub commute : (b : Batch) (p q : ℕ) → q ≢ p → ShareNoBodyAt (map pair_of b.rows) q p
      → solved_at step (solved_at step b q) p ≡ solved_at step (solved_at step b p) q
  commute b p q other apart =
      ap (solved_where step (solved_at step b q) p) (read_after b p q (slice_get b.rows q) other)
      ∙ both b p q (slice_get b.rows p) (slice_get b.rows q) other
      (λ t r there here. apart (pair_of t) (pair_of r) (pair_at b.rows q t there) (pair_at b.rows p r here))
      ∙ ap (solved_where step (solved_at step b p) q)
      (sym (read_after b q p (slice_get b.rows p) (λ same. other (sym same))))

  same_pair : (bodies : List BodyState) (r : Row) → pair_of (row_after step bodies r) ≡ pair_of r
  unfolding row_after
  same_pair bodies r = refl

  -- the pairs stay
  pub pairs_kept : (b : Batch) (p : ℕ) → map pair_of (solved_at step b p).rows ≡ map pair_of b.rows
  pairs_kept b p = by (slice_get b.rows p) refl
    where
      stored : (rows : List Row) (i : ℕ) (r x : Row) → slice_get rows i ≡ Some r → pair_of x ≡ pair_of r
          → map pair_of (slice_set rows i x) ≡ map pair_of rows
      stored [] i r x at same = refl
      stored (y ∷ rows) zero r x at same =
          ap (λ pair. pair ∷ map pair_of rows) (same ∙ sym (pair_is at))
        where
          pair_is : Some y ≡ Some r → pair_of y ≡ pair_of r
          pair_is is = cc
      stored (y ∷ rows) (suc i) r x at same = ap (λ rest. pair_of y ∷ rest) (stored rows i r x at same)

      by : (o : Option Row) → slice_get b.rows p ≡ o → map pair_of (solved_where step b p o).rows ≡ map pair_of b.rows
      by None at = refl
      by (Some r) at = stored b.rows p r (row_after step b.bodies r) at (same_pair b.bodies r)
