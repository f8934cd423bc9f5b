-- Islands side by side as one batch: loaded one after the other, and stored back.
use Rattle.std.proofs.Common.{◌≡◌, ◌∙◌, ℕ, zero, suc, ◌+◌, ◌<◌, ◌≤◌, List, [], ◌∷◌, ◌++◌, drop, get_or, length, length-drop, length-set, map, set, refl, sym, ap, ap₂, subst, take, arith}
use Rattle.std.proofs.lemmas.List.{append-nil, append_assoc, drop_at, take_at, drop-set-lt, drop-drop, drop_more, length-append, length-map, map-append, take_more, take_more_set}
use Rattle.std.proofs.lemmas.List.Elements.{All-map, All-weaker}
use Rattle.std.proofs.lemmas.Simd.{map-map}
use Rattle.pf_shapes.specs.Body.{BodyState, no_state}
use Rattle.pf_rows.specs.declared.row.Side.{Side}
use Rattle.pf_rows.specs.declared.row.Side.TheVariants.{Static, Dynamic}
use Rattle.pf_rows.specs.Row.{InverseMass, IsEntryOf, Row}
use Rattle.pf_rot.specs.Vector.{V2}
use Rattle.pf_levels.specs.Levels.{ArePairsOf, IsRowPairOf, pair_of}
use Rattle.pf_bundles.specs.LaneRow.{IsHeldBy, LaneRow, arm_on, mass_on}
use Rattle.pf_bundles.specs.Unknowns.{Unknowns}
use Rattle.pf_islands.specs.Split.{Island}
use Rattle.pf_solver.specs.declared.velocities.TheConstants.{ROUNDS}
use Rattle.pf_solver.specs.Alone.{batch_in, island_after_rounds, island_with}
use Rattle.pf_solver.specs.Beside.{IsBatch, beside, shifted_row, shifted_side, side_by_side, velocities_of}
use Rattle.pf_solver.specs.Impulse.{Motion, after_round, after_warm_start}
use Rattle.pf_solver.specs.Velocities.{Batch, Step, bodies_after, body_with, contact_state, pass, passes, row_after, with_motion}
use Rattle.pf_solver.proofs.Beside.{batch_side_by_side, beside_of_lists, velocities_side_by_side}
use Rattle.pf_solver.proofs.Passes.{bodies_length, rows_length}
use Rattle.pf_batches.specs.Islands.{AreBatches, AreHeldBy, batch_of, first_unknowns, island_with_first, islands_with_unknowns, unknowns_behind, other_unknowns, pairs_behind}
use Rattle.pf_batches.specs.Unknowns.{AreUnknownsOf, batch_with_unknowns, batch_unknowns, velocity_of, with_impulses, with_velocities}
use Rattle.pf_batches.proofs.Unknowns.{bodies_as_many, unknowns_again, unknowns_back, unknowns_fit, own_unknowns, rows_as_many}

-- ---- one island more

-- a batch beside none is as it was
beside_none : (b : Batch) → beside b (side_by_side []) ≡ b
beside_none b = ap₂ (λ bodies rows. record { bodies = bodies; rows = rows }) (append-nil b.bodies) (append-nil b.rows)

-- the batch of some islands and the next one
one_more : (islands : List Island) (k : ℕ) (d : Island) → k < length islands
    → batch_of (take (k + 1) islands) ≡ beside (batch_of (take k islands)) (batch_in (get_or islands k d))
one_more islands k d within =
    let i = get_or islands k d in
    ap batch_of (take_more islands k d within)
    ∙ ap side_by_side (map-append batch_in (take k islands) (i ∷ []))
    ∙ beside_of_lists (map batch_in (take k islands)) (batch_in i ∷ [])
    ∙ ap (beside (batch_of (take k islands))) (beside_none (batch_in i))

-- a list of which each element makes one of another list, one element more
pub one_pushed : {X Y : Type 0} (f : X → Y) (before now : List Y) (xs : List X) (k : ℕ) (x : X) (y : Y) → k < length xs
    → x ≡ get_or xs k x → y ≡ f x → now ≡ before ++ map f (take k xs) → now ++ y ∷ [] ≡ before ++ map f (take (k + 1) xs)
one_pushed f before now xs k x y within is made so_far =
    ap₂ (λ front z. front ++ z ∷ []) so_far (made ∙ ap f is)
    ∙ append_assoc before (map f (take k xs)) (f (get_or xs k x) ∷ [])
    ∙ ap (λ rest. before ++ rest)
    (sym (map-append f (take k xs) (get_or xs k x ∷ [])) ∙ ap (map f) (sym (take_more xs k x within)))

-- the unknowns of two batches side by side
unknowns_beside : (a b : Batch) → batch_unknowns (beside a b) ≡ record {
  velocities = map velocity_of a.bodies ++ map velocity_of b.bodies;
  impulses = map (λ (r : Row). r.entry.impulses) a.rows ++ map (λ (r : Row). r.entry.impulses) b.rows;
}
unknowns_beside a b =
    let own = λ (r : Row). r.entry.impulses in
    let shift = shifted_row (length a.bodies) in
    ap₂ (λ velocities impulses. record { velocities = velocities; impulses = impulses })
    (map-append velocity_of a.bodies b.bodies)
    (map-append own a.rows (map shift b.rows) ∙ ap (λ rest. map own a.rows ++ rest) (map-map own shift b.rows))

module _ (islands : List Island) (k : ℕ) (d : Island) (within : k < length islands) where
  -- the bodies with those of the next island
  pub bodies_more : length (batch_of (take (k + 1) islands)).bodies
      ≡ length (batch_of (take k islands)).bodies + length (get_or islands k d).bodies
  bodies_more =
      ap (λ (b : Batch). length b.bodies) (one_more islands k d within)
      ∙ length-append (batch_of (take k islands)).bodies (get_or islands k d).bodies

  -- the pairs with those of the next island
  pub pairs_more : map pair_of (batch_of (take (k + 1) islands)).rows
      ≡ map pair_of (batch_of (take k islands)).rows
      ++ pairs_behind (length (batch_of (take k islands)).bodies) (get_or islands k d).rows
  pairs_more =
      let front = batch_of (take k islands) in
      let own = (get_or islands k d).rows in
      let shift = shifted_row (length front.bodies) in
      ap (λ (b : Batch). map pair_of b.rows) (one_more islands k d within)
      ∙ map-append pair_of front.rows (map shift own)
      ∙ ap (λ pairs. map pair_of front.rows ++ pairs) (map-map pair_of shift own)

  -- the unknowns with those of the next island
  pub unknowns_more : batch_unknowns (batch_of (take (k + 1) islands)) ≡ record {
    velocities = map velocity_of (batch_of (take k islands)).bodies ++ map velocity_of (get_or islands k d).bodies;
    impulses = map (λ (r : Row). r.entry.impulses) (batch_of (take k islands)).rows
        ++ map (λ (r : Row). r.entry.impulses) (get_or islands k d).rows;
  }
  unknowns_more =
      ap batch_unknowns (one_more islands k d within)
      ∙ unknowns_beside (batch_of (take k islands)) (batch_in (get_or islands k d))

-- the pairs of a batch are pairs of its bodies
pub pairs_of_batch : (b : Batch) → IsBatch b → ArePairsOf (length b.bodies) (map pair_of b.rows)
pairs_of_batch b fit =
    let n = length b.bodies in
    All-map (IsRowPairOf n) pair_of b.rows
    (All-weaker (λ r. IsEntryOf n r.entry) (λ r. IsRowPairOf n (pair_of r))
    (λ r here. record { first = here.first; second = here.second }) b.rows fit)

-- islands side by side are a batch
pub batch_of_batches : (islands : List Island) → AreBatches islands → IsBatch (batch_of islands)
batch_of_batches islands fit = batch_side_by_side (map batch_in islands) (All-map IsBatch batch_in islands fit)

-- ---- rows in lanes

-- one row more
held_more : (lanes : List LaneRow) (rows : List Row) (l : LaneRow) (r : Row) → AreHeldBy lanes rows → IsHeldBy l r
    → AreHeldBy (lanes ++ l ∷ []) (rows ++ r ∷ [])
held_more [] [] l r held here = (here, tt)
held_more [] (x ∷ rows) l r held here = absurd held
held_more (x ∷ lanes) [] l r held here = absurd held
held_more (x ∷ lanes) (y ∷ rows) l r held here = (held.0, held_more lanes rows l r held.1 here)

-- one row more, as a loop adds it
pub held_pushed : (lanes : List LaneRow) (front rows : List Row) (k : ℕ) (l : LaneRow) (r : Row) → k < length rows
    → r ≡ get_or rows k r → AreHeldBy lanes (front ++ take k rows) → IsHeldBy l r
    → AreHeldBy (lanes ++ l ∷ []) (front ++ take (k + 1) rows)
held_pushed lanes front rows k l r within is held here =
    let more : (front ++ take k rows) ++ r ∷ [] ≡ front ++ take (k + 1) rows =
    append_assoc front (take k rows) (r ∷ [])
    ∙ ap (λ x. front ++ (take k rows ++ x ∷ [])) is
    ∙ ap (λ rest. front ++ rest) (sym (take_more rows k r within)) in
    subst (AreHeldBy (lanes ++ l ∷ [])) more (held_more lanes (front ++ take k rows) l r held here)

-- a lane holds the mass of a body wherever it stands
mass_behind : (n : ℕ) (side : Side) (m : InverseMass) → mass_on side m ≡ mass_on (shifted_side n side) m
mass_behind n Static m = refl
mass_behind n (Dynamic place) m = refl

-- and its arm
arm_behind : (n : ℕ) (side : Side) (arm : V2) → arm_on side arm ≡ arm_on (shifted_side n side) arm
arm_behind n Static arm = refl
arm_behind n (Dynamic place) arm = refl

-- a lane holds a row wherever its bodies stand
row_behind : (n : ℕ) (l : LaneRow) (r : Row) → IsHeldBy l r → IsHeldBy l (shifted_row n r)
row_behind n l r held = record {
  first_mass = held.first_mass ∙ mass_behind n r.entry.first r.first_mass;
  second_mass = held.second_mass ∙ mass_behind n r.entry.second r.second_mass;
  constraint =
      let c = r.constraint in
      held.constraint
      ∙ ap₂ (λ (a b : V2). record c { first_arm = a; second_arm = b })
      (arm_behind n r.entry.first c.first_arm) (arm_behind n r.entry.second c.second_arm);
}

-- lanes hold rows wherever their bodies stand
rows_behind : (n : ℕ) (lanes : List LaneRow) (rows : List Row) → AreHeldBy lanes rows
    → AreHeldBy lanes (map (shifted_row n) rows)
rows_behind n [] [] held = tt
rows_behind n [] (r ∷ rows) held = absurd held
rows_behind n (l ∷ lanes) [] held = absurd held
rows_behind n (l ∷ lanes) (r ∷ rows) held = (row_behind n l r held.0, rows_behind n lanes rows held.1)

-- and so behind other rows
held_behind : (n : ℕ) (lanes : List LaneRow) (front rows : List Row) → AreHeldBy lanes (front ++ rows)
    → AreHeldBy lanes (front ++ map (shifted_row n) rows)
held_behind n lanes [] rows held = rows_behind n lanes rows held
held_behind n [] (x ∷ front) rows held = absurd held
held_behind n (l ∷ lanes) (x ∷ front) rows held = (held.0, held_behind n lanes front rows held.1)

-- the rows with those of the next island
pub held_with_next : (islands : List Island) (k : ℕ) (d : Island) (lanes : List LaneRow) → k < length islands
    → AreHeldBy lanes ((batch_of (take k islands)).rows ++ (get_or islands k d).rows)
    → AreHeldBy lanes (batch_of (take (k + 1) islands)).rows
held_with_next islands k d lanes within held =
    let front = batch_of (take k islands) in
    subst (λ (b : Batch). AreHeldBy lanes b.rows) (sym (one_more islands k d within))
    (held_behind (length front.bodies) lanes front.rows (get_or islands k d).rows held)

-- ---- unknowns stored island by island

-- the unknowns behind some and then behind others
behind_both : (a b c d : ℕ) (n : Unknowns) → unknowns_behind c d (unknowns_behind a b n) ≡ unknowns_behind (a + c) (b + d) n
behind_both a b c d n =
    ap₂ (λ velocities impulses. record { velocities = velocities; impulses = impulses })
    (drop-drop c a n.velocities) (drop-drop d b n.impulses)

-- an island with other unknowns has as many bodies
pub bodies_kept : (n : Unknowns) (i after : Island) → after ≡ island_with_first n i → length after.bodies ≡ length i.bodies
bodies_kept n i after is = ap (λ (x : Island). length x.bodies) is ∙ bodies_as_many (first_unknowns i n) (batch_in i)

-- and as many rows
pub rows_kept : (n : Unknowns) (i after : Island) → after ≡ island_with_first n i → length after.rows ≡ length i.rows
rows_kept n i after is = ap (λ (x : Island). length x.rows) is ∙ rows_as_many (first_unknowns i n) (batch_in i)

-- the islands that are left have as many unknowns as are left; those before have theirs
pub record AreStored (n : Unknowns) (islands : List Island) (bodies rows k : ℕ) (now : List Island) : Type 0 where
  pub velocities : bodies ≤ length n.velocities
  pub impulses : rows ≤ length n.impulses
  pub rest : AreUnknownsOf (batch_of (drop k now)) (unknowns_behind bodies rows n)
  pub value : islands_with_unknowns n islands ≡ take k now ++ islands_with_unknowns (unknowns_behind bodies rows n) (drop k now)

module _ (n : Unknowns) (islands : List Island) (bodies rows k : ℕ) (now : List Island) (i d : Island)
    (stored : AreStored n islands bodies rows k now) (within : k < length now) (is : i ≡ get_or now k d) where
  -- the islands that are left begin with the next one
  left : drop k now ≡ i ∷ drop (k + 1) now
  left = drop_more now k d within ∙ ap (λ x. x ∷ drop (k + 1) now) (sym is)

  -- they have as many unknowns as are left
  fit_left : AreUnknownsOf (batch_of (i ∷ drop (k + 1) now)) (unknowns_behind bodies rows n)
  fit_left = subst (λ some. AreUnknownsOf (batch_of some) (unknowns_behind bodies rows n)) left stored.rest

  -- there are velocities for the bodies of the next island
  pub enough_velocities : bodies + length i.bodies ≤ length n.velocities
  enough_velocities =
      let rest = batch_of (drop (k + 1) now) in
      omega (arith, stored.velocities, fit_left.velocities, length-append i.bodies rest.bodies, length-drop bodies n.velocities)

  -- there are impulses for its rows
  pub enough_impulses : rows + length i.rows ≤ length n.impulses
  enough_impulses =
      let more = map (shifted_row (length i.bodies)) (batch_of (drop (k + 1) now)).rows in
      omega (arith, stored.impulses, fit_left.impulses, length-append i.rows more, length-drop rows n.impulses)

  -- the unknowns left are as many as those of the islands behind it
  fit_behind : AreUnknownsOf (batch_of (drop (k + 1) now)) (unknowns_behind (bodies + length i.bodies) (rows + length i.rows) n)
  fit_behind =
      let rest = batch_of (drop (k + 1) now) in
      let shift = shifted_row (length i.bodies) in
      record {
        velocities =
            omega (
              arith,
              fit_left.velocities,
              enough_velocities,
              length-append i.bodies rest.bodies,
              length-drop bodies n.velocities,
              length-drop (bodies + length i.bodies) n.velocities,
            );
        impulses =
            omega (
              arith,
              fit_left.impulses,
              enough_impulses,
              length-append i.rows (map shift rest.rows),
              length-map rest.rows shift,
              length-drop rows n.impulses,
              length-drop (rows + length i.rows) n.impulses,
            );
      }

  -- one island more is stored
  pub stored_next : (after : Island) → after ≡ island_with_first (unknowns_behind bodies rows n) i
      → AreStored n islands (bodies + length i.bodies) (rows + length i.rows) (k + 1) (set now k after)
  stored_next after made =
      let before = unknowns_behind bodies rows n in
      let then = unknowns_behind (bodies + length i.bodies) (rows + length i.rows) n in
      let same : drop (k + 1) (set now k after) ≡ drop (k + 1) now =
      drop-set-lt (k + 1) now k after (omega arith) in
      record {
        velocities = enough_velocities;
        impulses = enough_impulses;
        rest = subst (λ some. AreUnknownsOf (batch_of some) then) (sym same) fit_behind;
        value =
            stored.value ∙ ap (λ some. take k now ++ islands_with_unknowns before some) left
            ∙ ap (λ x. take k now ++ x ∷ islands_with_unknowns (other_unknowns i before) (drop (k + 1) now)) (sym made)
            ∙ ap (λ x. take k now ++ after ∷ islands_with_unknowns x (drop (k + 1) now))
            (behind_both bodies rows (length i.bodies) (length i.rows) n)
            ∙ sym (append_assoc (take k now) (after ∷ []) (islands_with_unknowns then (drop (k + 1) now)))
            ∙ ap₂ (λ front some. front ++ islands_with_unknowns then some) (sym (take_more_set now k after within)) (sym same);
      }

-- ---- a pass changes of a batch nothing but its unknowns

-- the second batch is the first one with other unknowns
record IsWithOwn (before after : Batch) : Type 0 where
  fit : AreUnknownsOf before (batch_unknowns after)
  same : batch_with_unknowns (batch_unknowns after) before ≡ after

-- nothing changes
own_as_is : (b : Batch) → IsWithOwn b b
own_as_is b = record { fit = unknowns_fit b; same = own_unknowns b }

-- one change after another
own_again : (a b c : Batch) → IsWithOwn a b → IsWithOwn b c → IsWithOwn a c
own_again a b c first second =
    let bodies : length b.bodies ≡ length a.bodies =
    ap (λ (x : Batch). length x.bodies) (sym first.same) ∙ bodies_as_many (batch_unknowns b) a in
    let rows : length b.rows ≡ length a.rows =
    ap (λ (x : Batch). length x.rows) (sym first.same) ∙ rows_as_many (batch_unknowns b) a in
    let fit : AreUnknownsOf a (batch_unknowns c) =
    record { velocities = second.fit.velocities ∙ bodies; impulses = second.fit.impulses ∙ rows } in
    record {
      fit = fit;
      same =
          sym (unknowns_again a (batch_unknowns c) fit (batch_unknowns b))
          ∙ ap (batch_with_unknowns (batch_unknowns c)) first.same ∙ second.same;
    }

-- bodies without rows
abbrev bare : List BodyState → Batch
bare bodies = record { bodies = bodies; rows = [] }

-- bodies with their own velocities are as they were
own_bodies : (bodies : List BodyState) → with_velocities (map velocity_of bodies) bodies ≡ bodies
own_bodies bodies = ap (λ (b : Batch). b.bodies) (own_unknowns (bare bodies))

-- another motion of the body at a place changes nothing but its velocity
own_moved : (bodies : List BodyState) (k : ℕ) (d : BodyState) (m : Motion)
    → with_velocities (map velocity_of (set bodies k (body_with m (get_or bodies k d)))) bodies
    ≡ set bodies k (body_with m (get_or bodies k d))
own_moved [] k d m = refl
own_moved (b ∷ bodies) zero d m = ap (λ rest. body_with m b ∷ rest) (own_bodies bodies)
own_moved (b ∷ bodies) (suc k) d m = ap (λ rest. b ∷ rest) (own_moved bodies k d m)

-- nor does another motion of the body on a side
own_motion : (bodies : List BodyState) (side : Side) (m : Motion) → IsWithOwn (bare bodies) (bare (with_motion bodies side m))
unfolding with_motion
own_motion bodies Static m = own_as_is (bare bodies)
own_motion bodies (Dynamic k) m = record {
  fit = record {
    velocities =
        length-map (set bodies k (body_with m (get_or bodies k no_state))) velocity_of
        ∙ length-set bodies k (body_with m (get_or bodies k no_state));
    impulses = refl;
  };
  same = ap bare (own_moved bodies k no_state m);
}

module _ (step : Step) where
  -- the step of a row changes nothing but the velocities of bodies
  own_after : (bodies : List BodyState) (r : Row) → IsWithOwn (bare bodies) (bare (bodies_after step bodies r))
  unfolding bodies_after
  own_after bodies r =
      let m = step r.constraint (contact_state bodies r) in
      let half = with_motion bodies r.entry.first m.first in
      own_again (bare bodies) (bare half) (bare (with_motion half r.entry.second m.second))
      (own_motion bodies r.entry.first m.first) (own_motion half r.entry.second m.second)

  -- nor does a pass change more of the bodies
  own_passed : (bodies : List BodyState) (rows : List Row) → IsWithOwn (bare bodies) (bare (pass step bodies rows).bodies)
  unfolding pass
  own_passed bodies [] = own_as_is (bare bodies)
  own_passed bodies (r ∷ rows) =
      let next = bodies_after step bodies r in
      own_again (bare bodies) (bare next) (bare (pass step next rows).bodies) (own_after bodies r) (own_passed next rows)

  -- a pass changes nothing but the impulses of rows
  own_rows : (bodies : List BodyState) (rows : List Row)
      → with_impulses (map (λ (r : Row). r.entry.impulses) (pass step bodies rows).rows) rows ≡ (pass step bodies rows).rows
  unfolding pass row_after
  own_rows bodies [] = refl
  own_rows bodies (r ∷ rows) =
      ap (λ rest. row_after step bodies r ∷ rest) (own_rows (bodies_after step bodies r) rows)

  -- a pass changes nothing but unknowns
  own_pass : (b : Batch) → IsWithOwn b (pass step b.bodies b.rows)
  own_pass b =
      let after = pass step b.bodies b.rows in
      record {
        fit = record {
          velocities = length-map after.bodies velocity_of ∙ bodies_length step b.bodies b.rows;
          impulses = length-map after.rows (λ (r : Row). r.entry.impulses) ∙ rows_length step b.bodies b.rows;
        };
        same =
            ap₂ (λ bodies rows. record { bodies = bodies; rows = rows })
            (ap (λ (x : Batch). x.bodies) (own_passed b.bodies b.rows).same) (own_rows b.bodies b.rows);
      }

  -- nor do so many passes
  own_passes : (n : ℕ) (b : Batch) → IsWithOwn b (passes n step b)
  unfolding passes
  own_passes zero b = own_as_is b
  own_passes (suc n) b =
      let before = passes n step b in
      own_again b before (pass step before.bodies before.rows) (own_passes n b) (own_pass before)

-- nor does the velocity phase
own_velocities : (b : Batch) → IsWithOwn b (velocities_of b)
own_velocities b =
    let warm = pass after_warm_start b.bodies b.rows in
    own_again b warm (passes ROUNDS after_round warm) (own_pass after_warm_start b) (own_passes after_round ROUNDS warm)

-- a batch with its numbers after the velocity phase is the batch after it
pub velocities_stored : (b : Batch) → batch_with_unknowns (batch_unknowns (velocities_of b)) b ≡ velocities_of b
velocities_stored b = (own_velocities b).same

-- ---- islands after their rounds

-- the first numbers of batches side by side are those of the first batch
first_of_beside : (i : Island) (own rest : Batch) → AreUnknownsOf (batch_in i) (batch_unknowns own)
    → first_unknowns i (batch_unknowns (beside own rest)) ≡ batch_unknowns own
first_of_beside i own rest fit =
    let impulses = λ (r : Row). r.entry.impulses in
    ap (first_unknowns i) (unknowns_beside own rest)
    ∙ ap₂ (λ velocities impulses. record { velocities = velocities; impulses = impulses })
    (take_at (map velocity_of own.bodies) (map velocity_of rest.bodies) (length i.bodies) fit.velocities)
    (take_at (map impulses own.rows) (map impulses rest.rows) (length i.rows) fit.impulses)

-- and the others are those of the rest
others_of_beside : (i : Island) (own rest : Batch) → AreUnknownsOf (batch_in i) (batch_unknowns own)
    → other_unknowns i (batch_unknowns (beside own rest)) ≡ batch_unknowns rest
others_of_beside i own rest fit =
    let impulses = λ (r : Row). r.entry.impulses in
    ap (other_unknowns i) (unknowns_beside own rest)
    ∙ ap₂ (λ velocities impulses. record { velocities = velocities; impulses = impulses })
    (drop_at (map velocity_of own.bodies) (map velocity_of rest.bodies) (length i.bodies) fit.velocities)
    (drop_at (map impulses own.rows) (map impulses rest.rows) (length i.rows) fit.impulses)

-- islands with the unknowns of each after its velocity phase
each_stored : (islands : List Island)
    → islands_with_unknowns (batch_unknowns (side_by_side (map (λ i. velocities_of (batch_in i)) islands))) islands
    ≡ map island_after_rounds islands
each_stored [] = refl
each_stored (i ∷ islands) =
    let own = velocities_of (batch_in i) in
    let rest = side_by_side (map (λ i. velocities_of (batch_in i)) islands) in
    let fit = (own_velocities (batch_in i)).fit in
    ap₂ (λ (x : Island) xs. x ∷ xs)
    (ap (λ n. island_with (batch_with_unknowns n (batch_in i)) i) (first_of_beside i own rest fit)
    ∙ ap (λ b. island_with b i) (velocities_stored (batch_in i)))
    (ap (λ n. islands_with_unknowns n islands) (others_of_beside i own rest fit) ∙ each_stored islands)

-- islands with the unknowns of their batch after its velocity phase are each after its own rounds
pub islands_after_rounds : (islands : List Island) (now : Unknowns) → AreBatches islands
    → AreUnknownsOf (batch_of islands) now → batch_with_unknowns now (batch_of islands) ≡ velocities_of (batch_of islands)
    → islands_with_unknowns now islands ≡ map island_after_rounds islands
islands_after_rounds islands now batches fit solved =
    ap (λ n. islands_with_unknowns n islands)
    (sym (unknowns_back (batch_of islands) now fit)
    ∙ ap batch_unknowns
    (solved ∙ velocities_side_by_side (map batch_in islands) (All-map IsBatch batch_in islands batches)
    ∙ ap side_by_side (map-map velocities_of batch_in islands)))
    ∙ each_stored islands
