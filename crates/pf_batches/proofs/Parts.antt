-- The parts of a tick of islands.
use Rattle.std.proofs.Common.{◌≡◌, ◌∙◌, ℕ, zero, suc, ◌<◌, ◌≤◌, ◌∷◌, ◌++◌, List, [], drop, get_or, length, map, set, take, refl, sym, ap, ap₂, subst, arith}
use Rattle.std.proofs.lemmas.List.{append-nil, drop_all, length-map, take_all}
use Rattle.std.proofs.lemmas.List.Elements.{All-map, All-weaker}
use Rattle.std.specs.Prelude.{All}
use Rattle.pf_shapes.specs.Scene.{Scene}
use Rattle.pf_rows.specs.Row.{IsEntryOf}
use Rattle.pf_islands.specs.Split.{IsIslandOf, Island}
use Rattle.pf_solver.specs.Alone.{batch_in, island_after_rounds, island_after_tick, island_at_end, prepared_island}
use Rattle.pf_solver.specs.Beside.{IsBatch}
use Rattle.pf_solver.specs.Bodies.{after_gravity, each_awake, gravity_per_tick}
use Rattle.pf_solver.specs.Solve.{prepared_batch, prepared_row}
use Rattle.pf_solver.proofs.Prepared.{prepared_fit}
use Rattle.pf_solver.proofs.Tick.{tick_in_parts}
use Rattle.pf_batches.specs.Islands.{AreBatches}

-- after the pre-step the rows of an island name its bodies
batch_prepared : (s : Scene) (i : Island) → IsIslandOf s i → IsBatch (batch_in (prepared_island s i))
unfolding prepared_batch
batch_prepared s i of =
    let fallen = each_awake (after_gravity (gravity_per_tick s.gravity)) i.bodies in
    let rows = map (prepared_row s fallen) i.rows in
    let many : length fallen ≡ length i.bodies = length-map i.bodies _ in
    subst (λ n. All (λ r. IsEntryOf n r.entry) rows) (sym many)
    (prepared_fit s fallen (length i.bodies) i.rows rows refl of.rows)

pub batches_prepared : (s : Scene) (islands : List Island) → All (IsIslandOf s) islands → AreBatches (map (prepared_island s) islands)
batches_prepared s islands all =
    All-map (λ i. IsBatch (batch_in i)) (prepared_island s) islands
    (All-weaker (IsIslandOf s) (λ i. IsBatch (batch_in (prepared_island s i))) (batch_prepared s) islands all)

-- a loop over all elements
pub whole_map : (f : Island → Island) (islands now : List Island) (i : ℕ) → length islands ≤ i → i ≤ length islands
    → now ≡ map f (take i islands) ++ drop i islands → now ≡ map f islands
whole_map f islands now i over within is =
    is ∙ ap₂ (λ front rest. map f front ++ rest) (take_all i islands over) (drop_all i islands over) ∙ append-nil _

-- the three parts are the tick
pub ticks_in_parts : (s : Scene) (islands : List Island)
    → map island_at_end (map island_after_rounds (map (prepared_island s) islands)) ≡ map (island_after_tick s) islands
ticks_in_parts s [] = refl
ticks_in_parts s (i ∷ islands) = ap₂ (λ x xs. x ∷ xs) (tick_in_parts s i) (ticks_in_parts s islands)

-- what is read from a place and stored there again changes nothing
pub stored_again : {X : Type 0} (xs : List X) (i : ℕ) (d : X) → i < length xs → set xs i (get_or xs i d) ≡ xs
stored_again [] i d within = absurd (omega (arith, within))
stored_again (x ∷ xs) zero d within = refl
stored_again (x ∷ xs) (suc i) d within = ap (λ rest. x ∷ rest) (stored_again xs i d (omega (arith, within)))
