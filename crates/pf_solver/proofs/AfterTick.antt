-- Islands keep their places in the world through a tick of their own.
use Rattle.std.proofs.Common.{◌≡◌, ◌∙◌, ℕ, Bool, true, false, List, length, map, sym, refl, subst, ◌==◌, if◌then◌else◌}
use Rattle.std.proofs.lemmas.List.{length-map}
use Rattle.std.proofs.lemmas.List.Elements.{All-map, All-weaker}
use Rattle.std.specs.List.{list_all}
use Rattle.std.specs.Prelude.{All}
use Rattle.pf_shapes.specs.Body.{BodyState}
use Rattle.pf_shapes.specs.Scene.{Scene}
use Rattle.pf_manifold.specs.Key.{AreTouches}
use Rattle.pf_cache.specs.Contact.{Contact}
use Rattle.pf_rows.specs.Row.{Row}
use Rattle.pf_cache.specs.ContactRows.{AreRowsAt}
use Rattle.pf_islands.specs.Join.{IsAtHome}
use Rattle.pf_islands.specs.Sleep.{at_sleep, island_after_sleep}
use Rattle.pf_islands.specs.Split.{Island}
use Rattle.pf_solver.specs.Alone.{island_after_tick}
use Rattle.pf_solver.specs.Solve.{solved_batch}
use Rattle.pf_solver.proofs.Solved.{solved_at_places, solved_length, solved_touches}

-- no body goes away in the phase Sleep
rested_long : (full : ℕ) (bodies : List BodyState) → length (island_after_sleep full bodies) ≡ length bodies
rested_long full bodies = by (list_all (λ (b : BodyState). b.timer == full) bodies)
  where
    by : (e : Bool) → length (if e then map at_sleep bodies else bodies) ≡ length bodies
    by true = length-map bodies at_sleep
    by false = refl

-- solved rows stand at the places of the same contacts
solved_beside : (s : Scene) (bodies : List BodyState) (contacts : List Contact) (rows : List Row)
    → AreRowsAt contacts rows → AreRowsAt contacts (solved_batch s bodies rows).rows
solved_beside s bodies contacts rows beside = record {
  order = subst AreTouches (sym (solved_touches s bodies rows)) beside.order;
  places = solved_at_places s bodies rows contacts beside.places;
}

-- their numbers are still of bodies of the world, with a state for each
pub after_tick_at_home : (s : Scene) (n : ℕ) (islands : List Island) → All (IsAtHome n) islands
    → All (IsAtHome n) (map (island_after_tick s) islands)
after_tick_at_home s n islands home =
    All-map (IsAtHome n) (island_after_tick s) islands
    (All-weaker (IsAtHome n) (λ i. IsAtHome n (island_after_tick s i))
    (λ i at. record {
      paired = rested_long _ (solved_batch s i.bodies i.rows).bodies ∙ solved_length s i.bodies i.rows ∙ at.paired;
      within = at.within;
    })
    islands home)

-- and their rows still stand at contacts of the world
pub after_tick_at_contacts : (s : Scene) (contacts : List Contact) (islands : List Island)
    → All (λ (i : Island). AreRowsAt contacts i.rows) islands
    → All (λ (i : Island). AreRowsAt contacts i.rows) (map (island_after_tick s) islands)
after_tick_at_contacts s contacts islands at =
    All-map (λ (i : Island). AreRowsAt contacts i.rows) (island_after_tick s) islands
    (All-weaker (λ (i : Island). AreRowsAt contacts i.rows) (λ i. AreRowsAt contacts (island_after_tick s i).rows)
    (λ i beside. solved_beside s i.bodies contacts i.rows beside) islands at)
