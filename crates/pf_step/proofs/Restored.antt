-- Contacts whose impulses were noted before the islands were solved are restored.
use Rattle.std.proofs.Common.{◌≡◌, ◌∙◌, true, List, [], ◌∷◌, length, map, refl, sym, ap, subst}
use Rattle.std.proofs.lemmas.List.{length-map}
use Rattle.std.proofs.lemmas.List.Elements.{All-cons, All-head, All-map, All-nil, All-tail, All-weaker}
use Rattle.std.specs.Prelude.{All}
use Rattle.pf_shapes.specs.Body.{BodyState}
use Rattle.pf_shapes.specs.Scene.{Scene}
use Rattle.pf_manifold.specs.Key.{AreTouches, key_of, rank}
use Rattle.pf_manifold.specs.Touches.{Touch}
use Rattle.pf_rows.specs.Row.{Row}
use Rattle.pf_cache.specs.Contact.{Contact}
use Rattle.pf_cache.specs.ContactRows.{AreRowsAt, with_rows}
use Rattle.pf_cache.specs.ContactsChange.{ContactsChange, contacts_before, may_change}
use Rattle.pf_cache.proofs.Restoring.{before_rows}
use Rattle.pf_islands.specs.Join.{joined_contacts}
use Rattle.pf_islands.specs.Split.{Island}
use Rattle.pf_islands.specs.Splitting.{woken_islands}
use Rattle.pf_islands.proofs.ActiveRows.{rows_beside}
use Rattle.pf_islands.proofs.Whole.{islands_at_contacts}
use Rattle.pf_solver.specs.Alone.{island_after_tick}
use Rattle.pf_solver.proofs.Solved.{solved_touches}
use Rattle.pf_step.specs.Activity.{labels_of_bodies, batch_with, islands_with}
use Rattle.pf_step.specs.Changes.{MayChange}
use Rattle.pf_step.specs.Step.{touches_of_scene}

-- the rows of the islands stand at their contacts
pub islands_beside : (s : Scene) (contacts : List Contact) (bodies : List BodyState)
    → AreTouches (touches_of_scene s bodies)
    → map (λ (c : Contact). c.key) contacts ≡ map key_of (touches_of_scene s bodies)
    → All (λ (i : Island). AreRowsAt contacts i.rows) (islands_with s contacts bodies)
islands_beside s contacts bodies order keys =
    let points = touches_of_scene s bodies in
    let batch = batch_with s contacts bodies in
    islands_at_contacts (labels_of_bodies s bodies) batch.bodies batch.rows contacts
    (rows_beside s batch.bodies points contacts keys
    (sym (length-map contacts (λ (c : Contact). c.key)) ∙ ap length keys ∙ length-map points key_of) order)

-- islands that were made of what stands for the points, the bodies and the contacts
pub islands_are : (s : Scene) (contacts : List Contact) (bodies : List BodyState) (points : List Touch)
    (lent : List BodyState) (updated : List Contact) → points ≡ touches_of_scene s bodies → lent ≡ bodies
    → updated ≡ contacts → woken_islands s lent points updated ≡ islands_with s contacts bodies
islands_are s contacts bodies points lent updated points_are lent_are updated_are =
    λ i. woken_islands s (lent_are i) (points_are i) (updated_are i)

-- ---- a tick solves rows of the same contacts

unmapped : (P : Touch → Type 0) (rows : List Row) → All P (map (λ (r : Row). r.entry.touch) rows)
    → All (λ (r : Row). P r.entry.touch) rows
unmapped P [] all = All-nil (λ (r : Row). P r.entry.touch)
unmapped P (r ∷ rows) all =
    let touches = map (λ (x : Row). x.entry.touch) rows in
    All-cons (λ (x : Row). P x.entry.touch) r rows (All-head P r.entry.touch touches all)
    (unmapped P rows (All-tail P r.entry.touch touches all))

-- so their impulses may change as well
ended_may : (s : Scene) (change : ContactsChange) (islands : List Island)
    → All (λ (i : Island). MayChange change i.rows) islands
    → All (λ (i : Island). MayChange change i.rows) (map (island_after_tick s) islands)
ended_may s change islands all =
    let P : Touch → Type 0 = λ t. may_change change (rank (key_of t)) ≡ true in
    All-map (λ (i : Island). MayChange change i.rows) (island_after_tick s) islands
    (All-weaker (λ (i : Island). MayChange change i.rows)
    (λ i. MayChange change (island_after_tick s i).rows)
    (λ i own.
    unmapped P (island_after_tick s i).rows
    (subst (All P) (sym (solved_touches s i.bodies i.rows)) (All-map P (λ (r : Row). r.entry.touch) i.rows own)))
    islands all)

-- what islands store is undone
joined_undone : (change : ContactsChange) (islands : List Island) (now : List Contact)
    → All (λ (i : Island). MayChange change i.rows) islands
    → contacts_before change (joined_contacts islands now) ≡ contacts_before change now
joined_undone change [] now all = refl
joined_undone change (i ∷ islands) now all =
    joined_undone change islands (with_rows now i.rows) (All-tail (λ (x : Island). MayChange change x.rows) i islands all)
    ∙ before_rows change now i.rows (All-head (λ (x : Island). MayChange change x.rows) i islands all)

-- so the contacts before a tick are those before its islands were put back
pub contacts_restored : (s : Scene) (contacts : List Contact) (islands : List Island) (change : ContactsChange)
    → All (λ (i : Island). MayChange change i.rows) islands
    → contacts_before change (joined_contacts (map (island_after_tick s) islands) contacts) ≡ contacts_before change contacts
contacts_restored s contacts found change all =
    joined_undone change (map (island_after_tick s) found) contacts (ended_may s change found all)
