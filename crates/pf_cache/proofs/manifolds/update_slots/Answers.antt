use Rattle.std.proofs.Common.{◌∙◌, All, ap, filter, length, map, subst, sym}
use Rattle.std.proofs.lemmas.List.{length-map}
use Rattle.std.proofs.lemmas.List.Sums.{length-filter}
use Rattle.std.specs.List.{count_by, flat_map}
use Rattle.pf_shapes.specs.Pair.{IsPairOf}
use Rattle.pf_manifold.specs.Touches.{touches}
use Rattle.pf_cache.specs.Live.{AreLive}
use Rattle.pf_cache.specs.Manifolds.{points_of_pair}
use Rattle.pf_cache.specs.Slots.{Slot, needs_points, refreshed_slot}
use Rattle.pf_cache.proofs.Filling.{if_some}
use Rattle.pf_cache.proofs.Refreshing.{all_refreshed}
use Rattle.pf_cache.proofs.Unmoved.{kept_points}
use Rattle.pf_cache.proofs.Updating.{filter-pairs}
use Rattle.pf_cache.proofs.Watching.{still_live}
use Rattle.pf_cache.proofs.manifolds.update_slots.Goals as goal

pub collided-requires-clause-pairs : goal.collided-requires-clause-pairs
collided-requires-clause-pairs g c =
    let bounds = c.bounds-bounds.result.now in
    let n = length c.args.bodies.now in
    let old = c.args.slots.now in
    subst (All (IsPairOf n)) (sym (c.as_slice-pairs.ensures.value ∙ c.in_ok-stale.ensures.stale.computed))
    (filter-pairs (needs_points bounds c.args.unmoved.items) n old
    (subst (λ m. All (λ (s : Slot). IsPairOf m s.pair) old) c.requires.bounds c.requires.pairs))

pub refresh_slots-requires-clause-collided : goal.refresh_slots-requires-clause-collided
refresh_slots-requires-clause-collided g c =
    let fixtures = c.args.scene.now.fixtures in
    let bodies = c.args.bodies.now in
    let pairs = c.in_ok-stale.stale.pairs.items in
    if_some c.in_ok-collided.collided
    (λ found are.
    are ∙ ap (touches fixtures bodies) c.as_slice-pairs.ensures.value ∙ sym (kept_points fixtures bodies pairs)
    ∙ ap (λ ss. flat_map (points_of_pair ss) pairs) (sym (c.shapes.ensures.value ∙ c.requires.shapes)))
    c.in_ok-collided.ensures

pub returns-clause-slots : goal.returns-clause-slots
returns-clause-slots g c =
    let placed = c.args.placed.now in
    c.in_ok-key_splices.ensures.slots
    ∙ (λ i. map (refreshed_slot (c.bounds-bounds.ensures.value i) (c.in_ok-stale.ensures.unmoved i) (c.shapes.ensures.value i)) c.args.slots.now)
    ∙ all_refreshed placed.bounds c.args.unmoved.items placed.shapes c.args.slots.now c.requires.kept

pub returns-clause-live : goal.returns-clause-live
returns-clause-live g c =
    let placed = c.args.placed.now in
    let live = c.args.live.now in
    subst (AreLive live.watched.items live.places.items) (sym (returns-clause-slots g c))
    (c.requires.live
    ∙ still_live placed.bounds c.args.unmoved.items live.watched.items placed.shapes c.args.slots.now 0 0 c.requires.others c.requires.kept)

pub returns-clause-computed : goal.returns-clause-computed
returns-clause-computed g c =
    let old = c.args.slots.now in
    let computed = needs_points c.bounds-bounds.result.now c.args.unmoved.items in
    ap length (c.as_slice-pairs.ensures.value ∙ c.in_ok-stale.ensures.stale.computed)
    ∙ length-map (filter computed old) (λ (s : Slot). s.pair) ∙ length-filter computed old
    ∙ (λ i. count_by (needs_points (c.bounds-bounds.ensures.value i) c.args.unmoved.items) old)
