use Rattle.std.proofs.Common.{◌≡◌, ◌∙◌, ◌<◌, All, ap, arith, filter, get_or, length, map, rules, subst, sym, true, eqb-true}
use Rattle.std.proofs.lemmas.List.Elements.{All-map, All-weaker}
use Rattle.std.proofs.lemmas.List.{places, with_items_is}
use Rattle.std.specs.List.{count_by, flat_map}
use Rattle.std.specs.Prelude.{IfSome, slice_get}
use Rattle.pf_shapes.specs.Pair.{IsAscending, IsPairOf}
use Rattle.pf_shapes.specs.declared.scene.TheConstants.{MAX_BODIES}
use Rattle.pf_broad.specs.Enlarged.{AreEnlarged, contains}
use Rattle.pf_broad.specs.Pairs.{all_bounds, bounds_at, no_bounds, pair_may_touch, pairs}
use Rattle.pf_broad.proofs.Enlarging.{pairs-of-candidates}
use Rattle.pf_manifold.specs.Key.{key_of}
use Rattle.pf_cache.specs.KeySplices.{AreSplicesBetween, KeySplices, no_splices}
use Rattle.pf_cache.specs.Live.{AreLive}
use Rattle.pf_cache.specs.Manifolds.{computed_count, kept_touches, placed_shapes, points_of_pair}
use Rattle.pf_cache.specs.PlacedBodies.{HaveStayed, PlacedBodies, bodies_of}
use Rattle.pf_cache.specs.Slots.{HasFewTouches, AreSlots, IsFreshUnlessLive, HasSoundPoints, Slot, carried_slot, needs_points, overlapping, slot_of, slot_touches, unmoved_flags}
use Rattle.pf_cache.proofs.Bounded.{as_many_bounds}
use Rattle.pf_cache.proofs.FewTouches.{few_carried}
use Rattle.pf_cache.proofs.SlotsKept.{kept_touches_are_few, carried_pairs, counted_stale, kept_bodies, kept_own, kept_pairs, kept_points, kept_rise, now_kept, reused, stayed, all_stay, none_listed, none_stale}
use Rattle.pf_cache.proofs.Standing.{same_at}
use Rattle.pf_cache.proofs.manifolds.Manifolds.update.Goals.{then-has_all, else-has_all}
use Rattle.pf_cache.proofs.SplicesMade.{no_splices_between}
use Rattle.pf_cache.proofs.manifolds.Manifolds.update.Goals as goal

pub returns-then-shapes-bodies-clause-manifolds : goal.returns-then-shapes-bodies-clause-manifolds
returns-then-shapes-bodies-clause-manifolds g c =
    let fixtures = c.args.scene.now.fixtures in
    let bodies = c.args.bodies.now in
    let dirty = c.args.dirty.now in
    let old = c.self-then-is_empty-2.inside.placed in
    let none = eqb-true (length dirty) 0 (sym c.if-is_empty-2.ensures) in
    let same = sym (ap length c.shapes.ensures.value) ∙ c.if-shapes-bodies.true in
    let stood = subst (λ m. HaveStayed dirty (bodies_of m) fixtures bodies) (sym c.self-then-is_empty-2.view_is) c.requires.others in
    c.found-then-shapes-bodies.ensures.manifolds ∙ sym c.self-then-is_empty-2.view_is
    ∙ all_stay fixtures bodies c.self-then-is_empty-2.inside.broad_phase old.bounds old.shapes c.self-then-is_empty-2.inside.slots.items c.self-then-is_empty-2.invariant.0 c.requires.bodies
    c.shapes.ensures.bounds same (λ k below. stood same k below (none_listed dirty k none))

pub returns-then-shapes-bodies-clause-computed : goal.returns-then-shapes-bodies-clause-computed
returns-then-shapes-bodies-clause-computed g c =
    let fixtures = c.args.scene.now.fixtures in
    let bodies = c.args.bodies.now in
    let dirty = c.args.dirty.now in
    let old = c.self-then-is_empty-2.inside.placed in
    let none = eqb-true (length dirty) 0 (sym c.if-is_empty-2.ensures) in
    let same = sym (ap length c.shapes.ensures.value) ∙ c.if-shapes-bodies.true in
    let stood = subst (λ m. HaveStayed dirty (bodies_of m) fixtures bodies) (sym c.self-then-is_empty-2.view_is) c.requires.others in
    c.found-then-shapes-bodies.ensures.computed ∙ none_stale fixtures bodies c.self-then-is_empty-2.inside.broad_phase old.bounds old.shapes c.self-then-is_empty-2.inside.slots.items c.self-then-is_empty-2.invariant.0 c.requires.bodies
    c.shapes.ensures.bounds same (λ k below. stood same k below (none_listed dirty k none))
    ∙ ap (λ m. computed_count m (placed_shapes fixtures bodies) (pairs (all_bounds fixtures bodies))) c.self-then-is_empty-2.view_is

pub returns-then-shapes-bodies-clause-key_splices : goal.returns-then-shapes-bodies-clause-key_splices
returns-then-shapes-bodies-clause-key_splices g c =
    let found = c.found-then-shapes-bodies.result in
    let keys = map key_of (kept_touches c.args.self) in
    let same : keys ≡ map key_of (kept_touches found.collisions.manifolds) =
    ap (λ m. map key_of (kept_touches m)) (sym c.found-then-shapes-bodies.ensures.manifolds) in
    subst (λ o. IfSome o (λ e. AreSplicesBetween e keys (map key_of (kept_touches found.collisions.manifolds)))) (sym c.found-then-shapes-bodies.ensures.key_splices)
    (subst (λ e. AreSplicesBetween e keys (map key_of (kept_touches found.collisions.manifolds))) (sym c.new-then-shapes-bodies.ensures)
    (subst (AreSplicesBetween no_splices keys) same (no_splices_between keys)))

pub update-requires-2-clause-bodies : goal.update-requires-2-clause-bodies
update-requires-2-clause-bodies g c =
    sym (as_many_bounds c.args.scene.now.fixtures c.args.bodies.now c.in_ok-placed.placed c.bounds.result.now c.requires.bodies
    c.in_ok-placed.ensures.placed c.bounds.ensures.value)

pub update-requires-2-clause-dirty : goal.update-requires-2-clause-dirty
update-requires-2-clause-dirty g c =
    subst (λ n. All (λ number. number < n) c.args.dirty.now) (update-requires-2-clause-bodies g c) c.requires.dirty

pub update-requires-2-clause-others : goal.update-requires-2-clause-others
update-requires-2-clause-others g c = λ as_many k below other.
    let fixtures = c.args.scene.now.fixtures in
    let bodies = c.args.bodies.now in
    let bounds = c.bounds.result.now in
    let old = c.self-2.inside.placed in
    let new = all_bounds fixtures bodies in
    let enlarged = c.self-2.inside.broad_phase in
    let long = update-requires-2-clause-bodies g c in
    let now_are : bounds ≡ new = c.bounds.ensures.value ∙ ap (λ (p : PlacedBodies). p.bounds) c.in_ok-placed.ensures.placed in
    let stood = subst (λ m. HaveStayed c.args.dirty.now (bodies_of m) fixtures bodies) (sym c.self-2.view_is) c.requires.others in
    let enlarged_long = c.self-2.invariant.0.within.as_many in
    let old_long = c.shapes-before.ensures.bounds in
    let same : length old.shapes ≡ length bodies = omega (arith, as_many, long, enlarged_long, old_long) in
    subst (λ b. contains (bounds_at enlarged k) b ≡ true)
    (same_at old.bounds new k (stood same k (omega (arith, below, long)) other).1 no_bounds
    ∙ ap (λ bs. bounds_at bs k) (sym now_are))
    (c.self-2.invariant.0.within.each k (omega (arith, below, as_many, enlarged_long)))

pub update-requires-2-clause-few : goal.update-requires-2-clause-few
update-requires-2-clause-few g c =
    let long = update-requires-2-clause-bodies g c in omega (arith, long, c.update.ensures.few)

pub slots_of-requires-clause-rising : goal.slots_of-requires-clause-rising
slots_of-requires-clause-rising g c =
    kept_rise c.self-2.inside.broad_phase c.self-2.inside.placed.bounds c.self-2.inside.placed.shapes c.self-2.inside.slots.items c.self-2.invariant.0

pub slots_of-requires-clause-bodies : goal.slots_of-requires-clause-bodies
slots_of-requires-clause-bodies g c =
    kept_bodies c.self-2.inside.broad_phase c.self-2.inside.placed.bounds c.self-2.inside.placed.shapes c.self-2.inside.slots.items c.self-2.invariant.0

pub slots_of-requires-clause-same : goal.slots_of-requires-clause-same
slots_of-requires-clause-same g c = λ h.
    ap (map (carried_slot c.self-2.inside.slots.items)) (c.candidates.ensures.value ∙ ap pairs (c.in_ok-same.ensures.same h))
    ∙ kept_own c.self-2.inside.broad_phase c.self-2.inside.placed.bounds c.self-2.inside.placed.shapes c.self-2.inside.slots.items c.self-2.invariant.0

pub live_of-requires-clause-kept : goal.live_of-requires-clause-kept
live_of-requires-clause-kept g c = λ h.
    let live = c.self-2.inside.live in
    let kept = c.self-2.inside.slots.items in
    let own : map (carried_slot kept) c.candidates.result.now ≡ kept =
    ap (map (carried_slot kept)) (c.candidates.ensures.value ∙ ap pairs (c.in_ok-same.ensures.same h))
    ∙ kept_own c.self-2.inside.broad_phase c.self-2.inside.placed.bounds c.self-2.inside.placed.shapes kept c.self-2.invariant.0 in
    subst (AreLive live.watched.items live.places.items) (sym (c.deref.ensures.value ∙ c.in_ok-carried.ensures.slots ∙ own)) c.self-2.invariant.1

pub update_slots-requires-clause-bounds : goal.update_slots-requires-clause-bounds
update_slots-requires-clause-bounds g c =
    sym (ap length c.bounds.ensures.value)
    ∙ as_many_bounds c.args.scene.now.fixtures c.args.bodies.now c.in_ok-placed.placed c.bounds.result.now c.requires.bodies
    c.in_ok-placed.ensures.placed c.bounds.ensures.value

pub update_slots-requires-clause-ascending : goal.update_slots-requires-clause-ascending
update_slots-requires-clause-ascending g c =
    subst (λ ss. IsAscending (map (λ (s : Slot). s.pair) ss)) (sym (c.deref_mut.ensures.value ∙ c.in_ok-carried.ensures.slots))
    (subst IsAscending (sym (carried_pairs c.self-2.inside.slots.items c.candidates.result.now)) c.candidates.ensures.ascending)

pub update_slots-requires-clause-pairs : goal.update_slots-requires-clause-pairs
update_slots-requires-clause-pairs g c =
    let n = length c.in_ok-placed.placed.bounds in
    let candidates = c.candidates.result.now in
    let long = c.in_ok-same.ensures.enlarged.as_many ∙ ap length c.bounds.ensures.value in
    subst (All (λ (s : Slot). IsPairOf n s.pair)) (sym (c.deref_mut.ensures.value ∙ c.in_ok-carried.ensures.slots))
    (All-map (λ (s : Slot). IsPairOf n s.pair) (carried_slot c.self-2.inside.slots.items) candidates
    (subst (λ m. All (IsPairOf m) candidates) long c.candidates.ensures.bodies))

pub live_of-requires-clause-pairs : goal.live_of-requires-clause-pairs
live_of-requires-clause-pairs g c =
    let fixtures = c.args.scene.now.fixtures in
    let bodies = c.args.bodies.now in
    let placed = c.in_ok-placed.placed in
    let candidates = c.candidates.result.now in
    let long : length c.update-2.new.self ≡ length bodies =
    c.in_ok-same.ensures.enlarged.as_many
    ∙ as_many_bounds fixtures bodies placed c.bounds.result.now c.requires.bodies c.in_ok-placed.ensures.placed c.bounds.ensures.value in
    subst (All (λ (s : Slot). IsPairOf (length bodies) s.pair)) (sym (c.deref.ensures.value ∙ c.in_ok-carried.ensures.slots))
    (All-map (λ (s : Slot). IsPairOf (length bodies) s.pair) (carried_slot c.self-2.inside.slots.items) candidates
    (subst (λ m. All (IsPairOf m) candidates) long c.candidates.ensures.bodies))

pub update_slots-requires-clause-others : goal.update_slots-requires-clause-others
update_slots-requires-clause-others g c =
    let fixtures = c.args.scene.now.fixtures in
    let bodies = c.args.bodies.now in
    let placed = c.in_ok-placed.placed in
    let old = c.self-2.inside.placed in
    let kept = c.self-2.inside.slots.items in
    let long : length placed.bounds ≡ length bodies =
    sym (ap length c.bounds.ensures.value)
    ∙ as_many_bounds fixtures bodies placed c.bounds.result.now c.requires.bodies c.in_ok-placed.ensures.placed c.bounds.ensures.value in
    let shapes_are : placed.shapes ≡ placed_shapes fixtures bodies = ap (λ (p : PlacedBodies). p.shapes) c.in_ok-placed.ensures.placed in
    let bounds_are : placed.bounds ≡ all_bounds fixtures bodies = ap (λ (p : PlacedBodies). p.bounds) c.in_ok-placed.ensures.placed in
    let candidates = c.candidates.result.now in
    let within : AreEnlarged c.update-2.new.self placed.bounds = subst (AreEnlarged c.update-2.new.self) c.bounds.ensures.value c.in_ok-same.ensures.enlarged in
    let slots_were = c.deref_mut.ensures.value ∙ c.in_ok-carried.ensures.slots in
    let in_range : All (IsPairOf MAX_BODIES) candidates =
    All-weaker (IsPairOf (length c.update-2.new.self)) (IsPairOf MAX_BODIES)
    (λ p h. let few = c.candidates.ensures.few in (h.0, omega (arith, h.1, few))) candidates c.candidates.ensures.bodies in
    let flags_are : c.in_ok-placed.unmoved.items ≡ unmoved_flags old.shapes placed.shapes =
    c.in_ok-placed.ensures.unmoved ∙ ap (unmoved_flags old.shapes) (sym shapes_are) in
    let stood = subst (λ m. HaveStayed c.args.dirty.now (bodies_of m) fixtures bodies) (sym c.self-2.view_is) c.requires.others in
    let Stayed : Slot → Type 0 = IsFreshUnlessLive placed.bounds c.in_ok-placed.unmoved.items c.in_ok-live.live.watched.items in
    subst (All Stayed) (sym slots_were)
    (All-map Stayed (carried_slot kept) candidates (λ k e below.
    let p = get_or candidates k e in
    let enlarged_long = within.as_many in
    let here : IsPairOf (length c.update-2.new.self) p = c.candidates.ensures.bodies k e below in
    stayed c.self-2.inside.broad_phase old.bounds old.shapes kept c.self-2.invariant.0 p (in_range k e below) placed.bounds placed.shapes c.in_ok-placed.unmoved.items
    c.in_ok-live.live.watched.items (length c.shapes-before.result.now) (length bodies) c.args.dirty.now (omega (arith, here.1, enlarged_long, long)) flags_are
    (ap length c.shapes-before.ensures.value) c.shapes-before.ensures.bounds
    c.in_ok-live.ensures.others
    (λ same n small other.
    let h = stood same n small other in
    (h.0 ∙ ap (λ ss. slice_get ss n) (sym shapes_are), h.1 ∙ ap (λ bs. slice_get bs n) (sym bounds_are)))))

pub update_slots-requires-clause-kept : goal.update_slots-requires-clause-kept
update_slots-requires-clause-kept g c =
    let fixtures = c.args.scene.now.fixtures in
    let bodies = c.args.bodies.now in
    let placed = c.in_ok-placed.placed in
    let old = c.self-2.inside.placed in
    let kept = c.self-2.inside.slots.items in
    let shapes_are : placed.shapes ≡ placed_shapes fixtures bodies = ap (λ (p : PlacedBodies). p.shapes) c.in_ok-placed.ensures.placed in
    let candidates = c.candidates.result.now in
    let slots_were = c.deref_mut.ensures.value ∙ c.in_ok-carried.ensures.slots in
    let in_range : All (IsPairOf MAX_BODIES) candidates =
    All-weaker (IsPairOf (length c.update-2.new.self)) (IsPairOf MAX_BODIES)
    (λ p h. let few = c.candidates.ensures.few in (h.0, omega (arith, h.1, few))) candidates c.candidates.ensures.bodies in
    let flags_are : c.in_ok-placed.unmoved.items ≡ unmoved_flags old.shapes placed.shapes =
    c.in_ok-placed.ensures.unmoved ∙ ap (unmoved_flags old.shapes) (sym shapes_are) in
    let Reused : Slot → Type 0 = HasSoundPoints placed.shapes c.in_ok-placed.unmoved.items in
    subst (All Reused) (sym slots_were)
    (All-map Reused (carried_slot kept) candidates (λ k e below.
    reused c.self-2.inside.broad_phase old.bounds old.shapes kept c.self-2.invariant.0 (get_or candidates k e) (in_range k e below) placed.shapes
    c.in_ok-placed.unmoved.items flags_are))

pub update_slots-requires-clause-touches : goal.update_slots-requires-clause-touches
update_slots-requires-clause-touches g c =
    let old = c.self-2.inside.placed in
    let kept = c.self-2.inside.slots.items in
    let candidates = c.candidates.result.now in
    let few = kept_touches_are_few c.self-2.inside.broad_phase old.bounds old.shapes kept c.self-2.invariant.0 in
    subst (All HasFewTouches) (sym (c.deref_mut.ensures.value ∙ c.in_ok-carried.ensures.slots))
    (All-map HasFewTouches (carried_slot kept) candidates (λ k e below. few_carried kept (get_or candidates k e) few))

pub invariant_of-manifolds : goal.invariant_of-manifolds
invariant_of-manifolds g c =
    let fixtures = c.args.scene.now.fixtures in
    let bodies = c.args.bodies.now in
    let placed = c.in_ok-placed.placed in
    let old = c.self-2.inside.placed in
    let kept = c.self-2.inside.slots.items in
    let long : length placed.bounds ≡ length bodies =
    sym (ap length c.bounds.ensures.value)
    ∙ as_many_bounds fixtures bodies placed c.bounds.result.now c.requires.bodies c.in_ok-placed.ensures.placed c.bounds.ensures.value in
    let shapes_are : placed.shapes ≡ placed_shapes fixtures bodies = ap (λ (p : PlacedBodies). p.shapes) c.in_ok-placed.ensures.placed in
    let candidates = c.candidates.result.now in
    let within : AreEnlarged c.update-2.new.self placed.bounds = subst (AreEnlarged c.update-2.new.self) c.bounds.ensures.value c.in_ok-same.ensures.enlarged in
    let slots_were = c.deref_mut.ensures.value ∙ c.in_ok-carried.ensures.slots in
    let now = c.update_slots.new.slots in
    let items_are = with_items_is c.in_ok-carried.carried.slots now (search (rules, places)) in
    let each : now ≡ map (slot_of placed.bounds placed.shapes) (pairs c.update-2.new.self) =
    c.in_ok-refreshed.ensures.slots
    ∙ ap (map (slot_of placed.bounds placed.shapes)) (ap (map (λ (s : Slot). s.pair)) slots_were ∙ carried_pairs kept candidates ∙ c.candidates.ensures.value) in
    let are = now_kept fixtures bodies c.update-2.new.self placed.bounds placed.shapes now c.requires.bodies shapes_are long c.candidates.ensures.few within each in
    let live = c.in_ok-live.live in (
      subst (AreSlots c.update-2.new.self placed.bounds placed.shapes) (sym items_are) are,
      subst (AreLive live.watched.items live.places.items) (sym items_are) c.in_ok-refreshed.ensures.live,
    )

pub returns-clause-manifolds : goal.returns-clause-manifolds
returns-clause-manifolds g c =
    let fixtures = c.args.scene.now.fixtures in
    let bodies = c.args.bodies.now in
    let placed = c.in_ok-placed.placed in
    let old = c.self-2.inside.placed in
    let kept = c.self-2.inside.slots.items in
    let long : length placed.bounds ≡ length bodies =
    sym (ap length c.bounds.ensures.value)
    ∙ as_many_bounds fixtures bodies placed c.bounds.result.now c.requires.bodies c.in_ok-placed.ensures.placed c.bounds.ensures.value in
    let shapes_are : placed.shapes ≡ placed_shapes fixtures bodies = ap (λ (p : PlacedBodies). p.shapes) c.in_ok-placed.ensures.placed in
    let bounds_are : placed.bounds ≡ all_bounds fixtures bodies = ap (λ (p : PlacedBodies). p.bounds) c.in_ok-placed.ensures.placed in
    let candidates = c.candidates.result.now in
    let within : AreEnlarged c.update-2.new.self placed.bounds = subst (AreEnlarged c.update-2.new.self) c.bounds.ensures.value c.in_ok-same.ensures.enlarged in
    let slots_were = c.deref_mut.ensures.value ∙ c.in_ok-carried.ensures.slots in
    let now = c.update_slots.new.slots in
    let items_are = with_items_is c.in_ok-carried.carried.slots now (search (rules, places)) in
    let each : now ≡ map (slot_of placed.bounds placed.shapes) (pairs c.update-2.new.self) =
    c.in_ok-refreshed.ensures.slots
    ∙ ap (map (slot_of placed.bounds placed.shapes)) (ap (map (λ (s : Slot). s.pair)) slots_were ∙ carried_pairs kept candidates ∙ c.candidates.ensures.value) in
    let are = now_kept fixtures bodies c.update-2.new.self placed.bounds placed.shapes now c.requires.bodies shapes_are long c.candidates.ensures.few within each in
    let pairs_are = ap overlapping items_are ∙ kept_pairs c.update-2.new.self placed.bounds placed.shapes now are ∙ ap pairs bounds_are in
    c.found-2.ensures.manifolds ∙ (λ i. record { shapes = shapes_are i; bounds = bounds_are i; pairs = pairs_are i })

pub returns-clause-computed : goal.returns-clause-computed
returns-clause-computed g c =
    let fixtures = c.args.scene.now.fixtures in
    let bodies = c.args.bodies.now in
    let placed = c.in_ok-placed.placed in
    let old = c.self-2.inside.placed in
    let kept = c.self-2.inside.slots.items in
    let shapes_are : placed.shapes ≡ placed_shapes fixtures bodies = ap (λ (p : PlacedBodies). p.shapes) c.in_ok-placed.ensures.placed in
    let bounds_are : placed.bounds ≡ all_bounds fixtures bodies = ap (λ (p : PlacedBodies). p.bounds) c.in_ok-placed.ensures.placed in
    let candidates = c.candidates.result.now in
    let within : AreEnlarged c.update-2.new.self placed.bounds = subst (AreEnlarged c.update-2.new.self) c.bounds.ensures.value c.in_ok-same.ensures.enlarged in
    let slots_were = c.deref_mut.ensures.value ∙ c.in_ok-carried.ensures.slots in
    let in_range : All (IsPairOf MAX_BODIES) candidates =
    All-weaker (IsPairOf (length c.update-2.new.self)) (IsPairOf MAX_BODIES)
    (λ p h. let few = c.candidates.ensures.few in (h.0, omega (arith, h.1, few))) candidates c.candidates.ensures.bodies in
    let flags_are : c.in_ok-placed.unmoved.items ≡ unmoved_flags old.shapes placed.shapes =
    c.in_ok-placed.ensures.unmoved ∙ ap (unmoved_flags old.shapes) (sym shapes_are) in
    let ps = filter (pair_may_touch placed.bounds) candidates in
    let ps_are : ps ≡ pairs (all_bounds fixtures bodies) =
    ap (filter (pair_may_touch placed.bounds)) c.candidates.ensures.value ∙ pairs-of-candidates c.update-2.new.self placed.bounds within
    ∙ ap pairs bounds_are in
    c.found-2.ensures.computed ∙ c.in_ok-refreshed.ensures.computed
    ∙ ap (count_by (needs_points placed.bounds c.in_ok-placed.unmoved.items)) slots_were
    ∙ counted_stale c.self-2.inside.broad_phase old.bounds old.shapes kept c.self-2.invariant.0 placed.bounds placed.shapes c.in_ok-placed.unmoved.items candidates
    in_range flags_are
    ∙ (λ i. computed_count (c.self-2.view_is i) (shapes_are i) (ps_are i))

pub returns-clause-key_splices : goal.returns-clause-key_splices
returns-clause-key_splices g c =
    let fixtures = c.args.scene.now.fixtures in
    let bodies = c.args.bodies.now in
    let placed = c.in_ok-placed.placed in
    let old = c.self-2.inside.placed in
    let kept = c.self-2.inside.slots.items in
    let long : length placed.bounds ≡ length bodies =
    sym (ap length c.bounds.ensures.value)
    ∙ as_many_bounds fixtures bodies placed c.bounds.result.now c.requires.bodies c.in_ok-placed.ensures.placed c.bounds.ensures.value in
    let shapes_are : placed.shapes ≡ placed_shapes fixtures bodies = ap (λ (p : PlacedBodies). p.shapes) c.in_ok-placed.ensures.placed in
    let candidates = c.candidates.result.now in
    let within : AreEnlarged c.update-2.new.self placed.bounds = subst (AreEnlarged c.update-2.new.self) c.bounds.ensures.value c.in_ok-same.ensures.enlarged in
    let slots_were = c.deref_mut.ensures.value ∙ c.in_ok-carried.ensures.slots in
    let now = c.update_slots.new.slots in
    let items_are = with_items_is c.in_ok-carried.carried.slots now (search (rules, places)) in
    let each : now ≡ map (slot_of placed.bounds placed.shapes) (pairs c.update-2.new.self) =
    c.in_ok-refreshed.ensures.slots
    ∙ ap (map (slot_of placed.bounds placed.shapes)) (ap (map (λ (s : Slot). s.pair)) slots_were ∙ carried_pairs kept candidates ∙ c.candidates.ensures.value) in
    let are = now_kept fixtures bodies c.update-2.new.self placed.bounds placed.shapes now c.requires.bodies shapes_are long c.candidates.ensures.few within each in
    let before : map key_of (flat_map slot_touches kept) ≡ map key_of (kept_touches c.args.self) =
    ap (map key_of) (kept_points c.self-2.inside.broad_phase old.bounds old.shapes kept c.self-2.invariant.0 ∙ ap kept_touches c.self-2.view_is) in
    let after = ap (map key_of) (kept_points c.update-2.new.self placed.bounds placed.shapes now are)
    ∙ sym (ap (λ ss. map key_of (flat_map (points_of_pair placed.shapes) (overlapping ss))) items_are)
    ∙ sym (ap (λ m. map key_of (kept_touches m)) c.found-2.ensures.manifolds) in
    let Between = λ (e : KeySplices). AreSplicesBetween e (map key_of (kept_touches c.args.self)) (map key_of (kept_touches c.found-2.result.collisions.manifolds)) in
    subst (λ o. IfSome o Between) (sym c.found-2.ensures.key_splices)
    (elim c.if-has_all.branch [
      | then-has_all w ↦
          let had = ap (map key_of) (ap (flat_map slot_touches) c.deref_mut.ensures.value ∙ c.in_ok-carried.ensures.all w.if-has_all.true) ∙ before in
          subst (λ o. IfSome o Between) (sym w.key_splices2-is)
          (subst (λ ks. AreSplicesBetween c.in_ok-refreshed.refreshed.key_splices ks (map key_of (kept_touches c.found-2.result.collisions.manifolds))) had
          (subst (AreSplicesBetween c.in_ok-refreshed.refreshed.key_splices (map key_of (flat_map slot_touches c.deref_mut.result.now))) after c.in_ok-refreshed.ensures.key_splices))
      | else-has_all w ↦ subst (λ o. IfSome o Between) (sym w.key_splices2-is) tt
    ])
