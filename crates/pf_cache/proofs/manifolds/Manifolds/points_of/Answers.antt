use Rattle.std.proofs.Common.{◌≡◌, ◌∙◌, ap, length, subst, sym, All}
use Rattle.std.specs.List.{flat_map}
use Rattle.pf_shapes.specs.Pair.{IsPairOf}
use Rattle.pf_shapes.specs.declared.scene.TheConstants.{MAX_BODIES}
use Rattle.pf_manifold.specs.Touches.{IsTouchOf}
use Rattle.pf_cache.specs.Live.{AreLive, AreWatched, HasOwnTouches}
use Rattle.pf_cache.specs.Manifolds.{kept_touches}
use Rattle.pf_cache.specs.Slots.{HasFewTouches, Slot, slot_touches}
use Rattle.pf_cache.proofs.SlotsKept.{kept_bodies, kept_points, kept_touches_are_few, kept_touches_are_own}
use Rattle.pf_cache.proofs.manifolds.Manifolds.points_of.Goals as goal

pub flagged_points_of_live-requires-clause-pairs : goal.flagged_points_of_live-requires-clause-pairs
flagged_points_of_live-requires-clause-pairs c =
    subst (All (λ (s : Slot). IsPairOf MAX_BODIES s.pair)) (sym c.as_slice-slots.ensures.value)
    (kept_bodies c.self.inside.broad_phase c.self.inside.placed.bounds c.self.inside.placed.shapes c.self.inside.slots.items c.self.invariant.0)

pub flagged_points_of-requires-clause-pairs : goal.flagged_points_of-requires-clause-pairs
flagged_points_of-requires-clause-pairs c =
    subst (All (λ (s : Slot). IsPairOf MAX_BODIES s.pair)) (sym c.as_slice-slots.ensures.value)
    (kept_bodies c.self.inside.broad_phase c.self.inside.placed.bounds c.self.inside.placed.shapes c.self.inside.slots.items c.self.invariant.0)

pub flagged_points_of_live-requires-clause-flags : goal.flagged_points_of_live-requires-clause-flags
flagged_points_of_live-requires-clause-flags c =
    let same : flat_map slot_touches c.as_slice-slots.result.now ≡ kept_touches c.args.self.now =
    ap (flat_map slot_touches) c.as_slice-slots.ensures.value
    ∙ kept_points c.self.inside.broad_phase c.self.inside.placed.bounds c.self.inside.placed.shapes c.self.inside.slots.items c.self.invariant.0
    ∙ ap kept_touches c.self.view_is in
    subst (All (IsTouchOf (length c.args.flags.now))) (sym same) c.requires

pub flagged_points_of-requires-clause-flags : goal.flagged_points_of-requires-clause-flags
flagged_points_of-requires-clause-flags c =
    let same : flat_map slot_touches c.as_slice-slots.result.now ≡ kept_touches c.args.self.now =
    ap (flat_map slot_touches) c.as_slice-slots.ensures.value
    ∙ kept_points c.self.inside.broad_phase c.self.inside.placed.bounds c.self.inside.placed.shapes c.self.inside.slots.items c.self.invariant.0
    ∙ ap kept_touches c.self.view_is in
    subst (All (IsTouchOf (length c.args.flags.now))) (sym same) c.requires

pub flagged_points_of_live-requires-clause-live : goal.flagged_points_of_live-requires-clause-live
flagged_points_of_live-requires-clause-live c =
    let live = c.self.inside.live in
    subst (AreLive live.watched.items live.places.items) (sym c.as_slice-slots.ensures.value) c.self.invariant.1

pub flagged_points_of_live-requires-clause-watched : goal.flagged_points_of_live-requires-clause-watched
flagged_points_of_live-requires-clause-watched c =
    subst (λ watched. AreWatched watched c.args.flags.now) c.deref.ensures.value (c.are_watched.ensures c.if-are_watched.true)

pub flagged_points_of_live-requires-clause-own : goal.flagged_points_of_live-requires-clause-own
flagged_points_of_live-requires-clause-own c =
    subst (All HasOwnTouches) (sym c.as_slice-slots.ensures.value)
    (kept_touches_are_own c.self.inside.broad_phase c.self.inside.placed.bounds c.self.inside.placed.shapes c.self.inside.slots.items c.self.invariant.0)

pub flagged_points_of_live-requires-clause-few : goal.flagged_points_of_live-requires-clause-few
flagged_points_of_live-requires-clause-few c =
    subst (All HasFewTouches) (sym c.as_slice-slots.ensures.value)
    (kept_touches_are_few c.self.inside.broad_phase c.self.inside.placed.bounds c.self.inside.placed.shapes c.self.inside.slots.items c.self.invariant.0)

pub returns-then-are_watched-clause-points : goal.returns-then-are_watched-clause-points
returns-then-are_watched-clause-points c =
    let same : flat_map slot_touches c.as_slice-slots.result.now ≡ kept_touches c.args.self.now =
    ap (flat_map slot_touches) c.as_slice-slots.ensures.value
    ∙ kept_points c.self.inside.broad_phase c.self.inside.placed.bounds c.self.inside.placed.shapes c.self.inside.slots.items c.self.invariant.0
    ∙ ap kept_touches c.self.view_is in
    rw (sym same) c.flagged_points_of_live.ensures.value

pub returns-then-are_watched-clause-no_memory : goal.returns-then-are_watched-clause-no_memory
returns-then-are_watched-clause-no_memory c = λ none.
    let same : flat_map slot_touches c.as_slice-slots.result.now ≡ kept_touches c.args.self.now =
    ap (flat_map slot_touches) c.as_slice-slots.ensures.value
    ∙ kept_points c.self.inside.broad_phase c.self.inside.placed.bounds c.self.inside.placed.shapes c.self.inside.slots.items c.self.invariant.0
    ∙ ap kept_touches c.self.view_is in
    c.flagged_points_of_live.ensures.no_memory (same ∙ none)

pub returns-clause-points : goal.returns-clause-points
returns-clause-points c =
    let same : flat_map slot_touches c.as_slice-slots.result.now ≡ kept_touches c.args.self.now =
    ap (flat_map slot_touches) c.as_slice-slots.ensures.value
    ∙ kept_points c.self.inside.broad_phase c.self.inside.placed.bounds c.self.inside.placed.shapes c.self.inside.slots.items c.self.invariant.0
    ∙ ap kept_touches c.self.view_is in
    rw (sym same) c.flagged_points_of.ensures.value

pub returns-clause-no_memory : goal.returns-clause-no_memory
returns-clause-no_memory c = λ none.
    let same : flat_map slot_touches c.as_slice-slots.result.now ≡ kept_touches c.args.self.now =
    ap (flat_map slot_touches) c.as_slice-slots.ensures.value
    ∙ kept_points c.self.inside.broad_phase c.self.inside.placed.bounds c.self.inside.placed.shapes c.self.inside.slots.items c.self.invariant.0
    ∙ ap kept_touches c.self.view_is in
    c.flagged_points_of.ensures.no_memory (same ∙ none)
