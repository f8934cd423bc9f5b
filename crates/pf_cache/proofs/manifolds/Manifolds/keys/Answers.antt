use Rattle.std.proofs.Common.{◌≡◌, ◌∙◌, ap, subst, sym, All}
use Rattle.std.specs.List.{flat_map}
use Rattle.pf_shapes.specs.Pair.{IsPairOf}
use Rattle.pf_shapes.specs.declared.scene.TheConstants.{MAX_BODIES}
use Rattle.pf_manifold.specs.Key.{AreTouches}
use Rattle.pf_cache.specs.Manifolds.{kept_touches}
use Rattle.pf_cache.specs.Slots.{Slot, slot_touches}
use Rattle.pf_cache.proofs.Kept.{keys_in_order}
use Rattle.pf_cache.proofs.SlotsKept.{kept_bodies, kept_points}
use Rattle.pf_cache.proofs.manifolds.Manifolds.keys.Goals as goal

pub keys_of-requires : goal.keys_of-requires
keys_of-requires c =
    subst (All (λ (s : Slot). IsPairOf MAX_BODIES s.pair)) (sym c.deref.ensures.value)
    (kept_bodies c.self.inside.broad_phase c.self.inside.placed.bounds c.self.inside.placed.shapes c.self.inside.slots.items c.self.invariant.0)

pub returns-clause-value : goal.returns-clause-value
returns-clause-value c =
    let same : flat_map slot_touches c.deref.result.now ≡ kept_touches c.args.self.now =
    ap (flat_map slot_touches) c.deref.ensures.value
    ∙ kept_points c.self.inside.broad_phase c.self.inside.placed.bounds c.self.inside.placed.shapes c.self.inside.slots.items c.self.invariant.0
    ∙ ap kept_touches c.self.view_is in
    rw (sym same) c.keys_of.ensures.value

pub returns-clause-order : goal.returns-clause-order
returns-clause-order c =
    keys_in_order (kept_touches c.args.self.now)
    (subst AreTouches
    (kept_points c.self.inside.broad_phase c.self.inside.placed.bounds c.self.inside.placed.shapes c.self.inside.slots.items c.self.invariant.0
    ∙ ap kept_touches c.self.view_is)
    c.self.invariant.0.order)

pub returns-clause-no_memory : goal.returns-clause-no_memory
returns-clause-no_memory c = λ none.
    let same : flat_map slot_touches c.deref.result.now ≡ kept_touches c.args.self.now =
    ap (flat_map slot_touches) c.deref.ensures.value
    ∙ kept_points c.self.inside.broad_phase c.self.inside.placed.bounds c.self.inside.placed.shapes c.self.inside.slots.items c.self.invariant.0
    ∙ ap kept_touches c.self.view_is in
    c.keys_of.ensures.no_memory (same ∙ none)
