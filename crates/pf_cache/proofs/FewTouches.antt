-- A slot has few contact points, so that the number of those of all slots fits.
use Rattle.std.proofs.Common.{◌≡◌, ◌∙◌, ◌≤◌, ◌+◌, ◌*◌, ◌==◌, ◌∷◌, ◌++◌, [], Bool, true, false, Option, Some, None, List, length, ap, arith}
use Rattle.std.proofs.lemmas.List.{length-append, length-map}
use Rattle.std.proofs.lemmas.List.Concat.{flat_map-append}
use Rattle.std.proofs.lemmas.List.Elements.{All-head, All-tail}
use Rattle.std.specs.List.{flat_map}
use Rattle.std.specs.Prelude.{All, if◌then◌else◌, slice_get, unwrap_or}
use Rattle.pf_shapes.specs.Bounds.{Bounds}
use Rattle.pf_shapes.specs.Pair.{Pair}
use Rattle.pf_broad.specs.Pairs.{pair_may_touch}
use Rattle.pf_manifold.specs.Collide.{collide}
use Rattle.pf_manifold.specs.PlacedShape.{PlacedShape}
use Rattle.pf_manifold.specs.Touches.{touch_of, touches_between}
use Rattle.pf_manifold.proofs.Features.{bodies_ascend, few_points}
use Rattle.pf_cache.specs.Manifolds.{points_of_pair}
use Rattle.pf_cache.specs.Ranked.{element_at}
use Rattle.pf_cache.specs.Slots.{HasFewTouches, Slot, carried_slot, pair_rank, slot_of, slot_touches, touches_if}

-- ---- one slot

few_between : (p : Pair) (o m : Option PlacedShape) → length (touches_between p o m) ≤ 2
few_between p (Some a) (Some b) =
    let few = few_points (collide a b) (bodies_ascend a b) in
    let long = length-map (collide a b) (touch_of p) in
    omega (arith, few, long)
few_between p (Some a) None = omega arith
few_between p None m = omega arith

pub few_of_shapes : (bounds : List Bounds) (shapes : List PlacedShape) (p : Pair) → HasFewTouches (slot_of bounds shapes p)
few_of_shapes bounds shapes p = by (pair_may_touch bounds p)
  where
    by : (b : Bool) → length (unwrap_or (if b then Some (points_of_pair shapes p) else None) []) ≤ 2
    by true = few_between p (slice_get shapes p.a) (slice_get shapes p.b)
    by false = omega arith

-- one that is carried over has those of a slot that is kept, or none
pub few_carried : (kept : List Slot) (p : Pair) → All HasFewTouches kept → HasFewTouches (carried_slot kept p)
few_carried [] p few = omega arith
few_carried (s ∷ kept) p few =
    by (pair_rank s.pair == pair_rank p) (All-head HasFewTouches s kept few) (few_carried kept p (All-tail HasFewTouches s kept few))
  where
    by : (b : Bool) → HasFewTouches s → HasFewTouches (carried_slot kept p)
        → length (unwrap_or (touches_if (if b then Some s else element_at (λ (x : Slot). pair_rank x.pair) (pair_rank p) kept)) []) ≤ 2
    by true here rest = here
    by false here rest = rest

-- ---- all slots

in_all : (slots : List Slot) → All HasFewTouches slots → length (flat_map slot_touches slots) ≤ 2 * length slots
in_all [] few = omega arith
in_all (s ∷ slots) few =
    let here = All-head HasFewTouches s slots few in
    let rest = in_all slots (All-tail HasFewTouches s slots few) in
    let long = length-append (slot_touches s) (flat_map slot_touches slots) in
    omega (arith, here, rest, long)

-- those of one slot, and of all before it
pub up_to : (slots front : List Slot) (s : Slot) (behind : List Slot) → slots ≡ front ++ s ∷ behind → All HasFewTouches slots
    → length (flat_map slot_touches front) + length (slot_touches s) ≤ 2 * length slots
up_to slots front s behind whole few =
    let all = in_all slots few in
    let sum = ap (λ l. length (flat_map slot_touches l)) whole ∙ ap length (flat_map-append slot_touches front (s ∷ behind))
    ∙ length-append (flat_map slot_touches front) (flat_map slot_touches (s ∷ behind)) in
    let rest = length-append (slot_touches s) (flat_map slot_touches behind) in
    omega (arith, all, sum, rest)
