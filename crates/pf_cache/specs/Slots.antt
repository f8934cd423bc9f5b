-- Slots: the pairs of bodies whose enlarged bounds overlap, each with its contact points, as the
-- contact list of Box2D 2.x's b2ContactManager.
use Rattle.std.specs.Prelude.{◌≡◌, ◌≤◌, ℕ, ◌+◌, ◌==◌, Bool, true, false, not, ◌&&◌, ◌||◌, Option, None, Some, List, [], ◌∷◌, filter, length, map, get_or, is_some, unwrap_or, if◌then◌else◌}
use Rattle.std.specs.List.{flat_map, zip}
use Rattle.pf_shapes.specs.Bounds.{Bounds}
use Rattle.pf_shapes.specs.Pair.{Pair}
use Rattle.pf_shapes.specs.declared.scene.TheConstants.{MAX_BODIES}
use Rattle.pf_broad.specs.Enlarged.{AreEnlarged}
use Rattle.pf_broad.specs.Pairs.{pair_may_touch, pairs}
use Rattle.pf_manifold.specs.Key.{AreTouches, rank}
use Rattle.pf_manifold.specs.PlacedShape.{PlacedShape}
use Rattle.pf_manifold.specs.ContactPoint.{ContactPoint}
use Rattle.pf_manifold.specs.Manifold.{points_of}
use Rattle.pf_manifold.specs.declared.manifold.Manifold.{Manifold}
use Rattle.pf_manifold.specs.Touches.{Touch, touch_of}
use Rattle.pf_cache.specs.declared.slot.SlotPlace.{SlotPlace}
use Rattle.pf_cache.specs.Ranked.{element_at}
use Rattle.pf_cache.specs.Manifolds.{points_of_pair, same_placed_shape}

-- a pair of bodies, and its contact points; none are kept where the bounds are apart
pub record Slot : Type 0 where
  pub pair : Pair
  pub touches : Option (List Touch)

-- the points of a manifold, if there is one
abbrev pub points_or_none : Option Manifold → List ContactPoint
points_or_none None = []
points_or_none (Some m) = points_of m

-- the contact points of a pair by its manifold, if there is one
abbrev pub manifold_touches : Pair → Option Manifold → Option (List Touch)
manifold_touches p None = None
manifold_touches p (Some m) = Some (map (touch_of p) (points_of m))

-- the contact points of a slot
abbrev pub slot_touches : Slot → List Touch
slot_touches s = unwrap_or s.touches []

-- a slot has at most two contact points, as two convex shapes do
abbrev pub HasFewTouches : Slot → Type 0
HasFewTouches s = length (slot_touches s) ≤ 2

-- the slot of two bodies with these bounds and shapes
abbrev pub slot_of : List Bounds → List PlacedShape → Pair → Slot
slot_of bounds shapes p = record {
  pair = p;
  touches = if pair_may_touch bounds p then Some (points_of_pair shapes p) else None;
}

-- the slots of bodies with these bounds and shapes, one for each pair whose enlarged bounds overlap
pub record AreSlots
    (enlarged bounds : List Bounds) (shapes : List PlacedShape) (slots : List Slot)
    : Type 0 where
  pub few : length enlarged ≤ MAX_BODIES
  pub within : AreEnlarged enlarged bounds
  pub each : slots ≡ map (slot_of bounds shapes) (pairs enlarged)
  pub order : AreTouches (flat_map slot_touches slots)

-- the pairs whose bounds overlap
abbrev pub overlapping : List Slot → List Pair
overlapping slots = map (λ s. s.pair) (filter (λ s. is_some s.touches) slots)

-- the rank of a pair: ranks ascend by the first body, then by the second
abbrev pub pair_rank : Pair → ℕ
pair_rank p = rank (record { a = p.a; b = p.b; feature = 0 })

-- the contact points of a slot, if there is one
abbrev pub touches_if : Option Slot → Option (List Touch)
touches_if None = None
touches_if (Some s) = s.touches

-- the slot of a pair with the contact points that it has in these slots, none where it has no slot
abbrev pub carried_slot : List Slot → Pair → Slot
carried_slot old p = record {
  pair = p;
  touches = touches_if (element_at (λ s. pair_rank s.pair) (pair_rank p) old);
}

-- for each number in both lists, whether the body is unmoved
abbrev pub unmoved_flags : List PlacedShape → List PlacedShape → List Bool
unmoved_flags old shapes = map (λ both. same_placed_shape both.0 both.1) (zip old shapes)

-- whether both bodies of a pair are unmoved
abbrev pub are_unmoved : List Bool → Pair → Bool
are_unmoved unmoved p = get_or unmoved p.a false && get_or unmoved p.b false

-- whether one of the bodies of a pair has its flag set
abbrev pub has_flagged_body : List Bool → Pair → Bool
has_flagged_body flags p = get_or flags p.a false || get_or flags p.b false

-- the contact points of a slot have to be computed: its bounds overlap, and they did not before or
-- a body moved
abbrev pub needs_points : List Bounds → List Bool → Slot → Bool
needs_points bounds unmoved s =
    pair_may_touch bounds s.pair && not (is_some s.touches && are_unmoved unmoved s.pair)

-- the pairs whose contact points have to be computed
abbrev pub pairs_to_compute : List Bounds → List Bool → List Slot → List Pair
pairs_to_compute bounds unmoved slots =
    map (λ s. s.pair) (filter (needs_points bounds unmoved) slots)

-- a slot is not up to date: where its bounds overlap, its contact points have to be computed; where
-- they are apart, it has some still
abbrev pub is_stale_if : Bool → List Bool → Slot → Bool
is_stale_if overlap unmoved s =
    if overlap then not (is_some s.touches && are_unmoved unmoved s.pair) else is_some s.touches

-- a slot of bodies with these bounds is not up to date
abbrev pub is_stale : List Bounds → List Bool → Slot → Bool
is_stale bounds unmoved s = is_stale_if (pair_may_touch bounds s.pair) unmoved s

-- a slot, brought up to date if it has to be
abbrev pub refreshed_slot : List Bounds → List Bool → List PlacedShape → Slot → Slot
refreshed_slot bounds unmoved shapes s =
    if is_stale bounds unmoved s then slot_of bounds shapes s.pair else s

-- the places of the slots that pass a test; the first slot is at `place`, and `skipped` contact
-- points lie between it and the one before it that passed
abbrev pub slot_places : (Slot → Bool) → ℕ → ℕ → List Slot → List SlotPlace
slot_places test place skipped [] = []
slot_places test place skipped (s ∷ slots) =
    if test s
    then record { place = place; skipped = skipped } ∷ slot_places test (place + 1) 0 slots
    else slot_places test (place + 1) (skipped + length (slot_touches s)) slots

-- the slots that are not up to date: their places, and the pairs of those to be computed
pub record AreStale
    (bounds : List Bounds) (unmoved : List Bool) (places : List SlotPlace) (pairs : List Pair)
    (slots : List Slot) : Type 0 where
  pub listed : places ≡ slot_places (is_stale bounds unmoved) 0 0 slots
  pub computed : pairs ≡ pairs_to_compute bounds unmoved slots

-- a contact point is of this pair
abbrev pub is_of_pair : Pair → Touch → Bool
is_of_pair p t = (t.a == p.a) && (t.b == p.b)

-- what is read where there is no slot
abbrev pub no_slot : Slot
no_slot = record { pair = record { a = 0; b = 0 }; touches = None }

-- the slot at this place
abbrev pub slot_at : List Slot → ℕ → Slot
slot_at slots k = get_or slots k no_slot

-- a slot with no watched body: it has contact points exactly where the bounds overlap, and both
-- bodies are unmoved
abbrev pub IsFreshUnlessLive : List Bounds → List Bool → List Bool → Slot → Type 0
IsFreshUnlessLive bounds unmoved watched s =
    has_flagged_body watched s.pair ≡ false
    → (is_some s.touches ≡ pair_may_touch bounds s.pair) × (are_unmoved unmoved s.pair ≡ true)

-- a slot whose contact points, if it has some and its bodies are unmoved, are those of these shapes
abbrev pub HasSoundPoints : List PlacedShape → List Bool → Slot → Type 0
HasSoundPoints shapes unmoved s =
    are_unmoved unmoved s.pair ≡ true → is_some s.touches ≡ true
    → s.touches ≡ Some (points_of_pair shapes s.pair)
