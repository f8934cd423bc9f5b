-- Words of the laws of positions, edges and boxes, in exact raw numbers.
use Rattle.std.specs.Prelude.{◌≡◌, ◌≢◌, ℕ, ◌+◌, ◌*◌, ◌^◌, ◌<◌, ◌≤◌, ℤ, pos, ◌-ℤ◌, neg_ℤ, ◌≤ℤ◌, ◌<ℤ◌, ◌⊎◌, Bool}
use Rattle.std.specs.Int.RustNames.{unsigned_abs}
use Rattle.pf_rot.specs.Vector.{V2}
use Rattle.pf_shapes.specs.Fixture.{IsWithin}
use Rattle.pf_shapes.specs.Laws.{IsInBox, distance_squared}
use Rattle.pf_manifold.specs.declared.incident.Mark.{Mark}
use Rattle.pf_manifold.specs.Incident.{ClipVertex, Segment}
use Rattle.pf_manifold.specs.Clip.{crossing}
use Rattle.pf_manifold.specs.PlacedShape.{OrientedBox}
use Rattle.pf_manifold.specs.declared.separation.Axis.{Axis}
use Rattle.pf_manifold.specs.declared.separation.Axis.TheVariants.{AX, AY, BX, BY}
use Rattle.pf_manifold.specs.Separation.{Separations, frames_of, separations_of, has_gap, best_axis}

-- ---- closest points

-- p is in the box, and no position in the box is closer to d
pub record IsClosest (half d p : V2) : Type 0 where
  pub inside : IsInBox half p
  pub closest : (q : V2) → IsInBox half q → distance_squared d p ≤ distance_squared d q

-- ---- edges

-- a vertex is within the width of a face, from -side to side
abbrev pub LiesWithin : ℤ → ClipVertex → Type 0
LiesWithin side v = IsWithin (neg_ℤ side) side v.side

-- both ends are within that width
abbrev pub HasEndsWithin : ℤ → Segment → Type 0
HasEndsWithin side s = LiesWithin side s.first × LiesWithin side s.second

-- both ends are below that width
abbrev pub HasEndsBelow : ℤ → Segment → Type 0
HasEndsBelow side s = (s.first.side <ℤ neg_ℤ side) × (s.second.side <ℤ neg_ℤ side)

-- both ends are above it
abbrev pub HasEndsAbove : ℤ → Segment → Type 0
HasEndsAbove side s = (side <ℤ s.first.side) × (side <ℤ s.second.side)

-- ---- boxes

-- two boxes have a separating axis
abbrev pub boxes_have_gap : OrientedBox → OrientedBox → Bool
boxes_have_gap a b = has_gap (separations_of a.half b.half (frames_of a b))

-- two upright boxes overlap or just touch: on each axis the distance of the centres is at most the
-- sum of the half extents
pub record UprightBoxesOverlap (a b : OrientedBox) : Type 0 where
  pub x :
      unsigned_abs (b.position.x -ℤ a.position.x) ≤ unsigned_abs a.half.x + unsigned_abs b.half.x
  pub y :
      unsigned_abs (b.position.y -ℤ a.position.y) ≤ unsigned_abs a.half.y + unsigned_abs b.half.y

-- ---- axes

-- the separation along an axis
abbrev pub separation_along : Separations → Axis → ℤ
separation_along s AX = s.a.x
separation_along s AY = s.a.y
separation_along s BX = s.b.x
separation_along s BY = s.b.y

-- the separation of two boxes along an axis
abbrev pub boxes_separation : OrientedBox → OrientedBox → Axis → ℤ
boxes_separation a b axis =
    separation_along (separations_of a.half b.half (frames_of a b)) axis

-- the half extent, along an axis, of the box whose axis it is
abbrev pub extent_along : OrientedBox → OrientedBox → Axis → ℤ
extent_along a b AX = a.half.x
extent_along a b AY = a.half.y
extent_along a b BX = b.half.x
extent_along a b BY = b.half.y

-- the best axis of two boxes
abbrev pub boxes_best_axis : OrientedBox → OrientedBox → Axis
boxes_best_axis a b = best_axis (separations_of a.half b.half (frames_of a b)) a.half b.half

-- ---- crossings

-- z is between a and b, in either order
abbrev pub IsBetween : ℤ → ℤ → ℤ → Type 0
IsBetween a b z = ((a ≤ℤ z) × (z ≤ℤ b)) ⊎ ((b ≤ℤ z) × (z ≤ℤ a))

-- an end of a clipped segment is the old end, or a crossing whose limit is between the sides of
-- both ends
abbrev pub IsClippedEnd : Segment → ℤ → Mark → ClipVertex → ClipVertex → Type 0
IsClippedEnd s limit mark old new =
    (new ≡ old)
    ⊎ ((new ≡ crossing s.first s.second limit mark) × IsBetween s.first.side s.second.side limit)

-- so are both ends
pub record IsClipped (s clipped : Segment) (limit : ℤ) (mark : Mark) : Type 0 where
  pub first : IsClippedEnd s limit mark s.first clipped.first
  pub second : IsClippedEnd s limit mark s.second clipped.second

-- both coordinates are up to 2^53: no difference of two such numbers saturates
pub record IsInnerVertex (v : ClipVertex) : Type 0 where
  pub front : unsigned_abs v.front ≤ 9007199254740992
  pub side : unsigned_abs v.side ≤ 9007199254740992

-- a front coordinate at the limit is that of the line through both vertices, up to half a raw unit
-- and 2^-25 of the difference of their fronts: |front - f0| / |f1 - f0| and |limit - s0| / |s1 -
-- s0| are equal up to that
pub record IsNearLine (first second : ClipVertex) (limit front : ℤ) : Type 0 where
  pub near :
      let rise = unsigned_abs (second.front -ℤ first.front) in
      let run = unsigned_abs (second.side -ℤ first.side) in
      let front_part = unsigned_abs (front -ℤ first.front) in
      let side_part = unsigned_abs (limit -ℤ first.side) in
      2 ^ 25 * unsigned_abs (pos (front_part * run) -ℤ pos (rise * side_part))
      ≤ run * (2 ^ 24 + rise)

-- ---- features

-- the features of a box and a circle: a region outside the box, of which 132 would be the inside,
-- or a face from inside
pub record IsRegionFeature (feature : ℕ) : Type 0 where
  pub low : 128 ≤ feature
  pub high : feature < 144
  pub outside : feature ≢ 132
