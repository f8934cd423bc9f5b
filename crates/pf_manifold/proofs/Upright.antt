-- Upright boxes: the offset is the same in all axes, so an axis separates the boxes exactly where the
-- distance of the centres along it is above the sum of the half extents.
use Rattle.std.proofs.Common.{◌≡◌, ◌+◌, ◌≤◌, ◌↔◌, ℤ, pos, ◌-ℤ◌, ◌≤ℤ◌, Bool, false, ◌||◌, refl, arith}
use Rattle.std.proofs.lemmas.Bool.{or_parts}
use Rattle.std.proofs.lemmas.Int.{ints, clamps}
use Rattle.std.specs.Int.RustNames.{unsigned_abs}
use Rattle.std.specs.Prelude.{int_lt}
use Rattle.pf_num.specs.Round.{nearest, near}
use Rattle.pf_num.specs.Fx.{saturate, sum, difference, product, IsRaw}
use Rattle.pf_num.proofs.Operations.{product-one, product-zero, sum-zero, zero-sum, difference-zero}
use Rattle.pf_num.proofs.Range.{difference-raw}
use Rattle.pf_rot.specs.Vector.{V2, sub}
use Rattle.pf_rot.specs.Rotation.{upright, unrotate}
use Rattle.pf_shapes.specs.declared.fixture.Shape.TheVariants.{Box}
use Rattle.pf_shapes.specs.Fixture.{IsSize, HasSize}
use Rattle.pf_shapes.specs.Reach.{reach}
use Rattle.pf_manifold.specs.PlacedShape.{OrientedBox}
use Rattle.pf_manifold.specs.Separation.{Frames, relative_rotation, frames_at_offset, frames_of, magnitudes, reaches, face_separations, separations_of, has_gap}
use Rattle.pf_manifold.specs.GeometryLaws.{boxes_have_gap, UprightBoxesOverlap}
use Rattle.pf_manifold.proofs.Comparisons.{not_above, tests_above}

-- ---- frames

unrotated-upright : (v : V2) → IsRaw v.x → IsRaw v.y → unrotate upright v ≡ v
unfolding unrotate
unrotated-upright v hx hy =
    rw (product-one v.x hx, product-one v.y hy, product-zero v.x, product-zero v.y, sum-zero v.x hx, difference-zero v.y hy) refl

relative-upright : relative_rotation upright upright ≡ upright
unfolding relative_rotation sum difference product near nearest saturate
relative-upright = refl

-- the frames of upright boxes
abbrev upright_frames : V2 → Frames
upright_frames offset = record { in_a = offset; in_b = offset; relative = upright }

frames-upright : (a b : OrientedBox) → a.rotation ≡ upright → b.rotation ≡ upright → frames_of a b ≡ upright_frames (sub b.position a.position)
unfolding frames_of frames_at_offset sub
frames-upright a b ea eb =
    let e = unrotated-upright (sub b.position a.position) (difference-raw b.position.x a.position.x) (difference-raw b.position.y a.position.y) in
    rw (ea, eb, e, relative-upright) refl

reaches-upright : (half : V2) → IsRaw half.x → IsRaw half.y → reaches upright half ≡ half
unfolding reaches reach
reaches-upright half hx hy =
    rw (product-one half.x hx, product-one half.y hy, product-zero half.x, product-zero half.y, sum-zero half.x hx, zero-sum half.y hy) refl

-- ---- separations

-- the separation along an axis of boxes of the half extents h and k whose centres differ by d
abbrev apart_along : ℤ → ℤ → ℤ → ℤ
apart_along h k d = difference (difference (pos (unsigned_abs d)) h) k

separations-upright : (half offset other : V2) → IsRaw other.x → IsRaw other.y
    → face_separations half offset upright other
    ≡ record { x = apart_along half.x other.x offset.x; y = apart_along half.y other.y offset.y }
unfolding face_separations magnitudes sub
separations-upright half offset other hx hy = rw (reaches-upright other hx hy) refl

near_enough : (h k x y : ℤ) → IsSize h → IsSize k
    → apart_along h k (difference y x) ≤ℤ pos 0 → unsigned_abs (y -ℤ x) ≤ unsigned_abs h + unsigned_abs k
unfolding difference saturate
near_enough h k x y hh hk low = omega (arith, ints, clamps)

no_gap : (h k x y : ℤ) → IsSize h → IsSize k
    → unsigned_abs (y -ℤ x) ≤ unsigned_abs h + unsigned_abs k → apart_along h k (difference y x) ≤ℤ pos 0
unfolding difference saturate
no_gap h k x y hh hk low = omega (arith, ints, clamps)

-- ---- two boxes

first_two : (p q r s : Bool) → (p || q || r || s) ≡ false → (p ≡ false) × (q ≡ false)
first_two p q r s e = or_parts p q (or_parts (p || q) r (or_parts (p || q || r) s e).0).0

none_of : (p q r s : Bool) → p ≡ false → q ≡ false → r ≡ false → s ≡ false → (p || q || r || s) ≡ false
none_of p q r s ep eq er es = rw (ep, eq, er, es) refl

size_is_raw : (h : ℤ) → IsSize h → IsRaw h
size_is_raw h size = omega (arith, ints)

-- the four tests for a separating axis
abbrev tests_of : OrientedBox → OrientedBox → V2 → Bool
tests_of a b d =
    int_lt (pos 0) (apart_along a.half.x b.half.x d.x) || int_lt (pos 0) (apart_along a.half.y b.half.y d.y)
    || int_lt (pos 0) (apart_along b.half.x a.half.x d.x) || int_lt (pos 0) (apart_along b.half.y a.half.y d.y)

gap-upright : (a b : OrientedBox) → a.rotation ≡ upright → b.rotation ≡ upright → HasSize (Box a.half.x a.half.y) → HasSize (Box b.half.x b.half.y)
    → boxes_have_gap a b ≡ tests_of a b (sub b.position a.position)
unfolding has_gap separations_of
gap-upright a b ea eb ha hb =
    rw (
      frames-upright a b ea eb,
      separations-upright a.half (sub b.position a.position) b.half (size_is_raw b.half.x hb.0) (size_is_raw b.half.y hb.1),
      separations-upright b.half (sub b.position a.position) a.half (size_is_raw a.half.x ha.0) (size_is_raw a.half.y ha.1),
    ) refl

gap_tests : (a b : OrientedBox) → HasSize (Box a.half.x a.half.y) → HasSize (Box b.half.x b.half.y)
    → (tests_of a b (sub b.position a.position) ≡ false) ↔ UprightBoxesOverlap a b
unfolding sub
gap_tests a b ha hb =
    let dx = difference b.position.x a.position.x in
    let dy = difference b.position.y a.position.y in (
      λ e.
          let tests = first_two (int_lt (pos 0) (apart_along a.half.x b.half.x dx)) (int_lt (pos 0) (apart_along a.half.y b.half.y dy)) _ _ e in
          record {
            x = near_enough a.half.x b.half.x a.position.x b.position.x ha.0 hb.0 (not_above (pos 0) (apart_along a.half.x b.half.x dx) tests.0);
            y = near_enough a.half.y b.half.y a.position.y b.position.y ha.1 hb.1 (not_above (pos 0) (apart_along a.half.y b.half.y dy) tests.1);
          },
      λ h.
          let x_back : unsigned_abs (b.position.x -ℤ a.position.x) ≤ unsigned_abs b.half.x + unsigned_abs a.half.x = omega (arith, h.x) in
          let y_back : unsigned_abs (b.position.y -ℤ a.position.y) ≤ unsigned_abs b.half.y + unsigned_abs a.half.y = omega (arith, h.y) in
          none_of _ _ _ _
          (tests_above (pos 0) (apart_along a.half.x b.half.x dx) (no_gap a.half.x b.half.x a.position.x b.position.x ha.0 hb.0 h.x))
          (tests_above (pos 0) (apart_along a.half.y b.half.y dy) (no_gap a.half.y b.half.y a.position.y b.position.y ha.1 hb.1 h.y))
          (tests_above (pos 0) (apart_along b.half.x a.half.x dx) (no_gap b.half.x a.half.x a.position.x b.position.x hb.0 ha.0 x_back))
          (tests_above (pos 0) (apart_along b.half.y a.half.y dy) (no_gap b.half.y a.half.y a.position.y b.position.y hb.1 ha.1 y_back)),
    )

pub upright_boxes_meet : (a b : OrientedBox) → a.rotation ≡ upright → b.rotation ≡ upright → HasSize (Box a.half.x a.half.y)
    → HasSize (Box b.half.x b.half.y) → (boxes_have_gap a b ≡ false) ↔ UprightBoxesOverlap a b
upright_boxes_meet a b ea eb ha hb = rw (gap-upright a b ea eb ha hb) (gap_tests a b ha hb)
