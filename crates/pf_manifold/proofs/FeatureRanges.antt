-- The features of contact points by the shapes of the bodies.
use Rattle.std.proofs.Common.{◌≡◌, ◌+◌, ◌<◌, ℤ, neg_ℤ, ◌≤ℤ◌, Bool, true, false, ◌&&◌, Some, refl, arith}
use Rattle.std.proofs.lemmas.Bool.Decides.{Decides-int_eq}
use Rattle.std.proofs.lemmas.Int.{ints, clamps}
use Rattle.std.specs.Ordering.{int_eq}
use Rattle.std.specs.Prelude.{All, int_lt, if◌then◌else◌}
use Rattle.pf_rot.specs.Vector.{V2, sub, length_of}
use Rattle.pf_shapes.specs.declared.fixture.Shape.TheVariants.{Circle, Box}
use Rattle.pf_manifold.specs.declared.face.Face.{Face}
use Rattle.pf_manifold.specs.declared.face.Face.TheVariants.{Right, Top, Left, Bottom}
use Rattle.pf_manifold.specs.declared.incident.Mark.{Mark}
use Rattle.pf_manifold.specs.declared.incident.Mark.TheVariants.{First, Second, CutLow, CutHigh}
use Rattle.pf_manifold.specs.declared.reference.Owner.{Owner}
use Rattle.pf_manifold.specs.declared.reference.Owner.TheVariants.{BoxA, BoxB}
use Rattle.pf_manifold.specs.declared.box_circle.Region.{Region}
use Rattle.pf_manifold.specs.declared.box_circle.Region.TheVariants.{Below, Within, Above}
use Rattle.pf_manifold.specs.ContactPoint.{ContactPoint}
use Rattle.pf_manifold.specs.PlacedShape.{PlacedShape, OrientedBox, to_box}
use Rattle.pf_manifold.specs.Face.{face_number}
use Rattle.pf_manifold.specs.Circles.{rim_point, circle_contact, collide_circles}
use Rattle.pf_manifold.specs.BoxCircle.{clamp, closest_point, region_of, region_number, region_feature, outside_point, outside_contact, closest_face, inside_point, contact_at, world_contact, collide_box_circle}
use Rattle.pf_manifold.specs.Reference.{Reference}
use Rattle.pf_manifold.specs.Incident.{ClipVertex, mark_number}
use Rattle.pf_manifold.specs.Boxes.{first_face_number, vertex_feature, vertex_point, vertex_contact}
use Rattle.pf_manifold.specs.Collide.{box_at, mirror_image, collide, collide_shapes}
use Rattle.pf_manifold.specs.GeometryLaws.{IsRegionFeature}
use Rattle.pf_manifold.proofs.Comparisons.{not_above}
use Rattle.pf_manifold.proofs.PointLists.{OfPoint, one_has, unless_has, mapped_has, boxes_have}

-- ---- circles

circles_feature : (a b : V2) (ra rb : ℤ) → OfPoint (λ p. p.feature ≡ 0) (collide_circles a ra b rb)
unfolding collide_circles circle_contact rim_point
circles_feature a b ra rb = unless_has (λ p. p.feature ≡ 0) _ (rim_point a ra _ _) refl

pub circles_features : (a b : PlacedShape) (ra rb : ℤ) → a.shape ≡ Circle ra → b.shape ≡ Circle rb
    → All (λ p. p.feature ≡ 0) (collide a b)
unfolding collide collide_shapes
circles_features a b ra rb ea eb =
    rw (ea, eb) (one_has (λ p. p.feature ≡ 0) _ (circles_feature a.position b.position ra rb))

-- ---- a box and a circle

region_small : (r : Region) → region_number r < 3
region_small Below = omega arith
region_small Within = omega arith
region_small Above = omega arith

face_small : (f : Face) → face_number f < 4
face_small Right = omega arith
face_small Top = omega arith
face_small Left = omega arith
face_small Bottom = omega arith

clamp-within : (h z : ℤ) → neg_ℤ h ≤ℤ z → z ≤ℤ h → z ≡ clamp h z
unfolding clamp
clamp-within h z low high = omega (arith, ints, clamps)

region_within : (h z : ℤ) → region_number (region_of h z) ≡ 1 → z ≡ clamp h z
unfolding region_of
region_within h z = by (int_lt z (neg_ℤ h)) refl (int_lt h z) refl
  where
    by : (t : Bool) → int_lt z (neg_ℤ h) ≡ t → (u : Bool) → int_lt h z ≡ u
        → region_number (if t then Below else (if u then Above else Within)) ≡ 1 → z ≡ clamp h z
    by true e u f one = absurd (omega arith)
    by false e true f one = absurd (omega arith)
    by false e false f one = clamp-within h z (not_above _ _ e) (not_above _ _ f)

both_true : (p q : Bool) → (p && q) ≡ false → p ≡ true → q ≡ true → ⊥
both_true p q e hp hq = let both : (p && q) ≡ true = rw (hp, hq) refl in absurd (cc)

outside_feature : (half d : V2) → (int_eq d.x (clamp half.x d.x) && int_eq d.y (clamp half.y d.y)) ≡ false
    → IsRegionFeature (region_feature half d)
unfolding region_feature
outside_feature half d out =
    let x = region_number (region_of half.x d.x) in
    let y = region_number (region_of half.y d.y) in
    let few_x = region_small (region_of half.x d.x) in
    let few_y = region_small (region_of half.y d.y) in
    record {
      low = omega arith;
      high = omega arith;
      outside = λ e.
          let at_x : x ≡ 1 = omega arith in
          let at_y : y ≡ 1 = omega arith in
          both_true (int_eq d.x (clamp half.x d.x)) (int_eq d.y (clamp half.y d.y)) out
          ((Decides-int_eq d.x (clamp half.x d.x)).1 (region_within half.x d.x at_x))
          ((Decides-int_eq d.y (clamp half.y d.y)).1 (region_within half.y d.y at_y));
    }

inside_feature : (face : Face) → IsRegionFeature (140 + face_number face)
inside_feature face = let few = face_small face in record { low = omega arith; high = omega arith; outside = λ e. omega arith }

abbrev HasRegion : ContactPoint → Type 0
HasRegion p = IsRegionFeature p.feature

contact_feature : (half d : V2) (r : ℤ) → OfPoint HasRegion (contact_at half r d (closest_point half d))
unfolding contact_at closest_point inside_point outside_contact outside_point
contact_feature half d r = by (int_eq d.x (clamp half.x d.x) && int_eq d.y (clamp half.y d.y)) refl
  where
    by : (t : Bool) → (int_eq d.x (clamp half.x d.x) && int_eq d.y (clamp half.y d.y)) ≡ t
        → OfPoint HasRegion (if t then Some (inside_point half r d (closest_face half d)) else outside_contact half r d (closest_point half d) (sub d (closest_point half d)))
    by true e = inside_feature (closest_face half d)
    by false e =
        unless_has HasRegion (int_lt r (length_of (sub d (closest_point half d))))
        (outside_point half r d (closest_point half d) (sub d (closest_point half d))) (outside_feature half d e)

box_circle_feature : (b : OrientedBox) (centre : V2) (r : ℤ) → OfPoint HasRegion (collide_box_circle b centre r)
unfolding collide_box_circle world_contact
box_circle_feature b centre r =
    mapped_has HasRegion (world_contact b) (λ p h. h) _ (contact_feature b.half (to_box b centre) r)

pub box_and_circle_features : (a b : PlacedShape) (hx hy r : ℤ) → a.shape ≡ Box hx hy → b.shape ≡ Circle r
    → All HasRegion (collide a b) × All HasRegion (collide b a)
unfolding collide collide_shapes box_at mirror_image
box_and_circle_features a b hx hy r ea eb =
    rw (ea, eb) (
      one_has HasRegion _ (box_circle_feature (box_at hx hy a) b.position r),
      one_has HasRegion _ (mapped_has HasRegion mirror_image (λ p h. h) _ (box_circle_feature (box_at hx hy a) b.position r)),
    )

-- ---- boxes

abbrev IsSmall : ContactPoint → Type 0
IsSmall p = p.feature < 128

mark_small : (mark : Mark) → mark_number mark < 4
mark_small First = omega arith
mark_small Second = omega arith
mark_small CutLow = omega arith
mark_small CutHigh = omega arith

owner_small : (owner : Owner) → first_face_number owner < 5
owner_small BoxA = omega arith
owner_small BoxB = omega arith

vertex_feature_small : (r : Reference) (edge : Face) (mark : Mark) → vertex_feature r edge mark < 128
unfolding vertex_feature
vertex_feature_small r edge mark =
    let owner = owner_small r.owner in
    let face = face_small r.face in
    let side = face_small edge in
    let last = mark_small mark in
    omega arith

vertex_small : (r : Reference) (edge : Face) (v : ClipVertex) → OfPoint IsSmall (vertex_contact r edge v)
unfolding vertex_contact vertex_point
vertex_small r edge v = unless_has IsSmall _ (vertex_point r edge v _) (vertex_feature_small r edge v.mark)

pub boxes_features : (a b : PlacedShape) (hx hy kx ky : ℤ) → a.shape ≡ Box hx hy → b.shape ≡ Box kx ky
    → All IsSmall (collide a b)
unfolding collide collide_shapes box_at
boxes_features a b hx hy kx ky ea eb = rw (ea, eb) (boxes_have IsSmall vertex_small (box_at hx hy a) (box_at kx ky b))
