-- No contact point of two bodies has a separation above 0.
use Rattle.std.proofs.Common.{◌≡◌, ℤ, pos, neg_ℤ, ◌≤ℤ◌, Bool, true, false, ◌&&◌, Some, None, refl, arith}
use Rattle.std.proofs.lemmas.Bool.{and_parts}
use Rattle.std.proofs.lemmas.Bool.Decides.{Decides-int_eq}
use Rattle.std.proofs.lemmas.Int.{ints, clamps}
use Rattle.std.specs.Ordering.{int_eq}
use Rattle.std.specs.Prelude.{All, int_lt, if◌then◌else◌}
use Rattle.pf_num.specs.Fx.{saturate, sum, difference}
use Rattle.pf_rot.specs.Vector.{V2, sub, length_of}
use Rattle.pf_shapes.specs.declared.fixture.Shape.{Shape}
use Rattle.pf_shapes.specs.declared.fixture.Shape.TheVariants.{Circle, Box}
use Rattle.pf_shapes.specs.Fixture.{HasSize}
use Rattle.pf_manifold.specs.declared.face.Face.{Face}
use Rattle.pf_manifold.specs.declared.face.Face.TheVariants.{Right, Top, Left, Bottom}
use Rattle.pf_manifold.specs.ContactPoint.{ContactPoint}
use Rattle.pf_manifold.specs.PlacedShape.{PlacedShape, OrientedBox, to_box}
use Rattle.pf_manifold.specs.Face.{front_extent}
use Rattle.pf_manifold.specs.Circles.{circle_contact, collide_circles, rim_point}
use Rattle.pf_manifold.specs.BoxCircle.{clamp, closest_point, outside_point, outside_contact, face_distance, closest_face, inside_point, contact_at, world_contact, collide_box_circle}
use Rattle.pf_manifold.specs.Reference.{Reference}
use Rattle.pf_manifold.specs.Incident.{ClipVertex}
use Rattle.pf_manifold.specs.Boxes.{vertex_point, vertex_contact, point_behind}
use Rattle.pf_manifold.specs.Collide.{box_at, mirror_image, collide, collide_shapes}
use Rattle.pf_manifold.specs.Laws.{IsTouching}
use Rattle.pf_shapes.specs.Laws.{IsInBox}
use Rattle.pf_manifold.proofs.Comparisons.{not_above}
use Rattle.pf_manifold.proofs.PointLists.{OfPoint, one_has, mapped_has, boxes_have}

difference-low : (x y : ℤ) → x ≤ℤ y → difference x y ≤ℤ pos 0
unfolding difference saturate
difference-low x y h = omega (arith, ints, clamps)

difference-high : (x y : ℤ) → y ≤ℤ x → pos 0 ≤ℤ difference x y
unfolding difference saturate
difference-high x y h = omega (arith, ints, clamps)

sum-high : (x y : ℤ) → neg_ℤ x ≤ℤ y → pos 0 ≤ℤ sum x y
unfolding sum saturate
sum-high x y h = omega (arith, ints, clamps)

-- there is a contact point where the distance isn't above the reach
kept_where_near : (reach distance : ℤ) (p : ContactPoint) → p.separation ≡ difference distance reach
    → OfPoint IsTouching (if int_lt reach distance then None else Some p)
kept_where_near reach distance p e = by (int_lt reach distance) refl
  where
    by : (t : Bool) → int_lt reach distance ≡ t → OfPoint IsTouching (if t then None else Some p)
    by true test = tt
    by false test = rw e (difference-low distance reach (not_above reach distance test))

circles_touch : (a b : V2) (ra rb : ℤ) → OfPoint IsTouching (collide_circles a ra b rb)
unfolding collide_circles circle_contact rim_point
circles_touch a b ra rb =
    kept_where_near (sum ra rb) (length_of (sub b a)) (rim_point a ra _ (difference (length_of (sub b a)) (sum ra rb))) refl

-- ---- boxes and circles

within_low : (h z : ℤ) → pos 0 ≤ℤ h → z ≡ clamp h z → neg_ℤ h ≤ℤ z
unfolding clamp
within_low h z some e = omega (arith, ints, clamps)

within_high : (h z : ℤ) → pos 0 ≤ℤ h → z ≡ clamp h z → z ≤ℤ h
unfolding clamp
within_high h z some e = omega (arith, ints, clamps)

-- from inside, the distance to each face is at least 0
inside_distance : (half d : V2) (face : Face) → IsInBox half d → pos 0 ≤ℤ face_distance half d face
unfolding face_distance
inside_distance half d Right h = difference-high half.x d.x h.right
inside_distance half d Top h = difference-high half.y d.y h.above
inside_distance half d Left h = sum-high half.x d.x h.left
inside_distance half d Bottom h = sum-high half.y d.y h.below

inside_touches : (half d : V2) (r : ℤ) (face : Face) → pos 0 ≤ℤ r → IsInBox half d → IsTouching (inside_point half r d face)
unfolding inside_point
inside_touches half d r face some h =
    let far = inside_distance half d face h in
    difference-low (neg_ℤ (face_distance half d face)) r (omega (arith, ints, far))

outside_touches : (half d closest e : V2) (r : ℤ) → OfPoint IsTouching (outside_contact half r d closest e)
unfolding outside_contact outside_point
outside_touches half d closest e r = kept_where_near r (length_of e) (outside_point half r d closest e) refl

is_inside : (half d : V2) → pos 0 ≤ℤ half.x → pos 0 ≤ℤ half.y
    → (int_eq d.x (clamp half.x d.x) && int_eq d.y (clamp half.y d.y)) ≡ true → IsInBox half d
is_inside half d sx sy test =
    let both = and_parts (int_eq d.x (clamp half.x d.x)) (int_eq d.y (clamp half.y d.y)) test in
    let ex : d.x ≡ clamp half.x d.x = (Decides-int_eq d.x (clamp half.x d.x)).0 both.0 in
    let ey : d.y ≡ clamp half.y d.y = (Decides-int_eq d.y (clamp half.y d.y)).0 both.1 in
    record {
      left = within_low half.x d.x sx ex;
      right = within_high half.x d.x sx ex;
      below = within_low half.y d.y sy ey;
      above = within_high half.y d.y sy ey;
    }

contact_touches : (half d : V2) (r : ℤ) → pos 0 ≤ℤ half.x → pos 0 ≤ℤ half.y → pos 0 ≤ℤ r
    → OfPoint IsTouching (contact_at half r d (closest_point half d))
unfolding contact_at closest_point
contact_touches half d r sx sy sr = by (int_eq d.x (clamp half.x d.x) && int_eq d.y (clamp half.y d.y)) refl
  where
    by : (t : Bool) → (int_eq d.x (clamp half.x d.x) && int_eq d.y (clamp half.y d.y)) ≡ t
        → OfPoint IsTouching (if t then Some (inside_point half r d (closest_face half d)) else outside_contact half r d (closest_point half d) (sub d (closest_point half d)))
    by true e = inside_touches half d r (closest_face half d) sr (is_inside half d sx sy e)
    by false e = outside_touches half d (closest_point half d) (sub d (closest_point half d)) r

box_and_circle_touch : (b : OrientedBox) (centre : V2) (r : ℤ) → pos 0 ≤ℤ b.half.x → pos 0 ≤ℤ b.half.y → pos 0 ≤ℤ r
    → OfPoint IsTouching (collide_box_circle b centre r)
unfolding collide_box_circle world_contact
box_and_circle_touch b centre r sx sy sr =
    mapped_has IsTouching (world_contact b) (λ p h. h) _ (contact_touches b.half (to_box b centre) r sx sy sr)

-- ---- boxes

behind_touches : (r : Reference) (edge : Face) (v : ClipVertex) (separation : ℤ) → OfPoint IsTouching (point_behind r edge v separation)
unfolding vertex_point
behind_touches r edge v separation = by (int_lt (pos 0) separation) refl
  where
    by : (t : Bool) → int_lt (pos 0) separation ≡ t → OfPoint IsTouching (if t then None else Some (vertex_point r edge v separation))
    by true e = tt
    by false e = not_above (pos 0) separation e

vertex_touches : (r : Reference) (edge : Face) (v : ClipVertex) → OfPoint IsTouching (vertex_contact r edge v)
unfolding vertex_contact
vertex_touches r edge v = behind_touches r edge v (difference v.front (front_extent r.face r.box.half))

-- ---- bodies

shapes_touch : (s t : Shape) (a b : PlacedShape) → HasSize s → HasSize t → All IsTouching (collide_shapes s t a b)
unfolding collide_shapes box_at mirror_image
shapes_touch (Circle ra) (Circle rb) a b hs ht = one_has IsTouching _ (circles_touch a.position b.position ra rb)
shapes_touch (Circle r) (Box hx hy) a b hs ht =
    one_has IsTouching _ (mapped_has IsTouching mirror_image (λ p h. h) _
    (box_and_circle_touch (box_at hx hy b) a.position r (omega (arith, ints)) (omega (arith, ints)) (omega (arith, ints))))
shapes_touch (Box hx hy) (Circle r) a b hs ht =
    one_has IsTouching _ (box_and_circle_touch (box_at hx hy a) b.position r (omega (arith, ints)) (omega (arith, ints)) (omega (arith, ints)))
shapes_touch (Box hx hy) (Box kx ky) a b hs ht = boxes_have IsTouching vertex_touches _ _

pub points_touch : (a b : PlacedShape) → HasSize a.shape → HasSize b.shape → All IsTouching (collide a b)
unfolding collide
points_touch a b ha hb = shapes_touch a.shape b.shape a b ha hb
