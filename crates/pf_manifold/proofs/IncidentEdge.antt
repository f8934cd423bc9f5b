-- The incident edge faces the reference face most, and the inward normal is the reference normal in
-- its box's axes.
use Rattle.std.proofs.Common.{◌≡◌, ℤ, pos, neg_ℤ, ◌≤ℤ◌, ◌≤◌, ◌<◌, Bool, true, false, refl, ◌∙◌, arith}
use Rattle.std.proofs.lemmas.Int.{ints}
use Rattle.std.specs.Int.RustNames.{unsigned_abs}
use Rattle.std.specs.Prelude.{int_lt, if◌then◌else◌, ◌<ℤ◌}
use Rattle.pf_num.specs.Fx.{one, IsRaw, difference, product}
use Rattle.pf_num.proofs.Operations.{product_comm, product-zero, product-one, product-neg, sum-zero, zero-sum, difference-zero, difference-swap}
use Rattle.pf_rot.specs.Vector.{V2, neg}
use Rattle.pf_rot.specs.Rotation.{Rot, unrotate}
use Rattle.pf_manifold.specs.declared.face.Face.{Face}
use Rattle.pf_manifold.specs.declared.face.Face.TheVariants.{Right, Top, Left, Bottom}
use Rattle.pf_manifold.specs.Face.{front_part, outward_normal}
use Rattle.pf_manifold.specs.Reference.{Reference}
use Rattle.pf_manifold.specs.Incident.{inward_normal, edge_along, incident_edge}
use Rattle.pf_manifold.proofs.Comparisons.{is_below, not_above}

-- ---- the edge

-- no face has a greater part of n along its outward normal
abbrev IsMost : V2 → Face → Type 0
IsMost n edge = (face : Face) → front_part face n ≤ℤ front_part edge n

right_most : (n : V2) → unsigned_abs n.y < unsigned_abs n.x → pos 0 <ℤ n.x → IsMost n Right
right_most n wide above Right = omega (arith, ints)
right_most n wide above Top = omega (arith, ints)
right_most n wide above Left = omega (arith, ints)
right_most n wide above Bottom = omega (arith, ints)

left_most : (n : V2) → unsigned_abs n.y < unsigned_abs n.x → n.x ≤ℤ pos 0 → IsMost n Left
left_most n wide below Right = omega (arith, ints)
left_most n wide below Top = omega (arith, ints)
left_most n wide below Left = omega (arith, ints)
left_most n wide below Bottom = omega (arith, ints)

top_most : (n : V2) → unsigned_abs n.x ≤ unsigned_abs n.y → pos 0 <ℤ n.y → IsMost n Top
top_most n high above Right = omega (arith, ints)
top_most n high above Top = omega (arith, ints)
top_most n high above Left = omega (arith, ints)
top_most n high above Bottom = omega (arith, ints)

bottom_most : (n : V2) → unsigned_abs n.x ≤ unsigned_abs n.y → n.y ≤ℤ pos 0 → IsMost n Bottom
bottom_most n high below Right = omega (arith, ints)
bottom_most n high below Top = omega (arith, ints)
bottom_most n high below Left = omega (arith, ints)
bottom_most n high below Bottom = omega (arith, ints)

edge_along_most : (n : V2) → IsMost n (edge_along n)
unfolding edge_along
edge_along_most n =
    by (int_lt (pos (unsigned_abs n.y)) (pos (unsigned_abs n.x))) refl (int_lt (pos 0) n.x) refl (int_lt (pos 0) n.y) refl
  where
    by : (t : Bool) → int_lt (pos (unsigned_abs n.y)) (pos (unsigned_abs n.x)) ≡ t → (u : Bool) → int_lt (pos 0) n.x ≡ u
        → (v : Bool) → int_lt (pos 0) n.y ≡ v
        → IsMost n (if t then (if u then Right else Left) else (if v then Top else Bottom))
    by true e true f v g =
        let wide = is_below (pos (unsigned_abs n.y)) (pos (unsigned_abs n.x)) e in right_most n (omega (arith, ints, wide)) (is_below _ _ f)
    by true e false f v g =
        let wide = is_below (pos (unsigned_abs n.y)) (pos (unsigned_abs n.x)) e in left_most n (omega (arith, ints, wide)) (not_above _ _ f)
    by false e u f true g =
        let high = not_above (pos (unsigned_abs n.y)) (pos (unsigned_abs n.x)) e in top_most n (omega (arith, ints, high)) (is_below _ _ g)
    by false e u f false g =
        let high = not_above (pos (unsigned_abs n.y)) (pos (unsigned_abs n.x)) e in bottom_most n (omega (arith, ints, high)) (not_above _ _ g)

pub incident_edge_most : (r : Reference) (face : Face)
    → front_part face (inward_normal r.face r.relative) ≤ℤ front_part (incident_edge r) (inward_normal r.face r.relative)
unfolding incident_edge
incident_edge_most r face = edge_along_most (inward_normal r.face r.relative) face

-- ---- the normal

times_zero : (z : ℤ) → product z (pos 0) ≡ pos 0
times_zero z = product_comm z (pos 0) ∙ product-zero z

times_one : (z : ℤ) → IsRaw z → product z one ≡ z
times_one z h = product_comm z one ∙ product-one z h

times_minus_one : (z : ℤ) → IsRaw z → product z (neg_ℤ one) ≡ neg_ℤ z
times_minus_one z h = product-neg z one ∙ rw (times_one z h) refl

raw_neg : (z : ℤ) → IsRaw z → IsRaw (neg_ℤ z)
raw_neg z h = omega (arith, ints)

zero-difference : (z : ℤ) → IsRaw z → difference (pos 0) z ≡ neg_ℤ z
zero-difference z h = difference-swap (pos 0) z ∙ rw (difference-zero z h) refl

neg-neg : (z : ℤ) → neg_ℤ (neg_ℤ z) ≡ z
neg-neg z = omega (arith, ints)

pub inward_normal_unrotate : (face : Face) (q : Rot) → IsRaw q.c → IsRaw q.s
    → inward_normal face q ≡ unrotate q (neg (outward_normal face))
unfolding inward_normal unrotate neg
inward_normal_unrotate Right q raw_c raw_s =
    rw (
      times_minus_one q.c raw_c,
      times_zero q.s,
      times_zero q.c,
      times_minus_one q.s raw_s,
      sum-zero (neg_ℤ q.c) (raw_neg q.c raw_c),
      zero-difference (neg_ℤ q.s) (raw_neg q.s raw_s),
      neg-neg q.s,
    ) refl
inward_normal_unrotate Top q raw_c raw_s =
    rw (
      times_zero q.c,
      times_minus_one q.s raw_s,
      times_minus_one q.c raw_c,
      times_zero q.s,
      zero-sum (neg_ℤ q.s) (raw_neg q.s raw_s),
      difference-zero (neg_ℤ q.c) (raw_neg q.c raw_c),
    ) refl
inward_normal_unrotate Left q raw_c raw_s =
    rw (
      times_one q.c raw_c,
      times_zero q.s,
      times_zero q.c,
      times_one q.s raw_s,
      sum-zero q.c raw_c,
      zero-difference q.s raw_s,
    ) refl
inward_normal_unrotate Bottom q raw_c raw_s =
    rw (
      times_zero q.c,
      times_one q.s raw_s,
      times_one q.c raw_c,
      times_zero q.s,
      zero-sum q.s raw_s,
      difference-zero q.c raw_c,
    ) refl
