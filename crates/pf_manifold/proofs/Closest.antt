-- The point of a box closest to a position, and the face closest to it.
use Rattle.std.proofs.Common.{◌≡◌, ℕ, ◌≤◌, ℤ, pos, neg_ℤ, ◌-ℤ◌, ◌≤ℤ◌, Bool, true, false, refl, arith}
use Rattle.std.proofs.lemmas.Int.{ints, clamps}
use Rattle.std.proofs.Math.Nat.{mul-le-mul}
use Rattle.std.specs.Int.RustNames.{unsigned_abs}
use Rattle.std.specs.Int.Signed.{≤ℤ_refl}
use Rattle.std.specs.Prelude.{int_lt, if◌then◌else◌}
use Rattle.pf_rot.specs.Vector.{V2}
use Rattle.pf_manifold.specs.declared.face.Face.{Face}
use Rattle.pf_manifold.specs.declared.face.Face.TheVariants.{Right, Top, Left, Bottom}
use Rattle.pf_manifold.specs.Face.{face_number}
use Rattle.pf_manifold.specs.BoxCircle.{clamp, closest_point, face_distance, closer_face, closest_face}
use Rattle.pf_shapes.specs.Laws.{IsInBox, square}
use Rattle.pf_manifold.specs.GeometryLaws.{IsClosest}
use Rattle.pf_manifold.proofs.Mirrors.{vector_by_parts}
use Rattle.pf_manifold.proofs.Comparisons.{is_below, not_above}

-- ---- the closest point

clamp-low : (h z : ℤ) → pos 0 ≤ℤ h → neg_ℤ h ≤ℤ clamp h z
unfolding clamp
clamp-low h z some = omega (arith, ints, clamps)

clamp-high : (h z : ℤ) → pos 0 ≤ℤ h → clamp h z ≤ℤ h
unfolding clamp
clamp-high h z some = omega (arith, ints, clamps)

clamp-within : (h z : ℤ) → neg_ℤ h ≤ℤ z → z ≤ℤ h → clamp h z ≡ z
unfolding clamp
clamp-within h z low high = omega (arith, ints, clamps)

-- no number from -h to h is closer
clamp-closest : (h z w : ℤ) → neg_ℤ h ≤ℤ w → w ≤ℤ h → unsigned_abs (z -ℤ clamp h z) ≤ unsigned_abs (z -ℤ w)
unfolding clamp
clamp-closest h z w low high = omega (arith, ints, clamps)

pub squared_le : (m n : ℕ) → m ≤ n → square m ≤ square n
squared_le m n h = mul-le-mul h h

pub point_is_closest : (half d : V2) → pos 0 ≤ℤ half.x → pos 0 ≤ℤ half.y → IsClosest half d (closest_point half d)
unfolding closest_point
point_is_closest half d sx sy = record {
  inside = record {
    left = clamp-low half.x d.x sx;
    right = clamp-high half.x d.x sx;
    below = clamp-low half.y d.y sy;
    above = clamp-high half.y d.y sy;
  };
  closest = λ q inside.
      let along_x = squared_le _ _ (clamp-closest half.x d.x q.x inside.left inside.right) in
      let along_y = squared_le _ _ (clamp-closest half.y d.y q.y inside.below inside.above) in
      omega (arith, along_x, along_y);
}

pub itself_is_closest : (half d : V2) → IsInBox half d → closest_point half d ≡ d
unfolding closest_point
itself_is_closest half d inside =
    vector_by_parts _ _ (clamp-within half.x d.x inside.left inside.right) (clamp-within half.y d.y inside.below inside.above)

-- ---- the closest face

-- the closer of two faces is no farther than either, and it is the second only where that is closer
record IsCloser (half d : V2) (best face closer : Face) : Type 0 where
  as_first : face_distance half d closer ≤ℤ face_distance half d best
  as_second : face_distance half d closer ≤ℤ face_distance half d face
  tie : face_distance half d best ≤ℤ face_distance half d closer → closer ≡ best
  one_of : (n : ℕ) → face_number best ≤ n → face_number face ≤ n → face_number closer ≤ n

closer_is : (half d : V2) (best face : Face) → IsCloser half d best face (closer_face half d best face)
unfolding closer_face
closer_is half d best face = by (int_lt (face_distance half d face) (face_distance half d best)) refl
  where
    by : (t : Bool) → int_lt (face_distance half d face) (face_distance half d best) ≡ t → IsCloser half d best face (if t then face else best)
    by true e =
        let less = is_below (face_distance half d face) (face_distance half d best) e in
        record {
          as_first = omega (arith, ints, less);
          as_second = ≤ℤ_refl _;
          tie = λ h. absurd (omega (arith, ints, less));
          one_of = λ n first second. second;
        }
    by false e = record {
      as_first = ≤ℤ_refl _;
      as_second = not_above _ _ e;
      tie = λ h. refl;
      one_of = λ n first second. first;
    }

-- the closest of the first two faces, and of the first three
abbrev of_two : V2 → V2 → Face
of_two half d = closer_face half d Right Top

abbrev of_three : V2 → V2 → Face
of_three half d = closer_face half d (of_two half d) Left

-- what the three comparisons give
record AreChoices (half d : V2) : Type 0 where
  first : IsCloser half d Right Top (of_two half d)
  second : IsCloser half d (of_two half d) Left (of_three half d)
  third : IsCloser half d (of_three half d) Bottom (closest_face half d)

choices : (half d : V2) → AreChoices half d
unfolding closest_face
choices half d = record {
  first = closer_is half d Right Top;
  second = closer_is half d (of_two half d) Left;
  third = closer_is half d (of_three half d) Bottom;
}

pub face_is_closest : (half d : V2) (face : Face) → face_distance half d (closest_face half d) ≤ℤ face_distance half d face
face_is_closest half d Right = let c = choices half d in omega (arith, ints, c.first.as_first, c.second.as_first, c.third.as_first)
face_is_closest half d Top = let c = choices half d in omega (arith, ints, c.first.as_second, c.second.as_first, c.third.as_first)
face_is_closest half d Left = let c = choices half d in omega (arith, ints, c.second.as_second, c.third.as_first)
face_is_closest half d Bottom = let c = choices half d in c.third.as_second

pub face_is_earliest : (half d : V2) (face : Face) → face_distance half d face ≡ face_distance half d (closest_face half d)
    → face_number (closest_face half d) ≤ face_number face
face_is_earliest half d Right e =
    let c = choices half d in
    let e₁ = c.first.tie (omega (arith, ints, e, c.second.as_first, c.third.as_first)) in
    let e₂ = c.second.tie (omega (arith, ints, e, c.first.as_first, c.third.as_first)) in
    let e₃ = c.third.tie (omega (arith, ints, e, c.first.as_first, c.second.as_first)) in
    rw (e₃, e₂, e₁) (omega arith)
face_is_earliest half d Top e =
    let c = choices half d in
    let e₂ = c.second.tie (omega (arith, ints, e, c.first.as_second, c.third.as_first)) in
    let e₃ = c.third.tie (omega (arith, ints, e, c.first.as_second, c.second.as_first)) in
    rw (e₃, e₂) (c.first.one_of 1 (omega arith) (omega arith))
face_is_earliest half d Left e =
    let c = choices half d in
    let e₃ = c.third.tie (omega (arith, ints, e, c.second.as_second)) in
    rw e₃ (c.second.one_of 2 (c.first.one_of 2 (omega arith) (omega arith)) (omega arith))
face_is_earliest half d Bottom e =
    let c = choices half d in
    c.third.one_of 3 (c.second.one_of 3 (c.first.one_of 3 (omega arith) (omega arith)) (omega arith)) (omega arith)
