-- Two boxes exchanged: the offsets and the relative rotation change their signs, and the separations are exchanged.
use Rattle.std.proofs.Common.{◌≡◌, pos, neg_ℤ, Bool, true, ◌||◌, [], refl, sym, ◌∙◌}
use Rattle.std.proofs.Math.Bool.{or_assoc, or_comm}
use Rattle.std.specs.Prelude.{int_lt}
use Rattle.pf_num.specs.Fx.{product}
use Rattle.pf_num.proofs.Operations.{product_comm, product-neg, sum-neg, difference-neg, difference-swap}
use Rattle.pf_num.proofs.Signs.{magnitude-neg}
use Rattle.pf_rot.specs.Vector.{V2, sub, neg}
use Rattle.pf_rot.specs.Rotation.{Rot, unrotate}
use Rattle.pf_shapes.specs.Reach.{reach}
use Rattle.pf_manifold.specs.PlacedShape.{OrientedBox}
use Rattle.pf_manifold.specs.Separation.{Frames, relative_rotation, frames_at_offset, frames_of, magnitudes, reaches, face_separations, Separations, separations_of, has_gap}
use Rattle.pf_manifold.specs.Boxes.{points_along, collide_boxes}
use Rattle.pf_manifold.specs.GeometryLaws.{boxes_have_gap}
use Rattle.pf_manifold.proofs.Mirrors.{minus-swap}

-- ---- frames

-- the inverse of a rotation
abbrev turned_back : Rot → Rot
turned_back q = record { c = q.c; s = neg_ℤ q.s }

unrotated-negated : (q : Rot) (v : V2) → unrotate q (neg v) ≡ neg (unrotate q v)
unfolding unrotate neg
unrotated-negated q v =
    rw (
      product-neg q.c v.x,
      product-neg q.s v.y,
      product-neg q.c v.y,
      product-neg q.s v.x,
      sum-neg (product q.c v.x) (product q.s v.y),
      difference-neg (product q.c v.y) (product q.s v.x),
    ) refl

relative-swap : (a b : Rot) → relative_rotation b a ≡ turned_back (relative_rotation a b)
unfolding relative_rotation
relative-swap a b =
    rw (
      product_comm b.c a.c,
      product_comm b.s a.s,
      product_comm b.c a.s,
      product_comm b.s a.c,
      difference-swap (product a.s b.c) (product a.c b.s),
    ) refl

-- the frames of the exchanged boxes
abbrev seen_back : Frames → Frames
seen_back f = record { in_a = neg f.in_b; in_b = neg f.in_a; relative = turned_back f.relative }

frames-swap : (a b : OrientedBox) → frames_of b a ≡ seen_back (frames_of a b)
unfolding frames_of frames_at_offset
frames-swap a b =
    rw (
      minus-swap a.position b.position,
      unrotated-negated b.rotation (sub b.position a.position),
      unrotated-negated a.rotation (sub b.position a.position),
      relative-swap a.rotation b.rotation,
    ) refl

-- ---- separations

magnitudes-negated : (v : V2) → magnitudes (neg v) ≡ magnitudes v
unfolding magnitudes neg
magnitudes-negated v = rw (magnitude-neg v.x, magnitude-neg v.y) refl

reaches-turned_back : (q : Rot) (half : V2) → reaches (turned_back q) half ≡ reaches q half
unfolding reaches reach
reaches-turned_back q half = rw (magnitude-neg q.s) refl

separations-back : (half offset : V2) (q : Rot) (other : V2)
    → face_separations half (neg offset) (turned_back q) other ≡ face_separations half offset q other
unfolding face_separations
separations-back half offset q other = rw (magnitudes-negated offset, reaches-turned_back q other) refl

abbrev exchanged : Separations → Separations
exchanged s = record { a = s.b; b = s.a }

separations-swap : (a b : V2) (f : Frames) → separations_of b a (seen_back f) ≡ exchanged (separations_of a b f)
unfolding separations_of
separations-swap a b f = rw (separations-back b f.in_b f.relative a, separations-back a f.in_a f.relative b) refl

or_exchanged : (p q r s : Bool) → (p || q || r || s) ≡ (r || s || p || q)
or_exchanged p q r s = or_assoc (p || q) r s ∙ or_comm (p || q) (r || s) ∙ sym (or_assoc (r || s) p q)

gap-exchanged : (s : Separations) → has_gap (exchanged s) ≡ has_gap s
unfolding has_gap
gap-exchanged s = or_exchanged (int_lt (pos 0) s.b.x) (int_lt (pos 0) s.b.y) (int_lt (pos 0) s.a.x) (int_lt (pos 0) s.a.y)

pub gap-swap : (a b : OrientedBox) → boxes_have_gap b a ≡ boxes_have_gap a b
gap-swap a b = rw (frames-swap a b, separations-swap a.half b.half (frames_of a b)) (gap-exchanged _)

-- ---- points

pub apart_at_gap : (a b : OrientedBox) → boxes_have_gap a b ≡ true → collide_boxes a b ≡ []
unfolding collide_boxes points_along
apart_at_gap a b e = rw e refl
