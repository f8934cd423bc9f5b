-- Bounds of bodies, with the shapes that they are of.
use Rattle.std.proofs.Common.{◌≡◌, ℕ, ◌<◌, Bool, true, false, List, [], ◌∷◌, length, refl, sym, ap, ap₂, subst, ◌∙◌, arith}
use Rattle.std.specs.Bool.{beq}
use Rattle.std.specs.List.{zip}
use Rattle.std.specs.Prelude.{All, get_or}
use Rattle.std.proofs.lemmas.List.{length-map}
use Rattle.std.proofs.lemmas.List.Elements.{All-cons, All-head, All-nil, All-tail}
use Rattle.std.proofs.lemmas.Slice.Zip.{length-zip}
use Rattle.pf_shapes.specs.Bounds.{Bounds, IsOrdered, fixture_bounds, shape_bounds}
use Rattle.pf_shapes.specs.Fixture.{Fixture, is_static}
use Rattle.pf_shapes.specs.Body.{BodyState}
use Rattle.pf_broad.specs.Pairs.{all_bounds}
use Rattle.pf_broad.proofs.Within.{length-all_bounds}
use Rattle.pf_manifold.specs.PlacedShape.{PlacedShape}
use Rattle.pf_cache.specs.Manifolds.{placed_shapes, same_placed_shape, shape_of_body}
use Rattle.pf_cache.specs.PlacedBodies.{AreBoundsOf, HaveBounds, PlacedBodies, placed_bodies}
use Rattle.pf_cache.specs.Slots.{unmoved_flags}
use Rattle.pf_cache.proofs.Placing.{both_at}

same_mark : (a b : Bool) → beq a b ≡ true → a ≡ b
same_mark true true is = refl
same_mark true false is = sym is
same_mark false true is = is
same_mark false false is = refl

-- a body that stands as it stood, and is static as it was, has the bounds that it had
pub bounds_stay : (s : PlacedShape) (b : Bounds) (f : Fixture) (body : BodyState) → AreBoundsOf s b
    → s ≡ shape_of_body f body → (own mark : Bool) → own ≡ b.is_static → mark ≡ is_static f → beq own mark ≡ true
    → b ≡ fixture_bounds f body
unfolding fixture_bounds
bounds_stay s b f body are same own mark own_is mark_is marked =
    are.value
    ∙ ap₂ (λ (x : PlacedShape) m. shape_bounds x.shape x.position x.rotation m) same
    (sym own_is ∙ same_mark own mark marked ∙ mark_is)

-- the bounds of a body, of all
pub bounds_of_body : (shapes : List PlacedShape) (bounds : List Bounds) (n : ℕ) (s : PlacedShape) (b : Bounds)
    → HaveBounds shapes bounds → n < length shapes → s ≡ get_or shapes n s → b ≡ get_or bounds n b → AreBoundsOf s b
bounds_of_body shapes bounds n s b have within s_is b_is =
    let P : PlacedShape × Bounds → Type 0 = λ both. AreBoundsOf both.0 both.1 in
    let long = length-zip shapes bounds in
    let there : n < length (zip shapes bounds) = omega (arith, long, within, have.as_many) in
    subst P (sym (both_at shapes bounds n s b within (omega (arith, within, have.as_many)) s_is b_is)) (have.each n (s, b) there)

-- they are in order
pub in_order_all : (shapes : List PlacedShape) (bounds : List Bounds) → length bounds ≡ length shapes
    → All (λ (both : PlacedShape × Bounds). AreBoundsOf both.0 both.1) (zip shapes bounds) → All IsOrdered bounds
in_order_all shapes [] long each = All-nil IsOrdered
in_order_all [] (b ∷ bounds) long each = absurd (omega (arith, long))
in_order_all (s ∷ shapes) (b ∷ bounds) long each =
    let P : PlacedShape × Bounds → Type 0 = λ both. AreBoundsOf both.0 both.1 in
    All-cons IsOrdered b bounds (All-head P (s, b) (zip shapes bounds) each).ordered
    (in_order_all shapes bounds (omega (arith, long)) (All-tail P (s, b) (zip shapes bounds) each))

-- how many there are
pub length-placed_shapes : (fixtures : List Fixture) (bodies : List BodyState) → length bodies ≡ length fixtures
    → length (placed_shapes fixtures bodies) ≡ length bodies
length-placed_shapes fixtures bodies paired =
    let counted = length-map (zip fixtures bodies) (λ (m : Fixture × BodyState). shape_of_body m.0 m.1) ∙ length-zip fixtures bodies in
    omega (arith, counted, paired)

pub length-unmoved_flags : (old shapes : List PlacedShape) → length shapes ≡ length old
    → length (unmoved_flags old shapes) ≡ length old
length-unmoved_flags old shapes as_many =
    let counted = length-map (zip old shapes) (λ (m : PlacedShape × PlacedShape). same_placed_shape m.0 m.1) ∙ length-zip old shapes in
    omega (arith, counted, as_many)

pub as_many_bounds : (fixtures : List Fixture) (bodies : List BodyState) (placed : PlacedBodies) (bounds : List Bounds)
    → length bodies ≡ length fixtures → placed ≡ placed_bodies fixtures bodies → bounds ≡ placed.bounds
    → length bounds ≡ length bodies
as_many_bounds fixtures bodies placed bounds paired placed_is are =
    ap length (are ∙ ap (λ (p : PlacedBodies). p.bounds) placed_is) ∙ length-all_bounds fixtures bodies paired

-- bodies as they stand have their bounds
each_bounded : (fixtures : List Fixture) (bodies : List BodyState) → All IsOrdered (all_bounds fixtures bodies)
    → All (λ (both : PlacedShape × Bounds). AreBoundsOf both.0 both.1) (zip (placed_shapes fixtures bodies) (all_bounds fixtures bodies))
unfolding fixture_bounds shape_bounds
each_bounded [] bodies ordered = All-nil (λ (both : PlacedShape × Bounds). AreBoundsOf both.0 both.1)
each_bounded (f ∷ fixtures) [] ordered = All-nil (λ (both : PlacedShape × Bounds). AreBoundsOf both.0 both.1)
each_bounded (f ∷ fixtures) (b ∷ bodies) ordered =
    All-cons (λ (both : PlacedShape × Bounds). AreBoundsOf both.0 both.1) (shape_of_body f b, fixture_bounds f b)
    (zip (placed_shapes fixtures bodies) (all_bounds fixtures bodies))
    (record { value = refl; ordered = All-head IsOrdered (fixture_bounds f b) (all_bounds fixtures bodies) ordered })
    (each_bounded fixtures bodies (All-tail IsOrdered (fixture_bounds f b) (all_bounds fixtures bodies) ordered))

pub have_bounds : (fixtures : List Fixture) (bodies : List BodyState) (shapes : List PlacedShape) (bounds : List Bounds)
    → length bodies ≡ length fixtures → shapes ≡ placed_shapes fixtures bodies → bounds ≡ all_bounds fixtures bodies
    → All IsOrdered bounds → HaveBounds shapes bounds
have_bounds fixtures bodies shapes bounds paired shapes_are bounds_are ordered =
    let in_order = subst (All IsOrdered) bounds_are ordered in
    let long = length-placed_shapes fixtures bodies paired in
    let as_long = length-all_bounds fixtures bodies paired in
    let all : HaveBounds (placed_shapes fixtures bodies) (all_bounds fixtures bodies) = record {
      as_many = omega (arith, long, as_long);
      each = each_bounded fixtures bodies in_order;
    } in
    subst (HaveBounds shapes) (sym bounds_are) (subst (λ ss. HaveBounds ss (all_bounds fixtures bodies)) (sym shapes_are) all)
