-- The tests of equality decide equality. These lemmas stand in specs, since the impls of `==` cite
-- them.
use Rattle.std.proofs.Common.{◌≡◌, ℕ, ℤ, Bool, true, false, Option, Some, None, refl, sym, ap, nat_eq, ◌&&◌, true≢false}
use Rattle.std.specs.Prelude.{unwrap_or, is_some}
use Rattle.std.specs.Bool.{Decides, beq}
use Rattle.std.specs.Cmp.{IsEquivalence, decided}
use Rattle.std.specs.Ordering.{int_eq}
use Rattle.std.specs.Option.{option_eq}
use Rattle.std.proofs.lemmas.Bool.Decides.{Decides-eqb, Decides-int_eq, Decides-and, Decides-like}
use Rattle.std.proofs.lemmas.Slice.Eq.{slice_eq-Decides}
use Rattle.pf_rot.specs.Vector.{V2}
use Rattle.pf_rot.specs.Rotation.{Rot}
use Rattle.pf_shapes.specs.declared.fixture.Shape.{Shape}
use Rattle.pf_shapes.specs.declared.fixture.Shape.TheVariants.{Circle, Box}
use Rattle.pf_shapes.specs.Fixture.{Fixture}
use Rattle.pf_shapes.specs.Body.{BodyState}
use Rattle.pf_shapes.specs.Scene.{Scene}
use Rattle.pf_shapes.specs.Same.{same_vector, same_rotation, same_shape, same_fixture, same_state, same_scene}

pub Decides-vector : (u v : V2) → Decides (same_vector u v) (u ≡ v)
Decides-vector u v =
    Decides-like (same_vector u v) (λ e i. record {
      x = e.0 i;
      y = e.1 i;
    })
    (λ e. (ap (λ (w : V2). w.x) e, ap (λ (w : V2). w.y) e))
    (Decides-and _ _ (Decides-int_eq u.x v.x) (Decides-int_eq u.y v.y))

pub Decides-rotation : (p q : Rot) → Decides (same_rotation p q) (p ≡ q)
Decides-rotation p q =
    Decides-like (same_rotation p q) (λ e i. record {
      c = e.0 i;
      s = e.1 i;
    })
    (λ e. (ap (λ (w : Rot). w.c) e, ap (λ (w : Rot). w.s) e))
    (Decides-and _ _ (Decides-int_eq p.c q.c) (Decides-int_eq p.s q.s))

-- a test that is false, of a fact that does not hold
Decides-neither : {P : Type 0} → (P → true ≡ false) → Decides false P
Decides-neither h = (λ e. absurd (true≢false (sym e)), λ p. absurd (true≢false (h p)))

abbrev is_circle : Shape → Bool
is_circle (Circle r) = true
is_circle (Box hx hy) = false

abbrev width : Shape → ℤ
width (Circle r) = r
width (Box hx hy) = hx

abbrev height : Shape → ℤ
height (Circle r) = r
height (Box hx hy) = hy

pub Decides-shape : (a b : Shape) → Decides (same_shape a b) (a ≡ b)
Decides-shape (Circle r) (Circle s) =
    Decides-like (int_eq r s) (ap Circle) (ap width) (Decides-int_eq r s)
Decides-shape (Box hx hy) (Box kx ky) =
    Decides-like (int_eq hx kx && int_eq hy ky) (λ e i. Box (e.0 i) (e.1 i))
    (λ e. (ap width e, ap height e))
    (Decides-and _ _ (Decides-int_eq hx kx) (Decides-int_eq hy ky))
Decides-shape (Circle r) (Box kx ky) = Decides-neither (ap is_circle)
Decides-shape (Box hx hy) (Circle s) = Decides-neither (λ e. sym (ap is_circle e))

Decides-owner : (a b : Option ℕ) → Decides (option_eq nat_eq a b) (a ≡ b)
Decides-owner None None = (λ e. refl, λ e. refl)
Decides-owner (Some x) (Some y) =
    Decides-like (nat_eq x y) (ap Some) (ap (λ o. unwrap_or o 0)) (Decides-eqb x y)
Decides-owner None (Some y) = Decides-neither (λ e. sym (ap is_some e))
Decides-owner (Some x) None = Decides-neither (ap is_some)

Decides-flag : (a b : Bool) → Decides (beq a b) (a ≡ b)
Decides-flag true true = (λ e. refl, λ e. refl)
Decides-flag false false = (λ e. refl, λ e. refl)
Decides-flag true false = Decides-neither (λ e. e)
Decides-flag false true = Decides-neither sym

pub Decides-fixture : (a b : Fixture) → Decides (same_fixture a b) (a ≡ b)
unfolding same_fixture
Decides-fixture a b =
    Decides-like (same_fixture a b) (λ e i. record {
      shape = e.0 i;
      mass = e.1.0 i;
      friction = e.1.1.0 i;
      owner = e.1.1.1 i;
    })
    (λ e. (
      ap (λ (f : Fixture). f.shape) e,
      (
        ap (λ (f : Fixture). f.mass) e,
        (ap (λ (f : Fixture). f.friction) e, ap (λ (f : Fixture). f.owner) e),
      ),
    ))
    (Decides-and _ _ (Decides-shape a.shape b.shape) (Decides-and _ _ (Decides-int_eq a.mass b.mass)
    (Decides-and _ _ (Decides-int_eq a.friction b.friction) (Decides-owner a.owner b.owner))))

pub Decides-state : (a b : BodyState) → Decides (same_state a b) (a ≡ b)
Decides-state a b =
    Decides-like (same_state a b)
    (λ e i. record {
      position = e.0 i;
      rotation = e.1.0 i;
      velocity = e.1.1.0 i;
      spin = e.1.1.1.0 i;
      timer = e.1.1.1.1.0 i;
      awake = e.1.1.1.1.1 i;
    })
    (λ e. (
      ap (λ (s : BodyState). s.position) e,
      (
        ap (λ (s : BodyState). s.rotation) e,
        (
          ap (λ (s : BodyState). s.velocity) e,
          (
            ap (λ (s : BodyState). s.spin) e,
            (ap (λ (s : BodyState). s.timer) e, ap (λ (s : BodyState). s.awake) e),
          ),
        ),
      ),
    ))
    (Decides-and _ _ (Decides-vector a.position b.position)
    (Decides-and _ _ (Decides-rotation a.rotation b.rotation)
    (Decides-and _ _ (Decides-vector a.velocity b.velocity)
    (Decides-and _ _ (Decides-int_eq a.spin b.spin)
    (Decides-and _ _ (Decides-eqb a.timer b.timer) (Decides-flag a.awake b.awake))))))

pub Decides-scene : (a b : Scene) → Decides (same_scene a b) (a ≡ b)
unfolding same_scene
Decides-scene a b =
    Decides-like (same_scene a b) (λ e i. record {
      gravity = e.1 i;
      fixtures = e.0.0 i;
      starts = e.0.1 i;
    })
    (λ e. (
      (ap (λ (s : Scene). s.fixtures) e, ap (λ (s : Scene). s.starts) e),
      ap (λ (s : Scene). s.gravity) e,
    ))
    (Decides-and _ _
    (Decides-and _ _ (slice_eq-Decides Decides-fixture a.fixtures b.fixtures _ refl)
    (slice_eq-Decides Decides-state a.starts b.starts _ refl))
    (Decides-vector a.gravity b.gravity))

pub fixtures_equivalent : IsEquivalence same_fixture
fixtures_equivalent = decided same_fixture Decides-fixture

pub scenes_equivalent : IsEquivalence same_scene
scenes_equivalent = decided same_scene Decides-scene
