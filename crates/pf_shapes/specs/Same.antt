-- Tests of equality, part by part, for the impls of `==`.
use Rattle.std.specs.Prelude.{Bool, false, ◌&&◌, ◌==◌, nat_eq}
use Rattle.std.specs.Bool.{beq}
use Rattle.std.specs.Ordering.{int_eq}
use Rattle.std.specs.Option.{option_eq}
use Rattle.std.specs.Cmp.Lexicographic.{pointwise}
use Rattle.pf_rot.specs.Vector.{V2}
use Rattle.pf_rot.specs.Rotation.{Rot}
use Rattle.pf_shapes.specs.declared.fixture.Shape.{Shape}
use Rattle.pf_shapes.specs.declared.fixture.Shape.TheVariants.{Circle, Box}
use Rattle.pf_shapes.specs.Fixture.{Fixture}
use Rattle.pf_shapes.specs.Body.{BodyState}
use Rattle.pf_shapes.specs.Scene.{Scene}

abbrev pub same_vector : V2 → V2 → Bool
same_vector u v = int_eq u.x v.x && int_eq u.y v.y

abbrev pub same_rotation : Rot → Rot → Bool
same_rotation p q = int_eq p.c q.c && int_eq p.s q.s

abbrev pub same_shape : Shape → Shape → Bool
same_shape (Circle r) (Circle s) = int_eq r s
same_shape (Box hx hy) (Box kx ky) = int_eq hx kx && int_eq hy ky
same_shape a b = false

unfoldable pub same_fixture : Fixture → Fixture → Bool
same_fixture a b =
    same_shape a.shape b.shape
    && (int_eq a.mass b.mass
    && (int_eq a.friction b.friction && option_eq nat_eq a.owner b.owner))

abbrev pub same_state : BodyState → BodyState → Bool
same_state a b =
    same_vector a.position b.position
    && (same_rotation a.rotation b.rotation
    && (same_vector a.velocity b.velocity
    && (int_eq a.spin b.spin && ((a.timer == b.timer) && beq a.awake b.awake))))

unfoldable pub same_scene : Scene → Scene → Bool
same_scene a b =
    (pointwise same_fixture a.fixtures b.fixtures && pointwise same_state a.starts b.starts)
    && same_vector a.gravity b.gravity
