-- The lines that encode a scene, as docs/FORMATS.md shows them: for each body its fields.
use Rattle.std.specs.Prelude.{ℕ, neg_ℤ, List, [], ◌∷◌, Option, Some, None, codes, decimal}
use Rattle.std.specs.Fmt.{signed_decimal}
use Rattle.pf_rot.specs.Vector.{V2}
use Rattle.pf_rot.specs.Rotation.{Rot, upright, unit}
use Rattle.pf_shapes.specs.declared.fixture.Shape.{Shape}
use Rattle.pf_shapes.specs.declared.fixture.Shape.TheVariants.{Circle, Box}
use Rattle.pf_shapes.specs.declared.numbers.TheConstants.{MAX_DIRECTION}
use Rattle.pf_shapes.specs.Fixture.{Fixture, IsWithin}

-- `-` for nobody, or the player
abbrev pub owner_field : Option ℕ → List ℕ
owner_field None = codes "-"
owner_field (Some player) = decimal player

-- the word of a shape, and its sizes
abbrev pub shape_word : Shape → List ℕ
shape_word (Circle r) = codes "circle"
shape_word (Box hx hy) = codes "box"

-- the fields behind owner, mass and friction: sizes and position, and of a box the direction that
-- it is turned to
abbrev pub shape_fields : Shape → V2 → Rot → List (List ℕ)
shape_fields (Circle r) position to =
    signed_decimal r ∷ signed_decimal position.x ∷ signed_decimal position.y ∷ []
shape_fields (Box hx hy) position to =
    signed_decimal hx ∷ signed_decimal hy ∷ signed_decimal position.x
    ∷ signed_decimal position.y ∷ signed_decimal to.c ∷ signed_decimal to.s ∷ []

-- the fields of a body that starts at this position
abbrev pub body_fields : Fixture → V2 → Rot → List (List ℕ)
body_fields f position to =
    shape_word f.shape ∷ owner_field f.owner ∷ signed_decimal f.mass ∷ signed_decimal f.friction
    ∷ shape_fields f.shape position to

-- the rotation in which it starts: a circle is upright, and a box is turned to its direction
abbrev pub start_rotation : Shape → Rot → Rot
start_rotation (Circle r) to = upright
start_rotation (Box hx hy) to = unit to.c to.s

-- the fields of gravity
abbrev pub gravity_fields : V2 → List (List ℕ)
gravity_fields g = codes "gravity" ∷ signed_decimal g.x ∷ signed_decimal g.y ∷ []

-- both parts of a direction are in range
pub record IsDirection (to : Rot) : Type 0 where
  pub c : IsWithin (neg_ℤ MAX_DIRECTION) MAX_DIRECTION to.c
  pub s : IsWithin (neg_ℤ MAX_DIRECTION) MAX_DIRECTION to.s
