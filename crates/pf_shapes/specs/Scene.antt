-- Scenes: what a simulation starts from.
use Rattle.std.specs.Prelude.{◌≡◌, ◌≤◌, ℕ, pos, neg_ℤ, Bool, List, [], ◌∷◌, ◌++◌, length, None, slice_index_or}
use Rattle.pf_rot.specs.Vector.{V2}
use Rattle.pf_rot.specs.Rotation.{Rot}
use Rattle.pf_rot.specs.Laws.{IsAtMostOne}
use Rattle.pf_shapes.specs.declared.fixture.Shape.TheVariants.{Circle}
use Rattle.pf_shapes.specs.Fixture.{Fixture, IsWithin, is_static}
use Rattle.pf_shapes.specs.Body.{BodyState, start_of}
use Rattle.pf_shapes.specs.declared.scene.TheConstants.{MAX_BODIES, MAX_GRAVITY, MAX_POSITION}

-- gravity, and the bodies by their numbers: the fixture and the start of each
pub record Scene : Type 0 where
  pub gravity : V2
  pub fixtures : List Fixture
  pub starts : List BodyState

-- read where a scene has no such body
abbrev pub no_fixture : Fixture
no_fixture = record { shape = Circle (pos 0); mass = pos 0; friction = pos 0; owner = None }

-- the fixture of the body of a number
abbrev pub fixture_at : Scene → ℕ → Fixture
fixture_at s number = slice_index_or s.fixtures number no_fixture

-- the body of a number is static
abbrev pub is_static_at : Scene → ℕ → Bool
is_static_at s number = is_static (fixture_at s number)

-- a scene without bodies
abbrev pub empty_scene : V2 → Scene
empty_scene gravity = record { gravity = gravity; fixtures = []; starts = [] }

-- a scene with one body more, which starts at this position and rotation
abbrev pub with_body : Scene → Fixture → V2 → Rot → Scene
with_body s fixture position rotation = record {
  gravity = s.gravity;
  fixtures = s.fixtures ++ fixture ∷ [];
  starts = s.starts ++ start_of fixture position rotation ∷ [];
}

-- the limits of gravity
pub record IsGravity (g : V2) : Type 0 where
  pub x : IsWithin (neg_ℤ MAX_GRAVITY) MAX_GRAVITY g.x
  pub y : IsWithin (neg_ℤ MAX_GRAVITY) MAX_GRAVITY g.y

-- the limits of a start's position
pub record IsPosition (position : V2) : Type 0 where
  pub x : IsWithin (neg_ℤ MAX_POSITION) MAX_POSITION position.x
  pub y : IsWithin (neg_ℤ MAX_POSITION) MAX_POSITION position.y

-- where a body may start: the position is within its limits, and cosine and sine are at most 1
abbrev pub IsTransform : V2 × Rot → Type 0
IsTransform transform = IsPosition transform.0 × IsAtMostOne transform.1

-- a body of this fixture may start so: at rest, and where a body may start
pub record IsStart (fixture : Fixture) (b : BodyState) : Type 0 where
  pub at_rest : b ≡ start_of fixture b.position b.rotation
  pub transform : IsTransform (b.position, b.rotation)

-- each body has one start
abbrev pub AreStarts : List Fixture → List BodyState → Type 0
AreStarts [] [] = Unit {0}
AreStarts (fixture ∷ fixtures) (b ∷ starts) = IsStart fixture b × AreStarts fixtures starts
AreStarts [] (b ∷ starts) = ⊥
AreStarts (fixture ∷ fixtures) [] = ⊥

-- the limits of a scene
pub record IsScene (s : Scene) : Type 0 where
  pub gravity : IsGravity s.gravity
  pub paired : length s.starts ≡ length s.fixtures
  pub few : length s.fixtures ≤ MAX_BODIES
  pub started : AreStarts s.fixtures s.starts
