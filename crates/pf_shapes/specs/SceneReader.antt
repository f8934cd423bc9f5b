-- A scene that is read line by line.
use Rattle.std.specs.Prelude.{ℕ, Option}
use Rattle.pf_shapes.specs.Scene.{Scene}

-- how many bodies the scene may have, and the scene so far, or `None` before its gravity
pub record SceneReader : Type 0 where
  pub max_bodies : ℕ
  pub scene : Option Scene
