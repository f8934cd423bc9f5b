-- Groups of bodies that contacts connect, each labelled by its least body, as a union-find keeps
-- them. A law says that two bodies are in one group exactly where one reaches the other.
use Rattle.std.specs.Prelude.{◌≡◌, ◌<◌, ◌≤◌, ℕ, ◌==◌, min, max, List, [], ◌∷◌, length, map, All}
use Rattle.std.specs.Prelude.{if◌then◌else◌}
use Rattle.std.specs.List.{range_with_len}
use Rattle.pf_shapes.specs.Scene.{Scene}
use Rattle.pf_shapes.specs.declared.scene.TheConstants.{MAX_BODIES}
use Rattle.pf_manifold.specs.Touches.{Touch}
use Rattle.pf_islands.specs.Forest.{OthersAre}
use Rattle.pf_islands.specs.Reach.{connects}

-- the label of a group after the groups of two labels became one: the greater became the lesser
abbrev pub merged_label : ℕ → ℕ → ℕ → ℕ
merged_label a b label = if label == max a b then min a b else label

-- the label of a body's group: each body is alone at first, and each contact of two dynamic bodies
-- merges their groups
unfoldable pub group : Scene → List Touch → ℕ → ℕ
group s [] i = i
group s (t ∷ touches) i =
    if connects s t
    then merged_label (group s touches t.a) (group s touches t.b) (group s touches i)
    else group s touches i

-- the labels of the groups of all bodies, by their numbers
abbrev pub groups : Scene → List Touch → List ℕ
groups s touches = map (group s touches) (range_with_len 0 (length s.fixtures))

-- some bodies; each other one is alone in its group
abbrev pub OthersAreAlone : Scene → List Touch → List ℕ → Type 0
OthersAreAlone s touches numbers =
    OthersAre (length s.fixtures) (λ i. group s touches i ≡ i) numbers

-- the labels of the groups of a scene's bodies: each is the number of a body
pub record IsGroups (labels : List ℕ) : Type 0 where
  pub few : length labels ≤ MAX_BODIES
  pub labelled : All (λ label. label < length labels) labels
