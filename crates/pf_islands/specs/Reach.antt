-- Which bodies contacts connect, as Box2D 2.x's b2World::Solve searches islands: from body to body,
-- and never through a static one.
use Rattle.std.specs.Prelude.{◌≡◌, ℕ, Bool, true, not, ◌&&◌, ◌⊎◌, List, [], ◌∷◌}
use Rattle.pf_shapes.specs.Scene.{Scene, is_static_at}
use Rattle.pf_manifold.specs.Touches.{Touch}

-- a contact point connects its bodies where both are dynamic
abbrev pub connects : Scene → Touch → Bool
connects s t = not (is_static_at s t.a) && not (is_static_at s t.b)

-- a contact point connects these two bodies
abbrev pub ConnectsBodies : Scene → Touch → ℕ → ℕ → Type 0
ConnectsBodies s t a b = (connects s t ≡ true) × (((t.a ≡ a) × (t.b ≡ b)) ⊎ ((t.a ≡ b) × (t.b ≡ a)))

-- two bodies are neighbours: one of the contact points connects them
abbrev pub AreNeighbours : Scene → List Touch → ℕ → ℕ → Type 0
AreNeighbours s [] a b = ⊥
AreNeighbours s (t ∷ touches) a b = ConnectsBodies s t a b ⊎ AreNeighbours s touches a b

-- a chain from one body to another, in which each body is a neighbour of the next
abbrev pub IsChain : Scene → List Touch → ℕ → List ℕ → ℕ → Type 0
IsChain s touches a [] b = a ≡ b
IsChain s touches a (c ∷ chain) b = AreNeighbours s touches a c × IsChain s touches c chain b

-- a chain leads from one body to another
abbrev pub Reaches : Scene → List Touch → ℕ → ℕ → Type 0
Reaches s touches a b = (chain : List ℕ) × IsChain s touches a chain b
