-- What a tick is split into: the islands that are made, and lone bodies that are in none of them.
use Rattle.std.specs.Prelude.{◌≡◌, ◌<◌, ℕ, All, List, map, slice_index_or}
use Rattle.pf_shapes.specs.Body.{BodyState}
use Rattle.pf_shapes.specs.Scene.{Scene}
use Rattle.pf_manifold.specs.Key.{IsRising}
use Rattle.pf_manifold.specs.Touches.{Touch}
use Rattle.pf_cache.specs.Contact.{Contact, no_contact}
use Rattle.pf_islands.specs.declared.splitting.LoneBodies.{LoneBodies}
use Rattle.pf_islands.specs.declared.splitting.Parts.{Parts}
use Rattle.pf_islands.specs.Group.{groups}
use Rattle.pf_islands.specs.Lone.{lone_numbers, made_islands}
use Rattle.pf_islands.specs.Rows.{active_rows, row_of}
use Rattle.pf_islands.specs.Settled.{touches_of}
use Rattle.pf_islands.specs.Sleep.{woken_bodies}
use Rattle.pf_islands.specs.Split.{IsIslandOf, Island, islands}

-- an island for each group of these contact points that has an awake body, with their rows
abbrev pub point_islands
    : Scene → List BodyState → List (ℕ × Touch) → List Contact → List Island
point_islands s bodies points contacts =
    islands (groups s (touches_of points)) bodies
    (map (λ m. row_of s m.0 m.1 (slice_index_or contacts m.0 no_contact)) points)

-- an island for each group that has an awake body, with rows of the contacts that are simulated
abbrev pub group_islands : Scene → List BodyState → List Touch → List Contact → List Island
group_islands s bodies touches contacts =
    islands (groups s touches) bodies (active_rows s bodies touches contacts)

-- the same once all bodies of these groups are awake
abbrev pub woken_islands : Scene → List BodyState → List Touch → List Contact → List Island
woken_islands s bodies touches contacts =
    group_islands s (woken_bodies (groups s touches) bodies) touches contacts

-- `parts` has those of all islands that `lone` wants made, and lists the bodies of the others in
-- ascending order; the scene has `count` bodies
pub record AreParts
    (s : Scene) (count : ℕ) (lone : LoneBodies) (all : List Island) (parts : Parts)
    : Type 0 where
  pub made : parts.islands.items ≡ made_islands lone all
  pub listed : parts.lone_numbers.items ≡ lone_numbers lone all
  pub fit : All (IsIslandOf s) parts.islands.items
  pub order : IsRising 0 parts.lone_numbers.items
  pub there : All (λ number. number < count) parts.lone_numbers.items
