-- What a worker makes of its pairs.
use Rattle.std.specs.Prelude.{◌≡◌, List, IfOk, Result, Vec}
use Rattle.std.specs.Global.{Global}
use Rattle.std.specs.declared.alloc.AllocError.{AllocError}
use Rattle.pf_shapes.specs.Fixture.{Fixture}
use Rattle.pf_shapes.specs.Body.{BodyState}
use Rattle.pf_shapes.specs.Pair.{Pair}
use Rattle.pf_manifold.specs.Touches.{Touch, touches}

-- bodies as they stand, and the pairs of one worker
pub record Chunk : Type 0 where
  pub fixtures : List Fixture
  pub bodies : List BodyState
  pub pairs : List Pair

abbrev pub chunk : List Fixture → List BodyState → List Pair → Chunk
chunk fixtures bodies pairs = record { fixtures = fixtures; bodies = bodies; pairs = pairs }

-- the contact points of a worker's pairs
abbrev pub chunk_points : Chunk → List Touch
chunk_points c = touches c.fixtures c.bodies c.pairs

-- a worker that succeeds returns the contact points of its pairs
abbrev pub IsFound : Chunk → Result (Vec Touch Global) AllocError → Type 0
IsFound c found = IfOk found (λ points. points.items ≡ chunk_points c)
