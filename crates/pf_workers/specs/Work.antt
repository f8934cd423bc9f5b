-- What the workers of a pool are asked, and what they make of it.
use Rattle.std.specs.Prelude.{◌≡◌, Bool, false, IfErr, List, Option, Some, map}
use Rattle.std.specs.List.{flat_map}
use Rattle.pf_manifold.specs.Touches.{Touch}
use Rattle.pf_workers.specs.declared.work.Part.{Part}
use Rattle.pf_workers.specs.declared.work.Part.TheVariants.{Islands, Solved, Pairs, Found}
use Rattle.pf_workers.specs.Colliding.{Chunk, IsFound, chunk_points}
use Rattle.pf_step.specs.declared.crew.CrewError.TheVariants.{GateShut}
use Rattle.pf_workers.specs.Solving.{IsSolved}

-- what a worker makes of a part: of islands what they are after a tick, of pairs their contact
-- points; what is done stays
abbrev pub IsDone : Bool → Part → Part → Type 0
IsDone always (Islands share) (Solved stack) =
    IsSolved always share.scene share.islands stack
IsDone always (Islands share) done = ⊥
IsDone always (Pairs chunk) (Found found) = IsFound chunk found
IsDone always (Pairs chunk) done = ⊥
IsDone always part done = done ≡ part

-- islands that are done, which fails only where a gate was shut
abbrev pub AreIslandsDone : Bool → Option Part → Type 0
AreIslandsDone always (Some (Solved stack)) =
    IfErr stack (λ error. (error ≡ GateShut) × (always ≡ false))
AreIslandsDone always other = ⊥

-- these parts are chunks of pairs that have these contact points
abbrev pub ArePointsOf : List (Option Part) → List Touch → Type 0
ArePointsOf parts points =
    (chunks : List Chunk) × (parts ≡ map (λ c. Some (Pairs c)) chunks)
    × (flat_map chunk_points chunks ≡ points)
