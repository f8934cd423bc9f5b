use Rattle.std.proofs.Common.{◌≡◌, List, map, take}
use Rattle.std.specs.List.{flat_map}
use Rattle.pf_pool.specs.Pool.{AreDone}
use Rattle.pf_workers.specs.Colliding.{Chunk, chunk_points}
use Rattle.pf_workers.specs.Work.{IsDone}
use Rattle.pf_workers.proofs.Chunks.{part}
use Rattle.pf_workers.proofs.colliding.joined.Given as goal

abbrev pub invariant-loop-number : goal.invariant-loop-number
invariant-loop-number g l =
    (chunks : List Chunk) → AreDone (IsDone g.G.Gate.ALWAYS) (map part chunks) l.fn.found
    → l.all.items ≡ flat_map chunk_points (take l.number chunks)
