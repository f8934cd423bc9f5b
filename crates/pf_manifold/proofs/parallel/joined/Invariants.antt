use Rattle.std.proofs.Common.{◌≡◌, map, take}
use Rattle.std.specs.List.{flat_map}
use Rattle.pf_manifold.proofs.parallel.joined.Given as goal

abbrev pub invariant-loop-chunk : goal.invariant-loop-chunk
invariant-loop-chunk l = l.all.items ≡ flat_map (λ points. points) (map (λ chunk. chunk.items) (take l.chunk-index l.chunks))
