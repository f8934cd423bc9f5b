use Rattle.std.proofs.Common.{◌≡◌, length, map, IfOk, ap, subst, ◌∙◌}
use Rattle.std.specs.List.{AllZip}
use Rattle.std.specs.declared.alloc.AllocError.{AllocError}
use Rattle.rayon.specs.Lists.{chunks_of}
use Rattle.rayon.proofs.ToStd.{slice-AllZip}
use Rattle.pf_shapes.specs.Pair.{IsPairOf}
use Rattle.pf_manifold.specs.Touches.{touches}
use Rattle.pf_manifold.specs.declared.parallel.TheConstants.{CHUNK}
use Rattle.pf_manifold.proofs.Chunks.{chunks_have, each_given, if_given}
use Rattle.pf_manifold.proofs.parallel.collide_chunks.Goals as goal

pub collect-requires-clause-ready : goal.collect-requires-clause-ready
collect-requires-clause-ready g c κs within =
    let pairs = c.args.pairs.now in
    let each = chunks_have CHUNK (IsPairOf (length c.args.bodies.now)) pairs c.requires.pairs in
    rw (c.map.ensures.base, c.map.ensures.f, c.par_chunks.ensures.slice, c.par_chunks.ensures.size)
    (λ k d lt x e. ((c.requires.few, c.requires.bodies, rw e (each k d lt)), λ y p. tt))

pub returns : goal.returns
returns g c =
    let f = touches c.args.fixtures.now c.args.bodies.now in
    let given = c.in_ok-chunks.ensures in
    let chain = rw (c.map.ensures.base, c.map.ensures.f, c.par_chunks.ensures.slice, c.par_chunks.ensures.size) at given.1 in
    let each = slice-AllZip chain.0 (chunks_of CHUNK c.args.pairs.now) chain.1
    (λ chunk r. IfOk r (λ found. found.items ≡ f chunk)) given.0 chain.2 in
    if_given c.in_ok-chunks.chunks _ _ _ given.2 (λ v h.
    ap (map (λ points. points.items)) h.2
    ∙ each_given AllocError f (λ points. points.items) (chunks_of CHUNK c.args.pairs.now) h.0
    (subst (AllZip (λ chunk r. IfOk r (λ found. found.items ≡ f chunk)) (chunks_of CHUNK c.args.pairs.now)) h.1 each))
