use Rattle.std.proofs.Common.{◌≡◌, subst, sym}
use Rattle.std.specs.Prelude.{All, IfOk, IsSome}
use Rattle.pf_manifold.specs.Touches.{touches}
use Rattle.pf_pool.specs.Pool.{AreDone}
use Rattle.pf_workers.specs.Work.{IsDone}
use Rattle.pf_workers.proofs.Chunks.{all_asked}
use Rattle.pf_workers.proofs.colliding.StandingColliderCollider.collide.Goals as goal
use Rattle.pf_workers.proofs.colliding.StandingColliderCollider.collide.Goals.{in-Ok, in-Err-OutOfMemory, in-Err}

pub run-requires-clause-all : goal.run-requires-clause-all
run-requires-clause-all g c κs within =
    let asked = c.in_ok-chunks.ensures.points in
    subst (All IsSome) (sym asked.1) (all_asked asked.0)

pub returns : goal.returns
returns g c =
    let points = touches c.args.scene.now.fixtures c.args.bodies.now c.args.pairs.now in
    let parts = c.chunks.new.parts.items in
    elim c.match-run.branch [
      | in-Ok w ↦ subst (λ r. IfOk r (λ found. found.items ≡ points)) (sym w.found-is)
          (w.joined-found.ensures parts points c.in_ok-chunks.ensures.points
          (subst (AreDone (IsDone g.G.Gate.ALWAYS) parts) (sym w.deref.ensures.value) w.in-Ok.ensures.done))
      | in-Err-OutOfMemory w ↦ subst (λ r. IfOk r (λ found. found.items ≡ points)) (sym w.found-is) tt
      | in-Err w ↦ subst (λ r. IfOk r (λ found. found.items ≡ points)) (sym w.found-is) w.collide_list-found.ensures.found
    ]
