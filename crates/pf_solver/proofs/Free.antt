-- Bodies that no contact touches may go through all phases one after the other.
use Rattle.std.proofs.Common.{◌≡◌, ◌∙◌, Bool, true, false, List, [], ◌∷◌, length, refl, sym, ap, ap₂, arith}
use Rattle.std.specs.Prelude.{if◌then◌else◌}
use Rattle.pf_rot.specs.Vector.{V2}
use Rattle.pf_shapes.specs.Body.{BodyState}
use Rattle.pf_shapes.specs.Scene.{Scene}
use Rattle.pf_rows.specs.Row.{Row}
use Rattle.pf_solver.specs.declared.velocities.TheConstants.{ROUNDS}
use Rattle.pf_solver.specs.Bodies.{after_gravity, after_motion, after_timer, each_awake, gravity_per_tick}
use Rattle.pf_solver.specs.Impulse.{after_round}
use Rattle.pf_solver.specs.Solve.{solved_batch}
use Rattle.pf_solver.specs.Velocities.{Batch, pass}
use Rattle.pf_solver.proofs.Passes.{passes_nothing}

-- gravity wakes no body, and lets none sleep
both_phases : (pull : V2) (b : BodyState)
    → (if (if b.awake then after_gravity pull b else b).awake
    then after_timer (after_motion (if b.awake then after_gravity pull b else b))
    else (if b.awake then after_gravity pull b else b))
    ≡ (if b.awake then after_timer (after_motion (after_gravity pull b)) else b)
unfolding after_gravity
both_phases pull b = by b.awake refl
  where
    by : (e : Bool) → b.awake ≡ e
        → (if (if e then after_gravity pull b else b).awake
        then after_timer (after_motion (if e then after_gravity pull b else b))
        else (if e then after_gravity pull b else b))
        ≡ (if e then after_timer (after_motion (after_gravity pull b)) else b)
    by true is =
        ap (λ t. if t then after_timer (after_motion (after_gravity pull b)) else after_gravity pull b) is
    by false is = ap (λ t. if t then after_timer (after_motion b) else b) is

each_both : (pull : V2) (bodies : List BodyState)
    → each_awake (λ b. after_timer (after_motion b)) (each_awake (after_gravity pull) bodies)
    ≡ each_awake (λ b. after_timer (after_motion (after_gravity pull b))) bodies
each_both pull [] = refl
each_both pull (b ∷ bodies) = ap₂ (λ x xs. x ∷ xs) (both_phases pull b) (each_both pull bodies)

pub free_is_solved : (s : Scene) (bodies : List BodyState) (rows : List Row) → length rows ≡ 0
    → record {
      bodies = each_awake (λ b. after_timer (after_motion (after_gravity (gravity_per_tick s.gravity) b))) bodies;
      rows = rows;
    } ≡ solved_batch s bodies rows
unfolding solved_batch pass
free_is_solved s bodies [] none =
    let fallen = each_awake (after_gravity (gravity_per_tick s.gravity)) bodies in
    ap (λ bs. record { bodies = bs; rows = [] }) (sym (each_both (gravity_per_tick s.gravity) bodies))
    ∙ sym (ap (λ (b : Batch). record b { bodies = each_awake (λ x. after_timer (after_motion x)) b.bodies })
    (passes_nothing ROUNDS after_round fallen))
free_is_solved s bodies (r ∷ rows) none = absurd (omega (arith, none))
