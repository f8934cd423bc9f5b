-- The pre-step of bodies that impulses do not turn.
use Rattle.std.proofs.Common.{◌≡◌, ℤ, pos, ap, ◌∙◌}
use Rattle.pf_num.specs.Fx.{product}
use Rattle.pf_num.proofs.Operations.{product-zero}

-- an inverse inertia of 0 adds nothing
pub no_turning : (inertia squared : ℤ) → inertia ≡ pos 0 → product inertia squared ≡ pos 0
no_turning inertia squared none = ap (λ z. product z squared) none ∙ product-zero squared
