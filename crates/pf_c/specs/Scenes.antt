-- What C says of bodies and lines of scenes.
use Rattle.std.specs.Prelude.{◌==◌, ℕ, None, Some, Result, Err, if◌then◌else◌}
use Rattle.pf_context.specs.declared.error.ContextError.{ContextError}
use Rattle.pf_context.specs.declared.error.ContextError.TheVariants as errors
use Rattle.pf_context.specs.declared.numbers.Material.{Material}
use Rattle.pf_c.specs.declared.scenes.PfMaterial.{PfMaterial}
use Rattle.pf_c.specs.declared.scenes.TheConstants.{PF_NOBODY}

-- the material of a body
abbrev pub material_of : PfMaterial → Material
material_of m = record {
  owner = if m.owner == PF_NOBODY then None else Some m.owner;
  mass = m.mass;
  friction = m.friction;
}

-- the number of the line that is invalid, and else what was there
abbrev pub invalid_line : {A : Type 0} → ℕ → Result A ContextError → ℕ
invalid_line old (Err (errors.Line number fault)) = number
invalid_line old other = old
