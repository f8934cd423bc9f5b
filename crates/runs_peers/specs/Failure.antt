-- A crew that is told to fail in one of its calls.
use Rattle.std.specs.Prelude.{ℕ, ◌==◌, Option, Some, None, if◌then◌else◌}
use Rattle.pf_step.specs.declared.crew.CrewError.{CrewError}

-- the error of the call of this number, if that is the call to fail in
abbrev pub failure_at : Option (ℕ × CrewError) → ℕ → Option CrewError
failure_at None call = None
failure_at (Some m) call = if m.0 == call then Some m.1 else None
