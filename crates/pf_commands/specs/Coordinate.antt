-- The x or y of a position to which a command moves a body.
use Rattle.std.specs.Prelude.{◌≤◌, ℤ, Bool, nat_le}
use Rattle.std.specs.Int.RustNames.{unsigned_abs}
use Rattle.pf_shapes.specs.declared.scene.TheConstants.{MAX_POSITION}

-- at most MAX_POSITION in magnitude, as x and y of a body's start
abbrev pub IsCoordinate : ℤ → Type 0
IsCoordinate z = unsigned_abs z ≤ unsigned_abs MAX_POSITION

-- the same as a test
abbrev pub is_coordinate : ℤ → Bool
is_coordinate z = nat_le (unsigned_abs z) (unsigned_abs MAX_POSITION)
