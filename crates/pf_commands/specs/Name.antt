-- The names of commands.
use Rattle.std.specs.Prelude.{ℕ, ◌<◌}
use Rattle.pf_commands.specs.declared.name.TheConstants.{MAX_TICK, NUMBERS}
use Rattle.pf_shapes.specs.declared.fixture.TheConstants.{PLAYERS}

-- the tick that a command is for, the player who issues it, and its number among the player's at
-- that tick
pub record Name : Type 0 where
  pub tick : ℕ
  pub player : ℕ
  pub number : ℕ

-- the ranges of a name
pub record IsName (name : Name) : Type 0 where
  pub tick : name.tick < MAX_TICK
  pub player : name.player < PLAYERS
  pub number : name.number < NUMBERS
