-- The hash of cells. No look-up's result depends on it.
use Rattle.std.specs.Prelude.{ℕ, ◌+◌, ◌*◌, ◌%◌, ◌^◌, ◌==◌, List, length, if◌then◌else◌}
use Rattle.std.specs.Int.{w64, from_le_bytes}
use Rattle.pf_broad.specs.declared.hasher.CellHasher.{CellHasher}
use Rattle.pf_broad.specs.declared.hasher.TheConstants.{MULTIPLIER}

-- eight bytes as a number, the lowest byte first
abbrev pub number_of : List ℕ → ℕ
number_of bytes = if length bytes == 8 then from_le_bytes w64 bytes else 0

-- the state after these bytes: a sum and a product, in 64 bits
unfoldable pub write : CellHasher → List ℕ → CellHasher
write hasher bytes = record {
  state = (hasher.state + number_of bytes) % 2 ^ 64 * MULTIPLIER % 2 ^ 64;
}
