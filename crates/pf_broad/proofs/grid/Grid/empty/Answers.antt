use Rattle.std.proofs.Common.{ℕ, ap, ◌∙◌}
use Rattle.std.specs.Map.{lookup}
use Rattle.std.specs.Option.{option_map}
use Rattle.smallvec.specs.SmallVec.{SmallVec}
use Rattle.pf_broad.specs.Stored.{cell_eq}
use Rattle.pf_broad.proofs.StoredCells.{get-stored_cells}
use Rattle.pf_broad.proofs.grid.Grid.empty.Goals as goal

pub returns : goal.returns
returns c = record {
  cells = λ q. get-stored_cells c.with_hasher.result q ∙ ap (λ es. option_map (λ (v : SmallVec ℕ). v.items) (lookup (cell_eq q) es)) c.with_hasher.ensures.empty;
  wide = c.new.ensures.items;
}
