use Rattle.pf_broad.proofs.SharedCells.{common_cell}
use Rattle.pf_broad.proofs.laws.overlapping_bounds_share_a_cell.Goals as goal

pub returns : goal.returns
returns c = common_cell
