use Rattle.pf_broad.proofs.SharedCells.{cell_number-from, cell_number-below}
use Rattle.pf_broad.proofs.laws.cells_contain_their_coordinates.Goals as goal

pub returns-clause-from : goal.returns-clause-from
returns-clause-from c = cell_number-from

pub returns-clause-below : goal.returns-clause-below
returns-clause-below c = cell_number-below
