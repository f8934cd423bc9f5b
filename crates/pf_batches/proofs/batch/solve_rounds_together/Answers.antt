use Rattle.std.proofs.Common.{rules, ◌≡◌, ◌∙◌, ap, set, subst, sym}
use Rattle.pf_batches.specs.Islands.{AreBatches}
use Rattle.pf_batches.proofs.Parts.{stored_again}
use Rattle.pf_batches.proofs.batch.solve_rounds_together.Goals as goal

pub solve_in_lanes-requires : goal.solve_in_lanes-requires
solve_in_lanes-requires c =
    let islands = c.args.islands.now in
    let place = c.workspace_place-place.result in
    let island = c.index-islands-place.result in
    let same : set islands place c.take_workspace-workspace.new.island ≡ islands =
    ap (set islands place) c.take_workspace-workspace.ensures ∙ stored_again islands place island (search rules) in
    subst AreBatches (sym same) c.requires
