use Rattle.std.proofs.Common.{[], ℕ, ap, ◌∙◌, unwrap_or}
use Rattle.std.specs.Option.{option_map}
use Rattle.smallvec.specs.SmallVec.{SmallVec}
use Rattle.pf_broad.proofs.StoredCells.{bodies_in-stored}
use Rattle.pf_broad.proofs.grid.Grid.bodies_in.Goals as goal

pub returns-in-Some : goal.returns-in-Some
returns-in-Some c =
    c.as_slice.ensures ∙ ap (λ o. unwrap_or (option_map (λ (v : SmallVec ℕ). v.items) o) []) c.in-Some.ensures.value
    ∙ bodies_in-stored c.args.self.now c.self.inside.cells c.args.cell (ap (λ g. g.cells) c.self.view_is)

pub returns-in-None : goal.returns-in-None
returns-in-None c =
    ap (λ o. unwrap_or (option_map (λ (v : SmallVec ℕ). v.items) o) []) c.in-None.ensures.value
    ∙ bodies_in-stored c.args.self.now c.self.inside.cells c.args.cell (ap (λ g. g.cells) c.self.view_is)
