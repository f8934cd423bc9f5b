-- Rows after the pre-step.
use Rattle.std.proofs.Common.{◌≡◌, ℕ, List, map, subst, sym}
use Rattle.std.proofs.lemmas.List.Elements.{All-map, All-weaker}
use Rattle.std.specs.Prelude.{All}
use Rattle.pf_shapes.specs.Body.{BodyState}
use Rattle.pf_shapes.specs.Scene.{Scene}
use Rattle.pf_rows.specs.Row.{IsEntryOf, Row}
use Rattle.pf_solver.specs.Solve.{prepared_row}
use Rattle.pf_islands.specs.Rows.{IsRowOf}

-- they still name bodies of the list
pub prepared_fit : (s : Scene) (bodies : List BodyState) (n : ℕ) (rows after : List Row)
    → after ≡ map (prepared_row s bodies) rows → All (IsRowOf s n) rows → All (λ r. IsEntryOf n r.entry) after
unfolding prepared_row
prepared_fit s bodies n rows after is fit =
    subst (All (λ r. IsEntryOf n r.entry)) (sym is)
    (All-map (λ r. IsEntryOf n r.entry) (prepared_row s bodies) rows
    (All-weaker (IsRowOf s n) (λ r. IsEntryOf n (prepared_row s bodies r).entry) (λ r h. h.sides) rows fit))
