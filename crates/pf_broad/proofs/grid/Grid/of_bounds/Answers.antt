use Rattle.std.proofs.Common.{◌≡◌, ℕ, List, [], ◌∷◌, ◌++◌, length, sym, ap, ◌∙◌, arith}
use Rattle.std.proofs.lemmas.List.{get_or_read}
use Rattle.pf_broad.specs.Pairs.{no_bounds, bounds_at}
use Rattle.pf_broad.specs.Cell.{cells_of, has_cell, is_wide}
use Rattle.pf_broad.specs.Grid.{unless_empty}
use Rattle.pf_broad.specs.Stored.{stored_in, with_listed_body}
use Rattle.pf_broad.proofs.CellNumbers.{is_wide-cells}
use Rattle.pf_broad.proofs.StoredCells.{get-stored_cells}
use Rattle.pf_broad.proofs.Gridding.{first_members, first_wide, members-wide, members-listed, wide-wide, wide-listed}
use Rattle.pf_broad.proofs.grid.Grid.of_bounds.Goals as goal
use Rattle.pf_broad.proofs.grid.Grid.of_bounds.Goals.{then-is_wide+in_ok-push, else-is_wide+in_ok-add_body}

pub loop-i-preserved : goal.loop-i-preserved
loop-i-preserved c =
    let bs = c.args.bounds.now in
    let i = c.loop-i.i in
    let invariant = c.loop-i.invariant in
    let read : c.index-bounds-i.result ≡ bounds_at bs i = get_or_read bs i c.index-bounds-i.result c.loop-i-test.true c.index-bounds-i.is no_bounds in
    let cells : c.of-range.result ≡ cells_of (bounds_at bs i) = c.of-range.ensures.value ∙ ap cells_of read in
    let is : c.is_wide.result ≡ is_wide (bounds_at bs i) = c.is_wide.ensures ∙ is_wide-cells c.index-bounds-i.result c.of-range.result (bounds_at bs i) c.of-range.ensures.value read in
    elim c.if-is_wide.branch [
      | then-is_wide+in_ok-push w ↦
          let yes = sym is ∙ w.if-is_wide.true in
          rw (w.cells-is, w.wide-is, w.in_ok-push.ensures.items)
          record {
            cells = λ q. invariant.cells q ∙ members-wide bs q i yes;
            wide = ap (λ (xs : List ℕ). xs ++ i ∷ []) invariant.wide ∙ wide-wide bs i yes;
          }
      | else-is_wide+in_ok-add_body w ↦
          let no = sym is ∙ w.if-is_wide.false in
          rw (w.cells-is, w.wide-is)
          record {
            cells = λ q. w.in_ok-add_body.ensures q ∙ ap (λ r. with_listed_body (has_cell r q) i (stored_in c.loop-i.cells q)) cells ∙ ap (with_listed_body (has_cell (cells_of (bounds_at bs i)) q) i) (invariant.cells q) ∙ members-listed bs q i no;
            wide = invariant.wide ∙ wide-listed bs i no;
          }
    ]

pub returns : goal.returns
returns c =
    let bs = c.args.bounds.now in
    let all : c.loop-i.i ≡ length bs = omega arith in
    record {
      cells = λ q. get-stored_cells c.loop-i.cells q ∙ c.loop-i.invariant.cells q ∙ ap (λ n. unless_empty (first_members bs q n)) all;
      wide = c.loop-i.invariant.wide ∙ ap (first_wide bs) all;
    }
