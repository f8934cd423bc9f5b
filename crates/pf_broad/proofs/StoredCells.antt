-- The cells that are stored, against the map that they are seen as.
use Rattle.std.proofs.Common.{◌≡◌, ℕ, true, false, cond, ◌&&◌, List, [], ◌∷◌, map, Some, unwrap_or, refl, sym, ap, ◌∙◌}
use Rattle.std.specs.Ordering.{is_eq, int_cmp, ordering_then}
use Rattle.std.specs.declared.cmp.Ordering.{Ordering}
use Rattle.std.specs.declared.cmp.Ordering.TheVariants.{Less, Equal, Greater}
use Rattle.std.specs.Cmp.{IsTotalOrder}
use Rattle.std.specs.Option.{option_map}
use Rattle.std.specs.Map.{lookup}
use Rattle.std.specs.FinMap.{get, get-from_entries, find}
use Rattle.std.proofs.lemmas.Cmp.{int_cmp_total, on_total, then_total}
use Rattle.smallvec.specs.SmallVec.{SmallVec}
use Rattle.pf_broad.specs.declared.cell.Cell.{Cell}
use Rattle.pf_broad.specs.Cell.{cell_cmp}
use Rattle.pf_broad.specs.Grid.{Grid, bodies_in}
use Rattle.pf_broad.specs.Stored.{Cells, cell_eq, stored_in, stored_cells}

cell_cmp_total : IsTotalOrder cell_cmp
cell_cmp_total = then_total (on_total (λ c. c.x) int_cmp_total) (on_total (λ c. c.y) int_cmp_total)

-- equal by both of two orders
both_equal : (o p : Ordering) → is_eq (ordering_then o p) ≡ (is_eq o && is_eq p)
both_equal Less p = refl
both_equal Equal p = refl
both_equal Greater p = refl

find-stored : (es : List (Cell × SmallVec ℕ)) (q : Cell)
    → find cell_cmp q (map (λ e. (e.0, e.1.items)) es) ≡ option_map (λ v. v.items) (lookup (cell_eq q) es)
find-stored [] q = refl
find-stored (e ∷ es) q =
    rw (both_equal (int_cmp q.x e.0.x) (int_cmp q.y e.0.y))
    (elim (cell_eq q e.0) as (λ b. cond b (Some e.1.items) (find cell_cmp q (map (λ (f : Cell × SmallVec ℕ). (f.0, f.1.items)) es))
    ≡ option_map (λ (v : SmallVec ℕ). v.items) (cond b (Some e.1) (lookup (cell_eq q) es))) [
      | true ↦ refl
      | false ↦ find-stored es q
    ])

pub get-stored_cells : (cells : Cells) (q : Cell) → get (stored_cells cells) q ≡ stored_in cells q
get-stored_cells cells q = get-from_entries cell_cmp_total _ q ∙ find-stored cells.entries q

-- what is stored for a cell is what the grid has there
pub bodies_in-stored : (g : Grid) (cells : Cells) (q : Cell) → stored_cells cells ≡ g.cells → unwrap_or (stored_in cells q) [] ≡ bodies_in g q
bodies_in-stored g cells q is = sym (ap (λ o. unwrap_or o []) (get-stored_cells cells q)) ∙ ap (λ m. unwrap_or (get m q) []) is
