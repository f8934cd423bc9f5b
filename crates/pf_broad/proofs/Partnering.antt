-- Which bodies are found in the cells of a range, one cell more at a time.
use Rattle.std.proofs.Common.{◌≡◌, ℕ, zero, suc, ◌+◌, ◌<◌, ℤ, pos, ◌+ℤ◌, ◌≤ℤ◌, Bool, true, false, not, ◌&&◌, ◌||◌, List, [], ◌∷◌, ◌++◌, length, nat_lt, unwrap_or, refl, sym, ap, ◌∙◌, subst, arith, ⊎_elim}
use Rattle.std.specs.List.{range_with_len, filter, All, AllByRecursion}
use Rattle.std.proofs.lemmas.Bool.{cases_lt, and_parts}
use Rattle.std.proofs.lemmas.Int.{ints}
use Rattle.std.proofs.lemmas.List.{get_or_past}
use Rattle.std.proofs.lemmas.List.Elements.{All-get_or, All-filter, All-from_recursion}
use Rattle.std.proofs.lemmas.List.Folds.{list_any-append}
use Rattle.pf_shapes.specs.Bounds.{Bounds, IsOrdered}
use Rattle.pf_broad.specs.declared.cell.Cell.{Cell}
use Rattle.pf_broad.specs.declared.cell.CellRange.{CellRange}
use Rattle.pf_broad.specs.Pairs.{no_bounds, bounds_at, may_touch, is_pair}
use Rattle.pf_broad.specs.Cell.{cells_of, is_between, is_wide}
use Rattle.pf_broad.specs.Grid.{Grid, IsGridOf, bodies_in, is_listed, members, unless_empty}
use Rattle.pf_broad.specs.Partners.{has_body, is_found, is_found_in_column, share_row, AreBodies}
use Rattle.pf_broad.proofs.Ranges.{has_body-filter, has_body-below}
use Rattle.pf_broad.proofs.Intervals.{crossed, crossed-start, crossed-more, crossed-end}
use Rattle.pf_broad.proofs.CellNumbers.{cells_in_order, share_cell-may_touch}

no_bounds-IsOrdered : IsOrdered no_bounds
no_bounds-IsOrdered = record { x = omega (arith, ints); y = omega (arith, ints) }

-- bounds are in order, also those of a number without a body
bounds_at-IsOrdered : (bs : List Bounds) → All IsOrdered bs → (j : ℕ) → IsOrdered (bounds_at bs j)
bounds_at-IsOrdered bs ordered j =
    ⊎_elim
    (λ (within : j < length bs). All-get_or IsOrdered bs j no_bounds within ordered)
    (λ past. subst IsOrdered (sym (get_or_past bs j no_bounds past)) no_bounds-IsOrdered)
    (cases_lt j (length bs))

-- so are their cells
pub cells_at-in_order : (bs : List Bounds) → All IsOrdered bs → (j : ℕ) → let r = cells_of (bounds_at bs j) in (r.left ≤ℤ r.right) × (r.bottom ≤ℤ r.top)
cells_at-in_order bs ordered j = cells_in_order (bounds_at bs j) (cells_of (bounds_at bs j)) refl (bounds_at-IsOrdered bs ordered j)

unless_empty-or_empty : (xs : List ℕ) → unwrap_or (unless_empty xs) [] ≡ xs
unless_empty-or_empty [] = refl
unless_empty-or_empty (x ∷ xs) = refl

-- what a grid lists in a cell
pub bodies_in-members : (bs : List Bounds) (g : Grid) (c : Cell) → IsGridOf bs g → bodies_in g c ≡ members bs c
bodies_in-members bs g c is = ap (λ o. unwrap_or o []) (is.cells c) ∙ unless_empty-or_empty (members bs c)

range_within : (a n m : ℕ) → a + n ≡ m → AllByRecursion (λ k. k < m) (range_with_len a n)
range_within a zero m e = tt
range_within a (suc n) m e = (omega arith, range_within (a + 1) n m (omega arith))

-- a filter of the range of bodies has bodies only
pub filter-AreBodies : (bs : List Bounds) (p : ℕ → Bool) (xs : List ℕ) → xs ≡ filter p (range_with_len 0 (length bs)) → AreBodies bs xs
filter-AreBodies bs p xs is =
    let P : List ℕ → Type 0 = λ l. AreBodies bs l in
    subst P (sym is) (All-filter p (λ k. k < length bs) _ (All-from_recursion (λ k. k < length bs) _ (range_within 0 (length bs) (length bs) (omega arith))))

-- a list with more bodies, those of a filter of the range that body i may touch
pub has_body-more : (bs : List Bounds) (i j : ℕ) (p : ℕ → Bool) (old new others : List ℕ) → new ≡ old ++ filter (is_pair bs i) others → others ≡ filter p (range_with_len 0 (length bs))
    → has_body new j ≡ (has_body old j || (is_pair bs i j && (p j && nat_lt j (length bs))))
has_body-more bs i j p old new others more is =
    ap (λ l. has_body l j) (more ∙ ap (λ l. old ++ filter (is_pair bs i) l) is)
    ∙ list_any-append _ old (filter (is_pair bs i) (filter p (range_with_len 0 (length bs))))
    ∙ ap (λ b. has_body old j || b) (has_body-filter (is_pair bs i) (filter p (range_with_len 0 (length bs))) j
    ∙ ap (λ b. is_pair bs i j && b) (has_body-filter p (range_with_len 0 (length bs)) j
    ∙ ap (λ b. p j && b) (has_body-below (length bs) j)))

-- a body is listed in a cell of column x from row low on, before the next row
abbrev pub is_found_below : List Bounds → ℤ → ℤ → ℤ → ℕ → Bool
is_found_below bs x low next j =
    let s = cells_of (bounds_at bs j) in
    nat_lt j (length bs) && (not (is_wide (bounds_at bs j)) && (is_between s.left s.right x && crossed low next s.bottom s.top))

pub and-false : (b : Bool) → (b && false) ≡ false
and-false true = refl
and-false false = refl

pub and-true : (b : Bool) → (b && true) ≡ b
and-true true = refl
and-true false = refl

or-false : (b : Bool) → b ≡ (b || false)
or-false true = refl
or-false false = refl

one_row : (h p n w x c d : Bool) → ((h || (p && (n && (w && (x && c))))) || (p && ((w && (x && d)) && n))) ≡ (h || (p && (n && (w && (x && (c || d))))))
one_row true p n w x c d = refl
one_row false false n w x c d = refl
one_row false true false w x c d = and-false (w && (x && d))
one_row false true true false x c d = refl
one_row false true true true false c d = refl
one_row false true true true true c d = ap (λ b. c || b) (and-true d)

nothing_more : (h p n w x : Bool) → h ≡ (h || (p && (n && (w && (x && false)))))
nothing_more true p n w x = refl
nothing_more false false n w x = refl
nothing_more false true false w x = refl
nothing_more false true true false x = refl
nothing_more false true true true x = sym (and-false x)

pub rows-start : (bs : List Bounds) (i j : ℕ) (x low : ℤ) (h : Bool) → h ≡ (h || (is_pair bs i j && is_found_below bs x low low j))
rows-start bs i j x low h =
    let s = cells_of (bounds_at bs j) in
    rw (crossed-start low s.bottom s.top) (nothing_more h (is_pair bs i j) (nat_lt j (length bs)) (not (is_wide (bounds_at bs j))) (is_between s.left s.right x))

-- one row more of a column
pub rows-more : (bs : List Bounds) → All IsOrdered bs → (i j : ℕ) (x low y : ℤ) (h : Bool) → low ≤ℤ y
    → ((h || (is_pair bs i j && is_found_below bs x low y j)) || (is_pair bs i j && (is_listed bs (record { x = x; y = y }) j && nat_lt j (length bs))))
    ≡ (h || (is_pair bs i j && is_found_below bs x low (y +ℤ pos 1) j))
rows-more bs ordered i j x low y h from =
    let s = cells_of (bounds_at bs j) in
    one_row h (is_pair bs i j) (nat_lt j (length bs)) (not (is_wide (bounds_at bs j))) (is_between s.left s.right x) (crossed low y s.bottom s.top) (is_between s.bottom s.top y)
    ∙ ap (λ b. h || (is_pair bs i j && (nat_lt j (length bs) && (not (is_wide (bounds_at bs j)) && (is_between s.left s.right x && b)))))
    (sym (crossed-more low y s.bottom s.top from ((cells_at-in_order bs ordered j).1)))

-- all rows of a column
pub rows-end : (bs : List Bounds) → All IsOrdered bs → (r : CellRange) (j : ℕ) (x : ℤ) → r.bottom ≤ℤ r.top
    → is_found_below bs x r.bottom (r.top +ℤ pos 1) j ≡ is_found_in_column bs x r j
rows-end bs ordered r j x order =
    let s = cells_of (bounds_at bs j) in
    ap (λ b. nat_lt j (length bs) && (not (is_wide (bounds_at bs j)) && (is_between s.left s.right x && b)))
    (crossed-end r.bottom r.top s.bottom s.top order ((cells_at-in_order bs ordered j).1))

-- a body is listed in a cell of the range that is in a column from its first on, before the next
abbrev pub is_found_left : List Bounds → CellRange → ℤ → ℕ → Bool
is_found_left bs r next j =
    let s = cells_of (bounds_at bs j) in
    nat_lt j (length bs) && (not (is_wide (bounds_at bs j)) && (crossed r.left next s.left s.right && share_row r s))

one_column : (h p n w c d r : Bool) → ((h || (p && (n && (w && (c && r))))) || (p && (n && (w && (d && r))))) ≡ (h || (p && (n && (w && ((c || d) && r)))))
one_column true p n w c d r = refl
one_column false false n w c d r = refl
one_column false true false w c d r = refl
one_column false true true false c d r = refl
one_column false true true true true true true = refl
one_column false true true true true true false = refl
one_column false true true true true false true = refl
one_column false true true true true false false = refl
one_column false true true true false d r = refl

no_column : (h p n w r : Bool) → h ≡ (h || (p && (n && (w && (false && r)))))
no_column true p n w r = refl
no_column false false n w r = refl
no_column false true false w r = refl
no_column false true true false r = refl
no_column false true true true r = refl

pub columns-start : (bs : List Bounds) (i j : ℕ) (r : CellRange) (h : Bool) → h ≡ (h || (is_pair bs i j && is_found_left bs r r.left j))
columns-start bs i j r h =
    let s = cells_of (bounds_at bs j) in
    rw (crossed-start r.left s.left s.right) (no_column h (is_pair bs i j) (nat_lt j (length bs)) (not (is_wide (bounds_at bs j))) (share_row r s))

-- one column more
pub columns-more : (bs : List Bounds) → All IsOrdered bs → (i j : ℕ) (r : CellRange) (x : ℤ) (h : Bool) → r.left ≤ℤ x
    → ((h || (is_pair bs i j && is_found_left bs r x j)) || (is_pair bs i j && is_found_in_column bs x r j))
    ≡ (h || (is_pair bs i j && is_found_left bs r (x +ℤ pos 1) j))
columns-more bs ordered i j r x h from =
    let s = cells_of (bounds_at bs j) in
    one_column h (is_pair bs i j) (nat_lt j (length bs)) (not (is_wide (bounds_at bs j))) (crossed r.left x s.left s.right) (is_between s.left s.right x) (share_row r s)
    ∙ ap (λ b. h || (is_pair bs i j && (nat_lt j (length bs) && (not (is_wide (bounds_at bs j)) && (b && share_row r s)))))
    (sym (crossed-more r.left x s.left s.right from ((cells_at-in_order bs ordered j).0)))

-- all columns
pub columns-end : (bs : List Bounds) → All IsOrdered bs → (r : CellRange) (j : ℕ) → r.left ≤ℤ r.right → is_found_left bs r (r.right +ℤ pos 1) j ≡ is_found bs r j
columns-end bs ordered r j order =
    let s = cells_of (bounds_at bs j) in
    ap (λ b. nat_lt j (length bs) && (not (is_wide (bounds_at bs j)) && (b && share_row r s)))
    (crossed-end r.left r.right s.left s.right order ((cells_at-in_order bs ordered j).0))

everywhere : (p n w s : Bool) → (p ≡ true → s ≡ true) → ((p && (n && (not w && s))) || (p && (w && n))) ≡ (p && n)
everywhere false n w s h = refl
everywhere true n true s h = elim n as (λ b. ((b && false) || b) ≡ b) [ true ↦ refl | false ↦ refl ]
everywhere true n false s h = rw (h refl) (elim n as (λ b. ((b && true) || false) ≡ b) [ true ↦ refl | false ↦ refl ])

-- who is found in the cells of a body or among the wide bodies
pub found_everywhere : (bs : List Bounds) (i j : ℕ) (r : CellRange) → r ≡ cells_of (bounds_at bs i)
    → ((is_pair bs i j && is_found bs r j) || (is_pair bs i j && (is_wide (bounds_at bs j) && nat_lt j (length bs)))) ≡ (is_pair bs i j && nat_lt j (length bs))
found_everywhere bs i j r is =
    rw is
    (everywhere (is_pair bs i j) (nat_lt j (length bs)) (is_wide (bounds_at bs j)) _
    (λ pair. share_cell-may_touch (bounds_at bs i) (bounds_at bs j) ((and_parts (nat_lt i j) (may_touch (bounds_at bs i) (bounds_at bs j)) pair).1)))
