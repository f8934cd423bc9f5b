-- Transposes of tables.
use Rattle.std.proofs.Common.{◌≡◌, ◌≢◌, ◌∙◌, ℕ, zero, suc, ◌+◌, ◌<◌, List, [], ◌∷◌, ap, ap₂, arith, drop, get_or, length, refl, subst, sym}
use Rattle.std.proofs.lemmas.Bool.Decides.{nat_tests}
use Rattle.std.proofs.lemmas.List.{length-drop, length-map}
use Rattle.std.proofs.lemmas.List.Elements.{All-cons, All-head, All-map, All-tail}
use Rattle.std.specs.List.{AllZip}
use Rattle.std.specs.Global.{Global}
use Rattle.std.specs.Prelude.{All, Vec, remove, option_and_then, slice_get}
use Rattle.pf_sessions.specs.Links.{table_rows}
use Rattle.pf_sessions.specs.Table.{IsTable, entry_of, first_entries, other_entries, entry_place, transpose, transpose_of, with_entries}

next_place : (a b : ℕ) → a ≢ b → entry_place (suc a) (suc b) ≡ suc (entry_place a b)
next_place a b other = grind (arith, nat_tests)

front_place : (b : ℕ) → entry_place (suc b) 0 ≡ 0
front_place b = grind (arith, nat_tests)

first_place : (b : ℕ) → entry_place 0 (suc b) ≡ b
first_place b = grind (arith, nat_tests)

module _ {X : Type 0} where
  -- each row has fewer entries by one than this
  abbrev pub IsWide : ℕ → List (List X) → Type 0
  IsWide n rows = All (λ row. length row + 1 ≡ n) rows

  abbrev pub HaveEntries : List (List X) → Type 0
  HaveEntries rows = All (λ row. 0 < length row) rows

  -- rows of a table behind its first one have entries
  have_entries : (m : ℕ) (rows : List (List X)) → length rows ≡ m → IsWide (suc m) rows → HaveEntries rows
  have_entries m rows long wide k d low = omega (arith, long, low, wide k d low)

  pub first_long : (rows : List (List X)) → HaveEntries rows → length (first_entries rows) ≡ length rows
  first_long [] have = refl
  first_long ([] ∷ rows) have = absurd (omega (arith, All-head (λ (row : List X). 0 < length row) [] rows have))
  first_long ((x ∷ row) ∷ rows) have = ap suc (first_long rows (All-tail (λ (row : List X). 0 < length row) (x ∷ row) rows have))

  pub others_wide : (m : ℕ) (rows : List (List X)) → length rows ≡ m → IsWide (suc m) rows → IsWide m (other_entries rows)
  others_wide m rows long wide =
      All-map (λ (row : List X). length row + 1 ≡ m) (drop 1) rows
      (λ k d low. omega (arith, long, low, wide k d low, length-drop 1 (get_or rows k d)))

  pub length-other_entries : (rows : List (List X)) → length (other_entries rows) ≡ length rows
  length-other_entries [] = refl
  length-other_entries (row ∷ rows) = ap suc (length-other_entries rows)

  pub length-with_entries : (xs : List X) (rows : List (List X)) → length xs ≡ length rows → length (with_entries xs rows) ≡ length rows
  length-with_entries [] [] same = refl
  length-with_entries [] (row ∷ rows) same = absurd (omega (arith, same))
  length-with_entries (x ∷ xs) [] same = refl
  length-with_entries (x ∷ xs) (row ∷ rows) same = ap suc (length-with_entries xs rows (omega (arith, same)))

  with_wide : (m : ℕ) (xs : List X) (rows : List (List X)) → length xs ≡ length rows → IsWide m rows → IsWide (suc m) (with_entries xs rows)
  with_wide m [] [] same wide = λ k d low. absurd (omega (arith, low))
  with_wide m [] (row ∷ rows) same wide = absurd (omega (arith, same))
  with_wide m (x ∷ xs) [] same wide = absurd (omega (arith, same))
  with_wide m (x ∷ xs) (row ∷ rows) same wide =
      let P : List X → Type 0 = λ r. length r + 1 ≡ suc m in
      let Q : List X → Type 0 = λ r. length r + 1 ≡ m in
      All-cons P (x ∷ row) (with_entries xs rows) (omega (arith, All-head Q row rows wide))
      (with_wide m xs rows (omega (arith, same)) (All-tail Q row rows wide))

  tail_wide : (n : ℕ) (row : List X) (rows : List (List X)) → IsWide n (row ∷ rows) → IsWide n rows
  tail_wide n row rows wide = All-tail (λ (r : List X). length r + 1 ≡ n) row rows wide

  head_wide : (m : ℕ) (row : List X) (rows : List (List X)) → IsWide (suc m) (row ∷ rows) → length row ≡ m
  head_wide m row rows wide = omega (arith, All-head (λ (r : List X). length r + 1 ≡ suc m) row rows wide)

  pub length-transpose_of : (n : ℕ) (rows : List (List X)) → length rows ≡ n → IsWide n rows → length (transpose_of n rows) ≡ n
  unfolding transpose_of
  length-transpose_of zero rows long wide = refl
  length-transpose_of (suc m) [] long wide = absurd (omega (arith, long))
  length-transpose_of (suc m) (row ∷ rows) long wide =
      let others = other_entries rows in
      let few : length rows ≡ m = omega (arith, long) in
      let inner : length (transpose_of m others) ≡ m =
      length-transpose_of m others (length-other_entries rows ∙ few) (others_wide m rows few (tail_wide (suc m) row rows wide)) in
      ap suc (length-with_entries row (transpose_of m others) (head_wide m row rows wide ∙ sym inner) ∙ inner)

  pub wide_transpose_of : (n : ℕ) (rows : List (List X)) → length rows ≡ n → IsWide n rows → IsWide n (transpose_of n rows)
  unfolding transpose_of
  wide_transpose_of zero rows long wide = λ k d low. absurd (omega (arith, low))
  wide_transpose_of (suc m) [] long wide = absurd (omega (arith, long))
  wide_transpose_of (suc m) (row ∷ rows) long wide =
      let others = other_entries rows in
      let few : length rows ≡ m = omega (arith, long) in
      let P : List X → Type 0 = λ r. length r + 1 ≡ suc m in
      let many = length-other_entries rows ∙ few in
      let rest_wide = others_wide m rows few (tail_wide (suc m) row rows wide) in
      let inner : length (transpose_of m others) ≡ m = length-transpose_of m others many rest_wide in
      All-cons P (first_entries rows) (with_entries row (transpose_of m others))
      (omega (arith, few, first_long rows (have_entries m rows few (tail_wide (suc m) row rows wide))))
      (with_wide m row (transpose_of m others) (head_wide m row rows wide ∙ sym inner) (wide_transpose_of m others many rest_wide))

  -- ---- taking entries off, and adding them

  first_with : (xs : List X) (rows : List (List X)) → length xs ≡ length rows → first_entries (with_entries xs rows) ≡ xs
  first_with [] rows same = refl
  first_with (x ∷ xs) [] same = absurd (omega (arith, same))
  first_with (x ∷ xs) (row ∷ rows) same = ap (λ l. x ∷ l) (first_with xs rows (omega (arith, same)))

  other_with : (xs : List X) (rows : List (List X)) → length xs ≡ length rows → other_entries (with_entries xs rows) ≡ rows
  other_with [] [] same = refl
  other_with [] (row ∷ rows) same = absurd (omega (arith, same))
  other_with (x ∷ xs) [] same = absurd (omega (arith, same))
  other_with (x ∷ xs) (row ∷ rows) same = ap (λ l. row ∷ l) (other_with xs rows (omega (arith, same)))

  with_first_and_other : (rows : List (List X)) → HaveEntries rows → with_entries (first_entries rows) (other_entries rows) ≡ rows
  with_first_and_other [] have = refl
  with_first_and_other ([] ∷ rows) have = absurd (omega (arith, All-head (λ (row : List X). 0 < length row) [] rows have))
  with_first_and_other ((x ∷ row) ∷ rows) have =
      ap (λ l. (x ∷ row) ∷ l) (with_first_and_other rows (All-tail (λ (row : List X). 0 < length row) (x ∷ row) rows have))

  -- ---- the transpose of a transpose

  back : (n : ℕ) (rows : List (List X)) → length rows ≡ n → IsWide n rows → transpose_of n (transpose_of n rows) ≡ rows
  unfolding transpose_of
  back zero [] long wide = refl
  back zero (row ∷ rows) long wide = absurd (omega (arith, long))
  back (suc m) [] long wide = absurd (omega (arith, long))
  back (suc m) (row ∷ rows) long wide =
      let others = other_entries rows in
      let few : length rows ≡ m = omega (arith, long) in
      let wide_rows = tail_wide (suc m) row rows wide in
      let many = length-other_entries rows ∙ few in
      let rest_wide = others_wide m rows few wide_rows in
      let inner : length (transpose_of m others) ≡ m = length-transpose_of m others many rest_wide in
      let fits : length row ≡ length (transpose_of m others) = head_wide m row rows wide ∙ sym inner in
      ap₂ (λ first rest. first ∷ rest) (first_with row (transpose_of m others) fits)
      (ap (λ t. with_entries (first_entries rows) (transpose_of m t)) (other_with row (transpose_of m others) fits)
      ∙ ap (with_entries (first_entries rows)) (back m others many rest_wide)
      ∙ with_first_and_other rows (have_entries m rows few wide_rows))

  pub length-transpose : (rows : List (List X)) → IsTable rows → length (transpose rows) ≡ length rows
  length-transpose rows table = length-transpose_of (length rows) rows refl table

  pub table-transpose : (rows : List (List X)) → IsTable rows → IsTable (transpose rows)
  table-transpose rows table =
      subst (λ n. IsWide n (transpose rows)) (sym (length-transpose rows table)) (wide_transpose_of (length rows) rows refl table)

  pub transpose-transpose : (rows : List (List X)) → IsTable rows → transpose (transpose rows) ≡ rows
  transpose-transpose rows table =
      ap (λ n. transpose_of n (transpose rows)) (length-transpose rows table) ∙ back (length rows) rows refl table

  -- ---- a table by its first row and the others

  module _ (row : List X) (rows : List (List X)) (table : IsTable (row ∷ rows)) where
    wide_others : IsWide (suc (length rows)) rows
    wide_others = tail_wide (suc (length rows)) row rows table

    pub others_have : HaveEntries rows
    others_have = have_entries (length rows) rows refl wide_others

    pub others_table : IsTable (other_entries rows)
    others_table =
        subst (λ n. IsWide n (other_entries rows)) (sym (length-other_entries rows)) (others_wide (length rows) rows refl wide_others)

    pub row_fits : length row ≡ length (transpose (other_entries rows))
    row_fits =
        head_wide (length rows) row rows table
        ∙ sym (length-transpose (other_entries rows) others_table ∙ length-other_entries rows)

    pub transpose_split : transpose (row ∷ rows) ≡ first_entries rows ∷ with_entries row (transpose (other_entries rows))
    unfolding transpose_of
    transpose_split =
        ap (λ n. first_entries rows ∷ with_entries row (transpose_of n (other_entries rows))) (sym (length-other_entries rows))

  -- ---- what a peer has for another one

  at_front : (xs : List X) (rows : List (List X)) (b : ℕ) → length xs ≡ length rows
      → option_and_then (λ row. slice_get row 0) (slice_get (with_entries xs rows) b) ≡ slice_get xs b
  at_front [] rows b same = refl
  at_front (x ∷ xs) [] b same = absurd (omega (arith, same))
  at_front (x ∷ xs) (row ∷ rows) zero same = refl
  at_front (x ∷ xs) (row ∷ rows) (suc b) same = at_front xs rows b (omega (arith, same))

  behind_front : (xs : List X) (rows : List (List X)) (b p : ℕ) → length xs ≡ length rows
      → option_and_then (λ row. slice_get row (suc p)) (slice_get (with_entries xs rows) b) ≡ option_and_then (λ row. slice_get row p) (slice_get rows b)
  behind_front [] [] b p same = refl
  behind_front [] (row ∷ rows) b p same = absurd (omega (arith, same))
  behind_front (x ∷ xs) [] b p same = absurd (omega (arith, same))
  behind_front (x ∷ xs) (row ∷ rows) zero p same = refl
  behind_front (x ∷ xs) (row ∷ rows) (suc b) p same = behind_front xs rows b p (omega (arith, same))

  first_at : (rows : List (List X)) (a : ℕ) → HaveEntries rows
      → slice_get (first_entries rows) a ≡ option_and_then (λ row. slice_get row 0) (slice_get rows a)
  first_at [] a have = refl
  first_at ([] ∷ rows) a have = absurd (omega (arith, All-head (λ (row : List X). 0 < length row) [] rows have))
  first_at ((x ∷ row) ∷ rows) zero have = refl
  first_at ((x ∷ row) ∷ rows) (suc a) have = first_at rows a (All-tail (λ (row : List X). 0 < length row) (x ∷ row) rows have)

  later_entry : (row : List X) (p : ℕ) → slice_get (drop 1 row) p ≡ slice_get row (suc p)
  later_entry [] p = refl
  later_entry (x ∷ row) p = refl

  other_at : (rows : List (List X)) (a p : ℕ)
      → option_and_then (λ row. slice_get row p) (slice_get (other_entries rows) a) ≡ option_and_then (λ row. slice_get row (suc p)) (slice_get rows a)
  other_at [] a p = refl
  other_at (row ∷ rows) zero p = later_entry row p
  other_at (row ∷ rows) (suc a) p = other_at rows a p

  exchanged : (n : ℕ) (rows : List (List X)) (a b : ℕ) → length rows ≡ n → IsWide n rows → a ≢ b → a < n → b < n
      → entry_of (transpose_of n rows) b a ≡ entry_of rows a b
  unfolding transpose_of
  exchanged zero rows a b long wide other low_a low_b = absurd (omega (arith, low_a))
  exchanged (suc m) [] a b long wide other low_a low_b = absurd (omega (arith, long))
  exchanged (suc m) (row ∷ rows) zero zero long wide other low_a low_b = absurd (other refl)
  exchanged (suc m) (row ∷ rows) zero (suc b) long wide other low_a low_b =
      let others = other_entries rows in
      let few : length rows ≡ m = omega (arith, long) in
      let inner : length (transpose_of m others) ≡ m =
      length-transpose_of m others (length-other_entries rows ∙ few) (others_wide m rows few (tail_wide (suc m) row rows wide)) in
      ap (λ p. option_and_then (λ r. slice_get r p) (slice_get (with_entries row (transpose_of m others)) b)) (front_place b)
      ∙ at_front row (transpose_of m others) b (head_wide m row rows wide ∙ sym inner)
      ∙ ap (slice_get row) (sym (first_place b))
  exchanged (suc m) (row ∷ rows) (suc a) zero long wide other low_a low_b =
      let few : length rows ≡ m = omega (arith, long) in
      ap (slice_get (first_entries rows)) (first_place a)
      ∙ first_at rows a (have_entries m rows few (tail_wide (suc m) row rows wide))
      ∙ ap (λ p. option_and_then (λ r. slice_get r p) (slice_get rows a)) (sym (front_place a))
  exchanged (suc m) (row ∷ rows) (suc a) (suc b) long wide other low_a low_b =
      let others = other_entries rows in
      let few : length rows ≡ m = omega (arith, long) in
      let many = length-other_entries rows ∙ few in
      let rest_wide = others_wide m rows few (tail_wide (suc m) row rows wide) in
      let inner : length (transpose_of m others) ≡ m = length-transpose_of m others many rest_wide in
      let T = transpose_of m others in
      let apart : a ≢ b = λ same. other (ap suc same) in
      ap (λ p. option_and_then (λ r. slice_get r p) (slice_get (with_entries row T) b)) (next_place b a (λ same. apart (sym same)))
      ∙ behind_front row T b (entry_place b a) (head_wide m row rows wide ∙ sym inner)
      ∙ exchanged m others a b many rest_wide apart (omega (arith, low_a)) (omega (arith, low_b))
      ∙ other_at rows a (entry_place a b)
      ∙ ap (λ p. option_and_then (λ r. slice_get r p) (slice_get rows a)) (sym (next_place a b apart))

  pub entries_exchanged : (rows : List (List X)) (own other : ℕ) → IsTable rows → own ≢ other → own < length rows → other < length rows
      → entry_of (transpose rows) other own ≡ entry_of rows own other
  entries_exchanged rows own other table apart low_own low_other = exchanged (length rows) rows own other refl table apart low_own low_other

-- ---- tables whose entries are related

module _ {X Y : Type 0} (R : X → Y → Type 0) where
  first_zip : (rows : List (List X)) (others : List (List Y)) → AllZip (AllZip R) rows others → AllZip R (first_entries rows) (first_entries others)
  first_zip [] [] each = tt
  first_zip [] (other ∷ others) each = absurd each
  first_zip (row ∷ rows) [] each = absurd each
  first_zip ([] ∷ rows) ([] ∷ others) each = first_zip rows others each.1
  first_zip ([] ∷ rows) ((y ∷ other) ∷ others) each = absurd each.0
  first_zip ((x ∷ row) ∷ rows) ([] ∷ others) each = absurd each.0
  first_zip ((x ∷ row) ∷ rows) ((y ∷ other) ∷ others) each = (each.0.0, first_zip rows others each.1)

  drop_zip : (row : List X) (other : List Y) → AllZip R row other → AllZip R (drop 1 row) (drop 1 other)
  drop_zip [] [] each = tt
  drop_zip [] (y ∷ other) each = absurd each
  drop_zip (x ∷ row) [] each = absurd each
  drop_zip (x ∷ row) (y ∷ other) each = each.1

  other_zip : (rows : List (List X)) (others : List (List Y)) → AllZip (AllZip R) rows others → AllZip (AllZip R) (other_entries rows) (other_entries others)
  other_zip [] [] each = tt
  other_zip [] (other ∷ others) each = absurd each
  other_zip (row ∷ rows) [] each = absurd each
  other_zip (row ∷ rows) (other ∷ others) each = (drop_zip row other each.0, other_zip rows others each.1)

  with_zip : (xs : List X) (ys : List Y) (rows : List (List X)) (others : List (List Y)) → AllZip R xs ys → AllZip (AllZip R) rows others
      → AllZip (AllZip R) (with_entries xs rows) (with_entries ys others)
  with_zip [] [] rows others first each = tt
  with_zip [] (y ∷ ys) rows others first each = absurd first
  with_zip (x ∷ xs) [] rows others first each = absurd first
  with_zip (x ∷ xs) (y ∷ ys) [] [] first each = tt
  with_zip (x ∷ xs) (y ∷ ys) [] (other ∷ others) first each = absurd each
  with_zip (x ∷ xs) (y ∷ ys) (row ∷ rows) [] first each = absurd each
  with_zip (x ∷ xs) (y ∷ ys) (row ∷ rows) (other ∷ others) first each = ((first.0, each.0), with_zip xs ys rows others first.1 each.1)

  zip_of : (n : ℕ) (rows : List (List X)) (others : List (List Y)) → AllZip (AllZip R) rows others → AllZip (AllZip R) (transpose_of n rows) (transpose_of n others)
  unfolding transpose_of
  zip_of zero rows others each = tt
  zip_of (suc m) [] [] each = tt
  zip_of (suc m) [] (other ∷ others) each = absurd each
  zip_of (suc m) (row ∷ rows) [] each = absurd each
  zip_of (suc m) (row ∷ rows) (other ∷ others) each = (
    first_zip rows others each.1,
    with_zip row other (transpose_of m (other_entries rows)) (transpose_of m (other_entries others)) each.0
        (zip_of m (other_entries rows) (other_entries others) (other_zip rows others each.1)),
  )

  length_zip : (xs : List X) (ys : List Y) → AllZip R xs ys → length xs ≡ length ys
  length_zip [] [] each = refl
  length_zip [] (y ∷ ys) each = absurd each
  length_zip (x ∷ xs) [] each = absurd each
  length_zip (x ∷ xs) (y ∷ ys) each = ap suc (length_zip xs ys each.1)

module _ {X Y : Type 0} (R : X → Y → Type 0) where
  pub zip-transpose : (rows : List (List X)) (others : List (List Y)) → AllZip (AllZip R) rows others → AllZip (AllZip R) (transpose rows) (transpose others)
  zip-transpose rows others each =
      subst (λ n. AllZip (AllZip R) (transpose rows) (transpose_of n others)) (length_zip (AllZip R) rows others each) (zip_of R (length rows) rows others each)

-- ---- rows as they are kept

pub transpose_none : {X : Type 0} → transpose {X = X} [] ≡ []
unfolding transpose_of
transpose_none = refl

-- what stands at the front, and the rest
pub front_and_rest : {X : Type 0} (xs : List X) (x : X) (rest : List X) → 0 < length xs → x ≡ get_or xs 0 x → rest ≡ remove xs 0 → xs ≡ x ∷ rest
front_and_rest [] x rest some first rest_is = absurd (omega (arith, some))
front_and_rest (y ∷ ys) x rest some first rest_is = ap₂ (λ z zs. z ∷ zs) (sym first) (sym rest_is)

pub rows_have : {X : Type 0} (rows : List (Vec X Global)) → HaveEntries (table_rows rows) → All (λ row. 0 < length row.items) rows
rows_have [] have = λ k d low. absurd (omega (arith, low))
rows_have {X} (row ∷ rows) have =
    let P : List X → Type 0 = λ r. 0 < length r in
    All-cons (λ (r : Vec X Global). 0 < length r.items) row rows (All-head P row.items (table_rows rows) have) (rows_have rows (All-tail P row.items (table_rows rows) have))

module _ {X : Type 0} (all : List (Vec X Global)) (first : Vec X Global) (rest : List (Vec X Global)) (split : all ≡ first ∷ rest) where
  -- the rows without their first entries are fewer
  pub others_fewer : (others : List (Vec X Global)) → table_rows others ≡ other_entries (table_rows rest) → length others < length all
  others_fewer others same =
      omega (
        arith,
        ap length split,
        sym (length-map others (λ (r : Vec X Global). r.items)) ∙ ap length same ∙ length-other_entries (table_rows rest)
            ∙ length-map rest (λ (r : Vec X Global). r.items),
      )

  -- the transpose, put together again
  pub joined : (column : List X) (others columns result : List (Vec X Global)) → IsTable (table_rows all) → column ≡ first_entries (table_rows rest)
      → table_rows others ≡ other_entries (table_rows rest) → table_rows columns ≡ transpose (table_rows others)
      → table_rows result ≡ column ∷ with_entries first.items (table_rows columns) → table_rows result ≡ transpose (table_rows all)
  joined column others columns result table column_is others_are columns_are result_is =
      let front : IsTable (first.items ∷ table_rows rest) = subst (λ l. IsTable (table_rows l)) split table in
      result_is
      ∙ ap₂ (λ c t. c ∷ with_entries first.items t) column_is (columns_are ∙ ap transpose others_are)
      ∙ sym (transpose_split first.items (table_rows rest) front)
      ∙ ap (λ l. transpose (table_rows l)) (sym split)

  pub columns_fit : (others columns : List (Vec X Global)) → IsTable (table_rows all) → table_rows others ≡ other_entries (table_rows rest)
      → table_rows columns ≡ transpose (table_rows others) → length first.items ≡ length columns
  columns_fit others columns table others_are columns_are =
      let front : IsTable (first.items ∷ table_rows rest) = subst (λ l. IsTable (table_rows l)) split table in
      row_fits first.items (table_rows rest) front
      ∙ ap length (sym (columns_are ∙ ap transpose others_are)) ∙ length-map columns (λ (r : Vec X Global). r.items)
