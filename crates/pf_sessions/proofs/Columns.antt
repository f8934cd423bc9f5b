-- What all other peers have for one, and what they have together.
use Rattle.std.proofs.Common.{◌≡◌, ◌∙◌, ℕ, zero, suc, ◌+◌, Contains, List, [], ◌∷◌, ap, ap₂, arith, length, refl, subst, sym, ⊎_elim}
use Rattle.std.proofs.lemmas.List.Elements.{All-head, All-tail, Contains-append_cases, Contains-append_left, Contains-append_right}
use Rattle.std.specs.List.{AllZip, flat_map}
use Rattle.std.specs.Prelude.{All}
use Rattle.pf_sessions.specs.Table.{IsTable, first_entries, other_entries, transpose, transpose_of, with_entries}
use Rattle.pf_scripts.proofs.Members.{SameMembers, members_append, members_refl, members_swap, members_then}
use Rattle.pf_sessions.proofs.Transposes.{IsWide, length-other_entries, length-transpose_of, others_wide}

-- ---- members of joined lists

only_member : {X : Type 0} (z x : X) → Contains (z ∷ []) x → z ≡ x
only_member z x (zero, low, is) = is
only_member z x (suc k, low, is) = absurd (omega (arith, low))

module _ {X Y : Type 0} (h : X → List Y) where
  from_joined : (xs : List X) (y : Y) → Contains (flat_map h xs) y → (x : X) × Contains xs x × Contains (h x) y
  from_joined [] y has = absurd (omega (arith, has.1))
  from_joined (x ∷ xs) y has =
      ⊎_elim (λ here. (x, Contains-append_left (x ∷ []) xs x (0, omega arith, refl), here))
      (λ later. let r = from_joined xs y later in (r.0, Contains-append_right (x ∷ []) xs r.0 r.1, r.2))
      (Contains-append_cases (h x) (flat_map h xs) y has)

  into_joined : (xs : List X) (x : X) (y : Y) → Contains xs x → Contains (h x) y → Contains (flat_map h xs) y
  into_joined [] x y has within = absurd (omega (arith, has.1))
  into_joined (z ∷ zs) x y has within =
      ⊎_elim (λ here. Contains-append_left (h z) (flat_map h zs) y (subst (λ w. Contains (h w) y) (sym (only_member z x here)) within))
      (λ later. Contains-append_right (h z) (flat_map h zs) y (into_joined zs x y later within))
      (Contains-append_cases (z ∷ []) zs x has)

  pub members_joined : (xs ys : List X) → SameMembers xs ys → SameMembers (flat_map h xs) (flat_map h ys)
  members_joined xs ys same y = (
    λ has. let r = from_joined xs y has in into_joined ys r.0 y ((same r.0).0 r.1) r.2,
    λ has. let r = from_joined ys y has in into_joined xs r.0 y ((same r.0).1 r.1) r.2,
  )

-- ---- rows of which each has one thing for all others

module _ {X : Type 0} where
  abbrev pub HasFor : X → List X → Type 0
  HasFor x row = All (λ y. y ≡ x) row

  first_same : (n : ℕ) (xs : List X) (rows : List (List X)) → IsWide (suc (suc n)) rows → AllZip HasFor xs rows → first_entries rows ≡ xs
  first_same n [] [] wide each = refl
  first_same n [] (row ∷ rows) wide each = absurd each
  first_same n (x ∷ xs) [] wide each = absurd each
  first_same n (x ∷ xs) ([] ∷ rows) wide each = absurd (omega (arith, All-head (λ (r : List X). length r + 1 ≡ suc (suc n)) [] rows wide))
  first_same n (x ∷ xs) ((y ∷ row) ∷ rows) wide each =
      ap₂ (λ z zs. z ∷ zs) (All-head (λ z. z ≡ x) y row each.0)
      (first_same n xs rows (All-tail (λ (r : List X). length r + 1 ≡ suc (suc n)) (y ∷ row) rows wide) each.1)

  others_same : (xs : List X) (rows : List (List X)) → AllZip HasFor xs rows → AllZip HasFor xs (other_entries rows)
  others_same [] [] each = tt
  others_same [] (row ∷ rows) each = absurd each
  others_same (x ∷ xs) [] each = absurd each
  others_same (x ∷ xs) ([] ∷ rows) each = (each.0, others_same xs rows each.1)
  others_same (x ∷ xs) ((y ∷ row) ∷ rows) each = (All-tail (λ z. z ≡ x) y row each.0, others_same xs rows each.1)

  length_same : (xs : List X) (rows : List (List X)) → AllZip HasFor xs rows → length xs ≡ length rows
  length_same [] [] each = refl
  length_same [] (row ∷ rows) each = absurd each
  length_same (x ∷ xs) [] each = absurd each
  length_same (x ∷ xs) (row ∷ rows) each = ap suc (length_same xs rows each.1)

  -- a column with one entry more in front
  with_front : (x : X) (row : List X) (all : List X) (xs : List X) (columns : List (List X)) → length row ≡ length columns → HasFor x row
      → AllZip (λ z column. SameMembers (z ∷ column) all) xs columns
      → AllZip (λ z column. SameMembers (z ∷ column) (x ∷ all)) xs (with_entries row columns)
  with_front x [] all [] [] same has each = tt
  with_front x [] all (z ∷ xs) [] same has each = absurd each
  with_front x [] all xs (column ∷ columns) same has each = absurd (omega (arith, same))
  with_front x (y ∷ row) all xs [] same has each = absurd (omega (arith, same))
  with_front x (y ∷ row) all [] (column ∷ columns) same has each = absurd each
  with_front x (y ∷ row) all (z ∷ xs) (column ∷ columns) same has each = (
    members_then (z ∷ y ∷ column) (y ∷ z ∷ column) (x ∷ all)
        (members_append (z ∷ y ∷ []) (y ∷ z ∷ []) column column (members_swap (z ∷ []) (y ∷ [])) (members_refl column column refl))
        (members_append (y ∷ []) (x ∷ []) (z ∷ column) all (members_refl (y ∷ []) (x ∷ []) (ap (λ w. w ∷ []) (All-head (λ w. w ≡ x) y row has))) each.0),
    with_front x row all xs columns (omega (arith, same)) (All-tail (λ w. w ≡ x) y row has) each.1,
  )

  columns_of : (n : ℕ) (xs : List X) (rows : List (List X)) → length rows ≡ n → IsWide n rows → AllZip HasFor xs rows
      → AllZip (λ x column. SameMembers (x ∷ column) xs) xs (transpose_of n rows)
  unfolding transpose_of
  columns_of zero [] rows long wide each = tt
  columns_of zero (x ∷ xs) [] long wide each = absurd each
  columns_of zero (x ∷ xs) (row ∷ rows) long wide each = absurd (omega (arith, long))
  columns_of (suc m) xs [] long wide each = absurd (omega (arith, long))
  columns_of (suc m) [] (row ∷ rows) long wide each = absurd each
  columns_of (suc m) (x ∷ xs) (row ∷ rows) long wide each =
      let P : List X → Type 0 = λ r. length r + 1 ≡ suc m in
      let few : length rows ≡ m = omega (arith, long) in
      let wide_rows : IsWide (suc m) rows = All-tail P row rows wide in
      let many = length-other_entries rows ∙ few in
      let rest_wide = others_wide m rows few wide_rows in
      let inner : length (transpose_of m (other_entries rows)) ≡ m = length-transpose_of m (other_entries rows) many rest_wide in (
        members_refl (x ∷ first_entries rows) (x ∷ xs) (ap (λ l. x ∷ l) (first_of m xs rows few wide_rows each.1)),
        with_front x row xs xs (transpose_of m (other_entries rows)) (omega (arith, inner, All-head P row rows wide)) each.0
            (columns_of m xs (other_entries rows) many rest_wide (others_same xs rows each.1)),
      )
    where
      first_of : (n : ℕ) (zs : List X) (others : List (List X)) → length others ≡ n → IsWide (suc n) others → AllZip HasFor zs others → first_entries others ≡ zs
      first_of zero [] [] long wide each = refl
      first_of zero (z ∷ zs) [] long wide each = absurd each
      first_of zero zs (other ∷ others) long wide each = absurd (omega (arith, long))
      first_of (suc n) zs others long wide each = first_same n zs others wide each

  pub columns_complete : (xs : List X) (rows : List (List X)) → IsTable rows → AllZip HasFor xs rows
      → AllZip (λ x column. SameMembers (x ∷ column) xs) xs (transpose rows)
  columns_complete xs rows table each = columns_of (length rows) xs rows refl table each
