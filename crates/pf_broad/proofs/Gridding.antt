-- The grid of the first bodies, one body more.
use Rattle.std.proofs.Common.{◌≡◌, ℕ, ◌+◌, Bool, true, false, cond, not, ◌&&◌, List, [], ◌∷◌, ◌++◌, refl, sym, ap, ◌∙◌, arith, add-one, append-nil}
use Rattle.std.specs.List.{range_with_len, filter}
use Rattle.pf_shapes.specs.Bounds.{Bounds}
use Rattle.pf_broad.specs.declared.cell.Cell.{Cell}
use Rattle.pf_broad.specs.Pairs.{bounds_at}
use Rattle.pf_broad.specs.Cell.{cells_of, has_cell, is_wide}
use Rattle.pf_broad.specs.Grid.{is_listed, unless_empty}
use Rattle.pf_broad.specs.Stored.{with_listed_body}
use Rattle.pf_broad.proofs.Ranges.{filter-range_suc}

-- the first n bodies of a cell
abbrev pub first_members : List Bounds → Cell → ℕ → List ℕ
first_members bs c n = filter (is_listed bs c) (range_with_len 0 n)

-- those of the first n that are wide
abbrev pub first_wide : List Bounds → ℕ → List ℕ
first_wide bs n = filter (λ k. is_wide (bounds_at bs k)) (range_with_len 0 n)

unless_empty-append : (xs : List ℕ) (b : Bool) (k : ℕ) → unless_empty (xs ++ cond b (k ∷ []) []) ≡ with_listed_body b k (unless_empty xs)
unless_empty-append [] true k = refl
unless_empty-append [] false k = refl
unless_empty-append (x ∷ xs) true k = refl
unless_empty-append (x ∷ xs) false k = ap (λ l. unless_empty (x ∷ l)) (append-nil xs)

one_more : (bs : List Bounds) (c : Cell) (n : ℕ) → unless_empty (first_members bs c (n + 1)) ≡ with_listed_body (is_listed bs c n) n (unless_empty (first_members bs c n))
one_more bs c n = rw add-one (ap unless_empty (filter-range_suc (is_listed bs c) 0 n n (omega arith)) ∙ unless_empty-append (first_members bs c n) (is_listed bs c n) n)

-- a wide body is listed in no cell
pub members-wide : (bs : List Bounds) (c : Cell) (n : ℕ) → is_wide (bounds_at bs n) ≡ true → unless_empty (first_members bs c n) ≡ unless_empty (first_members bs c (n + 1))
members-wide bs c n wide = sym (one_more bs c n ∙ ap (λ b. with_listed_body (not b && has_cell (cells_of (bounds_at bs n)) c) n (unless_empty (first_members bs c n))) wide)

-- another in the cells in which it lies
pub members-listed : (bs : List Bounds) (c : Cell) (n : ℕ) → is_wide (bounds_at bs n) ≡ false
    → with_listed_body (has_cell (cells_of (bounds_at bs n)) c) n (unless_empty (first_members bs c n)) ≡ unless_empty (first_members bs c (n + 1))
members-listed bs c n narrow = sym (one_more bs c n ∙ ap (λ b. with_listed_body (not b && has_cell (cells_of (bounds_at bs n)) c) n (unless_empty (first_members bs c n))) narrow)

wide_more : (bs : List Bounds) (n : ℕ) → first_wide bs (n + 1) ≡ first_wide bs n ++ cond (is_wide (bounds_at bs n)) (n ∷ []) []
wide_more bs n = rw add-one (filter-range_suc (λ k. is_wide (bounds_at bs k)) 0 n n (omega arith))

pub wide-wide : (bs : List Bounds) (n : ℕ) → is_wide (bounds_at bs n) ≡ true → first_wide bs n ++ n ∷ [] ≡ first_wide bs (n + 1)
wide-wide bs n wide = sym (wide_more bs n ∙ ap (λ b. first_wide bs n ++ cond b (n ∷ []) []) wide)

pub wide-listed : (bs : List Bounds) (n : ℕ) → is_wide (bounds_at bs n) ≡ false → first_wide bs n ≡ first_wide bs (n + 1)
wide-listed bs n narrow = sym (wide_more bs n ∙ ap (λ b. first_wide bs n ++ cond b (n ∷ []) []) narrow ∙ append-nil (first_wide bs n))
