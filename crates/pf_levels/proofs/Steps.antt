-- Steps of the assignment of levels.
use Rattle.std.proofs.Common.{◌≡◌, ℕ, zero, suc, ◌+◌, ◌<◌, ◌≤◌, Some, List, [], ◌∷◌, ◌++◌, length, set, get_or, inl, inr, refl, sym, ap, subst, arith}
use Rattle.std.proofs.lemmas.List.Elements.{All-append, All-cons, All-head, All-nil, All-tail}
use Rattle.std.specs.List.{concat, range_with_len}
use Rattle.std.specs.Prelude.{All, ◌⊎◌, slice_get}
use Rattle.pf_rows.specs.Row.{IsSide}
use Rattle.pf_levels.specs.Levels.{AreLevels, IsLevel, IsReordering, KeepsOrder, RowPair}
use Rattle.pf_levels.specs.SoFar.{AreLevelsUpTo, EachBelow, next_level, with_both, with_place}
use Rattle.pf_levels.proofs.Insert.{row_more}

-- a place is put into a level where that stands
placed : (levels : List (List ℕ)) (g k : ℕ) → set levels g (get_or levels g [] ++ k ∷ []) ≡ with_place levels g k
placed [] g k = refl
placed (level ∷ levels) zero k = refl
placed (level ∷ levels) (suc g) k = ap (λ rest. level ∷ rest) (placed levels g k)

concat_more : (levels : List (List ℕ)) → concat (levels ++ [] ∷ []) ≡ concat levels
concat_more [] = refl
concat_more (level ∷ levels) = ap (λ rest. level ++ rest) (concat_more levels)

-- an empty level more
pub level_more : (pairs : List RowPair) (k : ℕ) (next : List ℕ) (levels : List (List ℕ)) → AreLevelsUpTo pairs k next levels
    → AreLevelsUpTo pairs k next (levels ++ [] ∷ [])
level_more pairs k next levels so_far = record {
  all = subst (IsReordering (range_with_len 0 k)) (sym (concat_more levels)) so_far.all;
  keeps = subst (KeepsOrder pairs) (sym (concat_more levels)) so_far.keeps;
  apart = All-append (IsLevel pairs) levels ([] ∷ []) so_far.apart (All-cons (IsLevel pairs) [] [] tt (All-nil (IsLevel pairs)));
  below = each 0 levels so_far.below;
  within = weaker next so_far.within;
}
  where
    each : (number : ℕ) (ls : List (List ℕ)) → EachBelow pairs next number ls → EachBelow pairs next number (ls ++ [] ∷ [])
    each number [] below = (All-nil _, tt)
    each number (level ∷ ls) below = (below.0, each (suc number) ls below.1)

    longer : (ls : List (List ℕ)) (n : ℕ) → n ≤ length ls → n ≤ length (ls ++ [] ∷ [])
    longer [] n h = omega (arith, h)
    longer (level ∷ ls) zero h = omega arith
    longer (level ∷ ls) (suc n) h = let rest = longer ls n (omega (arith, h)) in omega (arith, rest)

    weaker : (ns : List ℕ) → All (λ n. n ≤ length levels) ns → All (λ n. n ≤ length (levels ++ [] ∷ [])) ns
    weaker [] all = All-nil (λ n. n ≤ length (levels ++ [] ∷ []))
    weaker (n ∷ ns) all =
        All-cons (λ x. x ≤ length (levels ++ [] ∷ [])) n ns (longer levels n (All-head (λ x. x ≤ length levels) n ns all))
        (weaker ns (All-tail (λ x. x ≤ length levels) n ns all))

-- the levels, or one more
pub grown : (pairs : List RowPair) (k : ℕ) (next : List ℕ) (old new : List (List ℕ)) → (new ≡ old) ⊎ (new ≡ old ++ [] ∷ [])
    → AreLevelsUpTo pairs k next old → AreLevelsUpTo pairs k next new
grown pairs k next old new (inl same) so_far = subst (AreLevelsUpTo pairs k next) (sym same) so_far
grown pairs k next old new (inr more) so_far = subst (AreLevelsUpTo pairs k next) (sym more) (level_more pairs k next old so_far)

-- a row more, as it is stored
pub added : (pairs : List RowPair) (next : List ℕ) (k g : ℕ) (levels : List (List ℕ)) (pair : RowPair) → AreLevelsUpTo pairs k next levels
    → slice_get pairs k ≡ Some pair → IsSide (length next) pair.first → IsSide (length next) pair.second
    → next_level next pair.first ≤ g → next_level next pair.second ≤ g → g < length levels
    → AreLevelsUpTo pairs (k + 1) (with_both next pair (g + 1)) (set levels g (get_or levels g [] ++ k ∷ []))
added pairs next k g levels pair so_far at one two first second within =
    let more = row_more pairs next k g levels pair so_far at one two first second within in
    let k_is : suc k ≡ k + 1 = omega arith in
    let g_is : suc g ≡ g + 1 = omega arith in
    rw (placed levels g k) (subst (λ n. AreLevelsUpTo pairs n (with_both next pair (g + 1)) (with_place levels g k)) k_is
    (subst (λ v. AreLevelsUpTo pairs (suc k) (with_both next pair v) (with_place levels g k)) g_is more))

-- no rows, and no levels
pub none_yet : (pairs : List RowPair) (next : List ℕ) → All (λ n. n ≤ 0) next → AreLevelsUpTo pairs 0 next []
none_yet pairs next zeros = record {
  all = refl;
  keeps = tt;
  apart = All-nil (IsLevel pairs);
  below = tt;
  within = zeros;
}

-- all rows
pub all_done : (pairs : List RowPair) (next : List ℕ) (levels : List (List ℕ)) → AreLevelsUpTo pairs (length pairs) next levels
    → AreLevels pairs levels
all_done pairs next levels so_far = record {
  order = record { all = so_far.all; keeps = so_far.keeps };
  apart = so_far.apart;
}
