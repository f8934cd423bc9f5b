-- Rows that are listed in another order: their places are distinct, and levels of them by their
-- numbers in that order are levels of them by their places.
use Rattle.std.proofs.Common.{◌≡◌, ◌≢◌, ◌∙◌, ℕ, zero, suc, ◌+◌, ◌<◌, Some, List, [], ◌∷◌, ◌++◌, drop, get_or, length, map, take, append_assoc, refl, sym, ap, ap₂, subst, arith}
use Rattle.std.proofs.lemmas.List.{append-nil, get_or-map, get_or_at, length-map, length_push, map-append, take-append-drop, take_more}
use Rattle.std.proofs.lemmas.List.Elements.{All-append, All-cons, All-get_or, All-head, All-map, All-nil, All-tail}
use Rattle.std.proofs.lemmas.List.Folds.{concat-append}
use Rattle.std.proofs.lemmas.Option.{get_or_from_slice_get, slice_get-get_or}
use Rattle.std.specs.List.{concat, range_with_len}
use Rattle.std.specs.Prelude.{⊤, All, slice_get}
use Rattle.pf_rows.specs.declared.row.Side.TheVariants.{Static}
use Rattle.pf_levels.specs.Levels.{AreLevels, ArePairsOf, IsLevel, IsRowPairOf, IsReordering, RowPair, ShareNoBodyAt}
use Rattle.pf_levels.specs.Order.{row_pair_at, place_at}
use Rattle.pf_levels.specs.Overlap.{AreLevelsInOrder, late_then_early}
use Rattle.pf_levels.proofs.Insert.{range_below}
use Rattle.pf_levels.proofs.Places.{All-left, All-levels, All-reordering, All-right, All-swapped}

-- ---- distinct places

abbrev pub AreDistinct : List ℕ → Type 0
AreDistinct [] = ⊤
AreDistinct (p ∷ places) = All (λ q. p ≢ q) places × AreDistinct places

distinct_with : (front back : List ℕ) (p : ℕ) → AreDistinct (front ++ back) → All (λ q. p ≢ q) (front ++ back)
    → AreDistinct (front ++ p ∷ back)
distinct_with [] back p distinct far = (far, distinct)
distinct_with (x ∷ front) back p distinct far =
    let P : ℕ → Type 0 = λ q. x ≢ q in
    let other : x ≢ p = λ same. All-head (λ q. p ≢ q) x (front ++ back) far (sym same) in (
      All-append P front (p ∷ back) (All-left P front back distinct.0)
          (All-cons P p back other (All-right P front back distinct.0)),
      distinct_with front back p distinct.1 (All-tail (λ q. p ≢ q) x (front ++ back) far),
    )

-- a number below a range is none of it
below_range : (n k p : ℕ) → p < k → All (λ q. p ≢ q) (range_with_len k n)
below_range zero k p less = All-nil (λ q. p ≢ q)
below_range (suc n) k p less =
    All-cons (λ q. p ≢ q) k (range_with_len (k + 1) n) (omega (arith, less)) (below_range n (k + 1) p (omega (arith, less)))

-- the numbers of a range, in any order
pub reordering_distinct : (n k : ℕ) (order : List ℕ) → IsReordering (range_with_len k n) order → AreDistinct order
reordering_distinct zero k order is = subst AreDistinct (sym is) tt
reordering_distinct (suc n) k order (front, back, is, rest) =
    let far = All-reordering (λ q. k ≢ q) (range_with_len (k + 1) n) (front ++ back) rest (below_range n (k + 1) k (omega arith)) in
    subst AreDistinct (sym is) (distinct_with front back k (reordering_distinct n (k + 1) (front ++ back) rest) far)

distinct_swapped : (front back : List ℕ) → AreDistinct (front ++ back) → AreDistinct (back ++ front)
distinct_swapped [] back distinct = subst AreDistinct (sym (append-nil back)) distinct
distinct_swapped (x ∷ front) back distinct =
    distinct_with back front x (distinct_swapped front back distinct.1) (All-swapped (λ q. x ≢ q) front back distinct.0)

-- places of two numbers are distinct
pub places_apart : (order : List ℕ) (p q : ℕ) → AreDistinct order → p ≢ q → p < length order → q < length order
    → place_at order p ≢ place_at order q
places_apart [] p q distinct other here there = absurd (omega (arith, here))
places_apart (x ∷ order) zero zero distinct other here there = absurd (other refl)
places_apart (x ∷ order) zero (suc q) distinct other here there =
    All-get_or (λ y. x ≢ y) order q 0 (omega (arith, there)) distinct.0
places_apart (x ∷ order) (suc p) zero distinct other here there =
    λ same. All-get_or (λ y. x ≢ y) order p 0 (omega (arith, here)) distinct.0 (sym same)
places_apart (x ∷ order) (suc p) (suc q) distinct other here there =
    places_apart order p q distinct.1 (λ same. other (ap suc same)) (omega (arith, here)) (omega (arith, there))

-- the places of all numbers are the order
places_behind : (front order : List ℕ) → map (place_at (front ++ order)) (range_with_len (length front) (length order)) ≡ order
places_behind front [] = refl
places_behind front (x ∷ order) =
    ap₂ (λ y ys. y ∷ ys) (get_or_at front x order 0 (length front) refl)
    (ap (λ n. map (place_at (front ++ x ∷ order)) (range_with_len n (length order))) (sym (length_push front x))
    ∙ ap (λ all. map (place_at all) (range_with_len (length (front ++ x ∷ [])) (length order))) (sym (append_assoc front (x ∷ []) order))
    ∙ places_behind (front ++ x ∷ []) order)

pub all_places : (order : List ℕ) → map (place_at order) (range_with_len 0 (length order)) ≡ order
all_places order = places_behind [] order

-- ---- the rows of late levels, and then those of early ones

early_then_late : (early : ℕ) (levels : List (List ℕ)) → concat levels ≡ concat (take early levels) ++ concat (drop early levels)
early_then_late early levels =
    ap concat (sym (take-append-drop early levels)) ∙ concat-append (take early levels) (drop early levels)

-- the numbers of so many rows are below that
pub below_end : (n : ℕ) → All (λ p. p < n) (range_with_len 0 n)
below_end n =
    let same : 0 + n ≡ n = omega arith in subst (λ end. All (λ p. p < end) (range_with_len 0 n)) same (range_below n 0)

module _ (pairs : List RowPair) (levels : List (List ℕ)) (are : AreLevels pairs levels) (early : ℕ) where
  -- they are rows of the list
  pub late_early_within : All (λ p. p < length pairs) (late_then_early early levels)
  late_early_within =
      let P : ℕ → Type 0 = λ p. p < length pairs in
      All-swapped P (concat (take early levels)) (concat (drop early levels))
      (subst (All P) (early_then_late early levels)
      (All-reordering P (range_with_len 0 (length pairs)) (concat levels) are.order.all (below_end (length pairs))))

  -- each once
  pub late_early_distinct : AreDistinct (late_then_early early levels)
  late_early_distinct =
      distinct_swapped (concat (take early levels)) (concat (drop early levels))
      (subst AreDistinct (early_then_late early levels)
      (reordering_distinct (length pairs) 0 (concat levels) are.order.all))

-- ---- levels by numbers and by places

-- the pairs of rows in another order name bodies of the list
pub pairs_in_order : (bodies : ℕ) (pairs : List RowPair) (order : List ℕ) → ArePairsOf bodies pairs → All (λ p. p < length pairs) order
    → ArePairsOf bodies (map (row_pair_at pairs) order)
pairs_in_order bodies pairs [] of within = All-nil (IsRowPairOf bodies)
pairs_in_order bodies pairs (p ∷ order) of within =
    All-cons (IsRowPairOf bodies) (row_pair_at pairs p) (map (row_pair_at pairs) order)
    (All-get_or (IsRowPairOf bodies) pairs p (record { first = Static; second = Static }) (All-head (λ q. q < length pairs) p order within) of)
    (pairs_in_order bodies pairs order of (All-tail (λ q. q < length pairs) p order within))

-- levels have numbers of rows
pub numbers_within : (pairs : List RowPair) (levels : List (List ℕ)) → AreLevels pairs levels → All (All (λ k. k < length pairs)) levels
numbers_within pairs levels are =
    All-levels (λ k. k < length pairs) levels
    (All-reordering (λ k. k < length pairs) (range_with_len 0 (length pairs)) (concat levels) are.order.all (below_end (length pairs)))

module _ (pairs : List RowPair) (order : List ℕ) where
  -- so many rows are in the order
  pub within_order : (levels : List (List ℕ)) → AreLevels (map (row_pair_at pairs) order) levels → All (All (λ k. k < length order)) levels
  within_order levels are =
      subst (λ n. All (All (λ k. k < n)) levels) (length-map order (row_pair_at pairs)) (numbers_within (map (row_pair_at pairs) order) levels are)

  -- the pair of a row by its number
  pair_in_order : (k : ℕ) (a : RowPair) → k < length order → slice_get pairs (place_at order k) ≡ Some a
      → slice_get (map (row_pair_at pairs) order) k ≡ Some a
  pair_in_order k a within at =
      let none : RowPair = record { first = Static; second = Static } in
      slice_get-get_or (map (row_pair_at pairs) order) k none (omega (arith, within, length-map order (row_pair_at pairs)))
      ∙ ap (λ x. Some x) (get_or-map (row_pair_at pairs) order k 0 none within ∙ get_or_from_slice_get pairs (place_at order k) a none at)

  -- two rows that are apart by their numbers are apart by their places
  pub apart_by_places : (p q : ℕ) → p < length order → q < length order → ShareNoBodyAt (map (row_pair_at pairs) order) p q
      → ShareNoBodyAt pairs (place_at order p) (place_at order q)
  apart_by_places p q here there apart a b at_p at_q =
      apart a b (pair_in_order p a here at_p) (pair_in_order q b there at_q)

  module _ (distinct : AreDistinct order) where
    -- a level by places
    level_by_places : (level : List ℕ) → All (λ k. k < length order) level → IsLevel (map (row_pair_at pairs) order) level
        → IsLevel pairs (map (place_at order) level)
    level_by_places [] within is = tt
    level_by_places (p ∷ level) within is =
        let here = All-head (λ k. k < length order) p level within in
        let rest = All-tail (λ k. k < length order) p level within in (
          All-map (λ q. (place_at order p ≢ q) × ShareNoBodyAt pairs (place_at order p) q) (place_at order) level (far p here level rest is.0),
          level_by_places level rest is.1,
        )
      where
        far : (p : ℕ) → p < length order → (level : List ℕ) → All (λ k. k < length order) level
            → All (λ q. (p ≢ q) × ShareNoBodyAt (map (row_pair_at pairs) order) p q) level
            → All (λ q. (place_at order p ≢ place_at order q) × ShareNoBodyAt pairs (place_at order p) (place_at order q)) level
        far p here [] within apart = All-nil (λ q. (place_at order p ≢ place_at order q) × ShareNoBodyAt pairs (place_at order p) (place_at order q))
        far p here (q ∷ level) within apart =
            let there = All-head (λ k. k < length order) q level within in
            let one = All-head (λ x. (p ≢ x) × ShareNoBodyAt (map (row_pair_at pairs) order) p x) q level apart in
            All-cons (λ x. (place_at order p ≢ place_at order x) × ShareNoBodyAt pairs (place_at order p) (place_at order x)) q level
            (places_apart order p q distinct one.0 here there, apart_by_places p q here there one.1)
            (far p here level (All-tail (λ k. k < length order) q level within)
            (All-tail (λ x. (p ≢ x) × ShareNoBodyAt (map (row_pair_at pairs) order) p x) q level apart))

    -- all levels by places
    pub levels_by_places : (levels : List (List ℕ)) → All (All (λ k. k < length order)) levels
        → All (IsLevel (map (row_pair_at pairs) order)) levels → All (IsLevel pairs) (map (map (place_at order)) levels)
    levels_by_places [] within are = All-nil (IsLevel pairs)
    levels_by_places (g ∷ levels) within are =
        All-cons (IsLevel pairs) (map (place_at order) g) (map (map (place_at order)) levels)
        (level_by_places g (All-head (All (λ k. k < length order)) g levels within) (All-head (IsLevel (map (row_pair_at pairs) order)) g levels are))
        (levels_by_places levels (All-tail (All (λ k. k < length order)) g levels within) (All-tail (IsLevel (map (row_pair_at pairs) order)) g levels are))

-- the rows of levels by places are those by numbers
pub concat_places : (order : List ℕ) (levels : List (List ℕ)) → concat (map (map (place_at order)) levels) ≡ map (place_at order) (concat levels)
concat_places order [] = refl
concat_places order (g ∷ levels) =
    ap (λ rest. map (place_at order) g ++ rest) (concat_places order levels) ∙ sym (map-append (place_at order) g (concat levels))

-- levels by places have places of rows
pub in_order_within : (pairs : List RowPair) (order : List ℕ) (levels : List (List ℕ)) → All (λ p. p < length pairs) order
    → AreLevelsInOrder pairs order levels → All (All (λ p. p < length pairs)) levels
in_order_within pairs order levels within are =
    subst (All (All (λ p. p < length pairs))) (sym are.places) (by are.numbered (within_order pairs order are.numbered are.are))
  where
    places_of : (level : List ℕ) → All (λ k. k < length order) level → All (λ p. p < length pairs) (map (place_at order) level)
    places_of [] all = All-nil (λ p. p < length pairs)
    places_of (k ∷ level) all =
        All-cons (λ p. p < length pairs) (place_at order k) (map (place_at order) level)
        (All-get_or (λ p. p < length pairs) order k 0 (All-head (λ x. x < length order) k level all) within)
        (places_of level (All-tail (λ x. x < length order) k level all))

    by : (numbered : List (List ℕ)) → All (All (λ k. k < length order)) numbered
        → All (All (λ p. p < length pairs)) (map (map (place_at order)) numbered)
    by [] all = All-nil (All (λ p. p < length pairs))
    by (g ∷ numbered) all =
        All-cons (All (λ p. p < length pairs)) (map (place_at order) g) (map (map (place_at order)) numbered)
        (places_of g (All-head (All (λ k. k < length order)) g numbered all))
        (by numbered (All-tail (All (λ k. k < length order)) g numbered all))

-- ---- one more of a list

-- the rows of one level more
pub concat_more : (levels : List (List ℕ)) (i : ℕ) (d : List ℕ) → i < length levels
    → concat (take (i + 1) levels) ≡ concat (take i levels) ++ get_or levels i d
concat_more levels i d within =
    ap concat (take_more levels i d within) ∙ concat-append (take i levels) (get_or levels i d ∷ [])
    ∙ ap (λ rest. concat (take i levels) ++ rest) (append-nil (get_or levels i d))
