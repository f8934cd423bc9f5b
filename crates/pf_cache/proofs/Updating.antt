-- Slots and their pairs.
use Rattle.std.proofs.Common.{◌≡◌, ◌∷◌, ◌++◌, [], ℕ, Bool, true, false, cond, List, map, filter, ap, ap₂, refl}
use Rattle.std.proofs.lemmas.List.Elements.{All-filter, All-head, All-map, All-tail}
use Rattle.std.specs.List.{AllByRecursion}
use Rattle.std.specs.Prelude.{All}
use Rattle.pf_shapes.specs.Pair.{IsAscending, IsPairOf, Pair, is_before}
use Rattle.pf_cache.specs.Slots.{Slot}

-- functions that agree at each element
pub map_same : {X Y : Type 0} (g h : X → Y) (xs : List X) → All (λ x. g x ≡ h x) xs → map g xs ≡ map h xs
map_same g h [] each = refl
map_same g h (x ∷ xs) each =
    ap₂ (λ y ys. y ∷ ys) (All-head (λ x. g x ≡ h x) x xs each) (map_same g h xs (All-tail (λ x. g x ≡ h x) x xs each))

pub map-again : {X Y Z : Type 0} (g : Y → Z) (f : X → Y) (xs : List X) → map g (map f xs) ≡ map (λ x. g (f x)) xs
map-again g f [] = refl
map-again g f (x ∷ xs) = ap (λ l. g (f x) ∷ l) (map-again g f xs)

-- a part of ascending pairs ascends
filter_behind : (t : Slot → Bool) (p : Pair) (slots : List Slot) → AllByRecursion (λ q. is_before p q ≡ true) (map (λ (s : Slot). s.pair) slots)
    → AllByRecursion (λ q. is_before p q ≡ true) (map (λ (s : Slot). s.pair) (filter t slots))
filter_behind t p [] h = tt
filter_behind t p (s ∷ slots) h = by (t s) (filter_behind t p slots h.1)
  where
    by : (b : Bool) → AllByRecursion (λ q. is_before p q ≡ true) (map (λ (x : Slot). x.pair) (filter t slots))
        → AllByRecursion (λ q. is_before p q ≡ true) (map (λ (x : Slot). x.pair) (cond b (s ∷ filter t slots) (filter t slots)))
    by true rest = (h.0, rest)
    by false rest = rest

filter-ascending : (t : Slot → Bool) (slots : List Slot) → IsAscending (map (λ (s : Slot). s.pair) slots)
    → IsAscending (map (λ (s : Slot). s.pair) (filter t slots))
filter-ascending t [] up = tt
filter-ascending t (s ∷ slots) up = by (t s) (filter_behind t s.pair slots up.0) (filter-ascending t slots up.1)
  where
    by : (b : Bool) → AllByRecursion (λ q. is_before s.pair q ≡ true) (map (λ (x : Slot). x.pair) (filter t slots))
        → IsAscending (map (λ (x : Slot). x.pair) (filter t slots))
        → IsAscending (map (λ (x : Slot). x.pair) (cond b (s ∷ filter t slots) (filter t slots)))
    by true first rest = (first, rest)
    by false first rest = rest

-- those behind a slot
pub ascend_from : (front rest : List Slot) → IsAscending (map (λ (s : Slot). s.pair) (front ++ rest)) → IsAscending (map (λ (s : Slot). s.pair) rest)
ascend_from [] rest up = up
ascend_from (s ∷ front) rest up = ascend_from front rest up.1

pub ascend_after : (t : Slot → Bool) (front : List Slot) (s : Slot) (behind : List Slot) → IsAscending (map (λ (x : Slot). x.pair) (front ++ s ∷ behind))
    → IsAscending (s.pair ∷ map (λ (x : Slot). x.pair) (filter t behind))
ascend_after t front s behind up =
    let from = ascend_from front (s ∷ behind) up in (filter_behind t s.pair behind from.0, filter-ascending t behind from.1)

pub filter-pairs : (t : Slot → Bool) (n : ℕ) (slots : List Slot) → All (λ (s : Slot). IsPairOf n s.pair) slots
    → All (IsPairOf n) (map (λ (s : Slot). s.pair) (filter t slots))
filter-pairs t n slots of = All-map (IsPairOf n) (λ (s : Slot). s.pair) (filter t slots) (All-filter t (λ (s : Slot). IsPairOf n s.pair) slots of)
