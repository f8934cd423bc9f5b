-- Elements of lists by their places.
use Rattle.std.proofs.Common.{◌≡◌, ◌≢◌, ℕ, zero, suc, List, [], ◌∷◌, Option, Some, length, refl, ap, ap₂, subst, slice_get, slice_set, map, get_or, arith}
use Rattle.std.proofs.lemmas.Option.{get_or_from_slice_get, slice_get-get_or, slice_get_within}
use Rattle.std.specs.List.{zip}
use Rattle.std.specs.Prelude.{All}

-- an element at another index
pub set_other : {X : Type 0} (xs : List X) (i j : ℕ) (x : X) → i ≢ j → slice_get (slice_set xs i x) j ≡ slice_get xs j
set_other [] i j x other = refl
set_other (y ∷ ys) zero zero x other = absurd (other refl)
set_other (y ∷ ys) zero (suc j) x other = refl
set_other (y ∷ ys) (suc i) zero x other = refl
set_other (y ∷ ys) (suc i) (suc j) x other = set_other ys i j x (λ same. other (ap suc same))

-- the replaced element
pub set_same : {X : Type 0} (xs : List X) (i : ℕ) (x y : X) → slice_get xs i ≡ Some y → slice_get (slice_set xs i x) i ≡ Some x
set_same [] i x y here = absurd cc
set_same (z ∷ zs) zero x y here = refl
set_same (z ∷ zs) (suc i) x y here = set_same zs i x y here

pub set_length : {X : Type 0} (xs : List X) (i : ℕ) (x : X) → length (slice_set xs i x) ≡ length xs
set_length [] i x = refl
set_length (y ∷ ys) zero x = refl
set_length (y ∷ ys) (suc i) x = ap suc (set_length ys i x)

-- an element of which there is one is one element
pub same_element : {X : Type 0} (x y : X) → ◌≡◌ {A = Option X} (Some x) (Some y) → x ≡ y
same_element x y e = cc

-- what holds of all elements holds of the one at a place, and the other way round
pub all_at : {X : Type 0} (P : X → Type 0) (xs : List X) (i : ℕ) (x : X) → All P xs → slice_get xs i ≡ Some x → P x
all_at P xs i x all here = subst P (get_or_from_slice_get xs i x x here) (all i x (slice_get_within xs i x here))

pub all_from : {X : Type 0} (P : X → Type 0) (xs : List X) → ((i : ℕ) (x : X) → slice_get xs i ≡ Some x → P x) → All P xs
all_from P xs each = λ i d within. each i (get_or xs i d) (slice_get-get_or xs i d within)

-- the element of a mapped list comes from one of the list
pub record IsMapped {X Y : Type 0} (f : X → Y) (xs : List X) (i : ℕ) (y : Y) : Type 0 where
  pub from : X
  pub is_there : slice_get xs i ≡ Some from
  pub value : f from ≡ y

pub mapped : {X Y : Type 0} (f : X → Y) (xs : List X) (i : ℕ) (y : Y) → slice_get (map f xs) i ≡ Some y → IsMapped f xs i y
mapped f [] i y here = absurd cc
mapped f (x ∷ xs) zero y here = record { from = x; is_there = refl; value = cc }
mapped f (x ∷ xs) (suc i) y here =
    let rest = mapped f xs i y here in record { from = rest.from; is_there = rest.is_there; value = rest.value }

-- where both lists have an element, the zipped one has the pair
pub zip_at : {X Y : Type 0} (xs : List X) (ys : List Y) (i : ℕ) (x : X) (y : Y) → slice_get xs i ≡ Some x
    → slice_get ys i ≡ Some y → slice_get (zip xs ys) i ≡ Some (x, y)
zip_at [] ys i x y here there = absurd cc
zip_at (a ∷ xs) [] i x y here there = absurd cc
zip_at (a ∷ xs) (b ∷ ys) zero x y here there =
    ap₂ (λ p q. Some (p, q)) (same_element a x here) (same_element b y there)
zip_at (a ∷ xs) (b ∷ ys) (suc i) x y here there = zip_at xs ys i x y here there

pub zip_length : {X Y : Type 0} (xs : List X) (ys : List Y) → length xs ≡ length ys → length (zip xs ys) ≡ length ys
zip_length [] [] same = refl
zip_length [] (y ∷ ys) same = absurd (omega (arith, same))
zip_length (x ∷ xs) [] same = absurd (omega (arith, same))
zip_length (x ∷ xs) (y ∷ ys) same = ap suc (zip_length xs ys (omega (arith, same)))
