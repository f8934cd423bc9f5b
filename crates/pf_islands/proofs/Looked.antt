-- What stands at a place of two lists side by side.
use Rattle.std.proofs.Common.{◌≡◌, ◌∙◌, ⊎_elim, ℕ, zero, suc, Bool, true, List, [], ◌∷◌, Some, map, refl, sym, ap₂}
use Rattle.std.proofs.lemmas.Bool.{and_from, and_parts, false≢true, or_cases, or_left, or_right}
use Rattle.std.proofs.lemmas.Option.{none-some, same_Some}
use Rattle.std.specs.List.{list_all, list_any, slice_get, zip}

module _ {X Y : Type 0} where
  -- what a map over both lists gives
  pub zip_at : {Z : Type 0} (f : X × Y → Z) (xs : List X) (ys : List Y) (i : ℕ) (z : Z)
      → slice_get (map f (zip xs ys)) i ≡ Some z
      → (x : X) × (y : Y) × (slice_get xs i ≡ Some x) × (slice_get ys i ≡ Some y) × (f (x, y) ≡ z)
  zip_at f [] ys i z e = absurd (none-some z e)
  zip_at f (x ∷ xs) [] i z e = absurd (none-some z e)
  zip_at f (x ∷ xs) (y ∷ ys) zero z e = (x, y, refl, refl, same_Some (f (x, y)) z e)
  zip_at f (x ∷ xs) (y ∷ ys) (suc i) z e = zip_at f xs ys i z e

  -- a test of pairs
  module _ (p : X × Y → Bool) where
    -- a pair that passes is found
    pub any_found : (xs : List X) (ys : List Y) → list_any p (zip xs ys) ≡ true
        → (j : ℕ) × (x : X) × (y : Y) × (slice_get xs j ≡ Some x) × (slice_get ys j ≡ Some y) × (p (x, y) ≡ true)
    any_found [] ys e = absurd (false≢true e)
    any_found (x ∷ xs) [] e = absurd (false≢true e)
    any_found (x ∷ xs) (y ∷ ys) e =
        ⊎_elim
        (λ here. (0, x, y, refl, refl, here))
        (λ rest. let found = any_found xs ys rest in (suc found.0, found.1, found.2, found.3, found.4, found.5))
        (or_cases (p (x, y)) (list_any p (zip xs ys)) e)

    -- a pair that passes decides
    pub any_from : (xs : List X) (ys : List Y) (j : ℕ) (x : X) (y : Y) → slice_get xs j ≡ Some x
        → slice_get ys j ≡ Some y → p (x, y) ≡ true → list_any p (zip xs ys) ≡ true
    any_from [] ys j x y ex ey passes = absurd (none-some x ex)
    any_from (x' ∷ xs) [] j x y ex ey passes = absurd (none-some y ey)
    any_from (x' ∷ xs) (y' ∷ ys) zero x y ex ey passes =
        or_left (p (x', y')) _ (ap₂ (λ a b. p (a, b)) (same_Some x' x ex) (same_Some y' y ey) ∙ passes)
    any_from (x' ∷ xs) (y' ∷ ys) (suc j) x y ex ey passes =
        or_right (p (x', y')) _ (any_from xs ys j x y ex ey passes)

    -- where all pass, each does
    pub all_at : (xs : List X) (ys : List Y) (j : ℕ) (x : X) (y : Y) → list_all p (zip xs ys) ≡ true
        → slice_get xs j ≡ Some x → slice_get ys j ≡ Some y → p (x, y) ≡ true
    all_at [] ys j x y e ex ey = absurd (none-some x ex)
    all_at (x' ∷ xs) [] j x y e ex ey = absurd (none-some y ey)
    all_at (x' ∷ xs) (y' ∷ ys) zero x y e ex ey =
        sym (ap₂ (λ a b. p (a, b)) (same_Some x' x ex) (same_Some y' y ey))
        ∙ (and_parts (p (x', y')) (list_all p (zip xs ys)) e).0
    all_at (x' ∷ xs) (y' ∷ ys) (suc j) x y e ex ey =
        all_at xs ys j x y (and_parts (p (x', y')) (list_all p (zip xs ys)) e).1 ex ey

    -- where each passes, all do
    pub all_from : (xs : List X) (ys : List Y)
        → ((j : ℕ) (x : X) (y : Y) → slice_get xs j ≡ Some x → slice_get ys j ≡ Some y → p (x, y) ≡ true)
        → list_all p (zip xs ys) ≡ true
    all_from [] ys each = refl
    all_from (x ∷ xs) [] each = refl
    all_from (x ∷ xs) (y ∷ ys) each =
        and_from (p (x, y)) (list_all p (zip xs ys)) (each 0 x y refl refl) (all_from xs ys (λ j. each (suc j)))
