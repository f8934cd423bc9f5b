-- Elements of two lists side by side.
use Rattle.std.proofs.Common.{◌≡◌, ℕ, zero, suc, ◌<◌, List, [], ◌∷◌, length, map, ap₂, arith}
use Rattle.std.specs.List.{zip}
use Rattle.std.specs.Prelude.{get_or}

-- what is made of them
pub zip_at : {X Y Z : Type 0} (f : X × Y → Z) (xs : List X) (ys : List Y) (n : ℕ) (x : X) (y : Y) (d : Z)
    → n < length xs → n < length ys → x ≡ get_or xs n x → y ≡ get_or ys n y
    → f (x, y) ≡ get_or (map f (zip xs ys)) n d
zip_at f [] ys n x y d first second x_is y_is = absurd (omega (arith, first))
zip_at f (a ∷ xs) [] n x y d first second x_is y_is = absurd (omega (arith, second))
zip_at f (a ∷ xs) (b ∷ ys) zero x y d first second x_is y_is = ap₂ (λ v w. f (v, w)) x_is y_is
zip_at f (a ∷ xs) (b ∷ ys) (suc n) x y d first second x_is y_is =
    zip_at f xs ys n x y d (omega (arith, first)) (omega (arith, second)) x_is y_is

pub both_at : {X Y : Type 0} (xs : List X) (ys : List Y) (n : ℕ) (x : X) (y : Y) → n < length xs → n < length ys
    → x ≡ get_or xs n x → y ≡ get_or ys n y → (x, y) ≡ get_or (zip xs ys) n (x, y)
both_at [] ys n x y first second x_is y_is = absurd (omega (arith, first))
both_at (a ∷ xs) [] n x y first second x_is y_is = absurd (omega (arith, second))
both_at (a ∷ xs) (b ∷ ys) zero x y first second x_is y_is = λ i. (x_is i, y_is i)
both_at (a ∷ xs) (b ∷ ys) (suc n) x y first second x_is y_is =
    both_at xs ys n x y (omega (arith, first)) (omega (arith, second)) x_is y_is
