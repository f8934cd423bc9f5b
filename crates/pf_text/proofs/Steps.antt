-- Steps that may give an error.
use Rattle.std.proofs.Common.{◌≡◌, Result, Ok, Err, ap}

value_or : {A F : Type 0} → A → Result A F → A
value_or other (Ok x) = x
value_or other (Err fault) = other

-- two that were done alike are the same
pub same_Ok : {A F : Type 0} (x y : A) → ◌≡◌ {A = Result A F} (Ok x) (Ok y) → x ≡ y
unfolding value_or
same_Ok x y e = ap (value_or x) e
