-- Pairs of bodies by their numbers, which count from 0.
use Rattle.std.specs.Prelude.{◌≡◌, ℕ, ◌<◌, Bool, true, ◌&&◌, ◌||◌, ◌==◌, List, [], ◌∷◌, nat_lt}
use Rattle.std.specs.List.{AllByRecursion}

-- two bodies
pub record Pair : Type 0 where
  pub a : ℕ
  pub b : ℕ

-- two of n bodies, the lesser number first
abbrev pub IsPairOf : ℕ → Pair → Type 0
IsPairOf n p = (p.a < p.b) × (p.b < n)

-- by the first body, and of two pairs with the same first body by the second
abbrev pub is_before : Pair → Pair → Bool
is_before p q = nat_lt p.a q.a || ((p.a == q.a) && nat_lt p.b q.b)

-- each pair is before all that follow it, so none occurs twice
abbrev pub IsAscending : List Pair → Type 0
IsAscending [] = Unit {0}
IsAscending (p ∷ ps) = AllByRecursion (λ q. is_before p q ≡ true) ps × IsAscending ps
