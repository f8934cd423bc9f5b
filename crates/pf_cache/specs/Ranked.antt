-- Lists whose elements have ranks.
use Rattle.std.specs.Prelude.{ℕ, ◌==◌, Option, Some, None, List, [], ◌∷◌, if◌then◌else◌}

-- the element of this rank, if there is one
abbrev pub element_at : {X : Type 0} → (X → ℕ) → ℕ → List X → Option X
element_at rank n [] = None
element_at rank n (x ∷ xs) = if rank x == n then Some x else element_at rank n xs
