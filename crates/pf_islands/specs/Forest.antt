-- A union-find: each body has a parent, and the root of a tree is its own parent.
use Rattle.std.specs.Prelude.{◌≡◌, ℕ, ◌<◌, ◌≤◌, Bool, false, List, filter, length, slice_index}
use Rattle.std.specs.List.{range_with_len}

-- no parent is greater than its body, so following parents ends
abbrev pub IsDownward : List ℕ → Type 0
IsDownward parents = (i : ℕ) → i < length parents → slice_index parents i ≤ i

-- some of so many bodies, by their numbers in ascending order; P holds of each other body
pub record OthersAre (count : ℕ) (P : ℕ → Type 0) (numbers : List ℕ) : Type 0 where
  pub is_listed : ℕ → Bool
  pub listed : numbers ≡ filter is_listed (range_with_len 0 count)
  pub others : (i : ℕ) → i < count → is_listed i ≡ false → P i

-- some bodies; each other one is its own parent
abbrev pub OthersAreRoots : List ℕ → List ℕ → Type 0
OthersAreRoots parents numbers =
    OthersAre (length parents) (λ i. slice_index parents i ≡ i) numbers

-- these are the roots of the bodies: a body has the root of its parent, and a root is its own
pub record IsForest (root : ℕ → ℕ) (parents : List ℕ) : Type 0 where
  pub same : (i : ℕ) → i < length parents → root (slice_index parents i) ≡ root i
  pub own : (i : ℕ) → i < length parents → slice_index parents i ≡ i → root i ≡ i
