-- How islands are dealt to the workers of a crew: in turn, island k to worker k mod n.
use Rattle.std.specs.Prelude.{◌≡◌, ℕ, ◌+◌, ◌%◌, ◌<◌, ◌==◌, List, [], ◌∷◌, ◌++◌, length, if◌then◌else◌, slice_index_or}

-- of a list whose first element has the number k, what worker w of n has, from last to first
unfoldable pub share : {X : Type 0} → (n w k : ℕ) → List X → List X
share n w k [] = []
share n w k (x ∷ xs) =
    if k % n == w then share n w (k + 1) xs ++ x ∷ [] else share n w (k + 1) xs

-- these stacks are what the workers have of a list whose first element has the number k
abbrev pub AreSharesFrom : {X : Type 0} → ℕ → List X → List (List X) → Type 0
AreSharesFrom k all stacks =
    (w : ℕ) → w < length stacks → slice_index_or stacks w [] ≡ share (length stacks) w k all

-- these stacks are what the workers have of all
abbrev pub AreShares : {X : Type 0} → List X → List (List X) → Type 0
AreShares all stacks = AreSharesFrom 0 all stacks
