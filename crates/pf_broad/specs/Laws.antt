-- Words of the laws of pairs.
use Rattle.std.specs.Prelude.{◌≡◌, ℕ, Bool, ◌&&◌, ◌==◌, List, length, nat_lt}
use Rattle.std.specs.List.{list_any}
use Rattle.pf_shapes.specs.Bounds.{Bounds}
use Rattle.pf_shapes.specs.Pair.{Pair}
use Rattle.pf_broad.specs.Pairs.{bounds_at, may_touch, pairs}

-- a list of pairs has this one
abbrev pub has_pair : List Pair → ℕ → ℕ → Bool
has_pair ps i j = list_any (λ p. (p.a == i) && (p.b == j)) ps

-- the pairs are all those of two bodies that may touch, the lesser number first, and no others
abbrev pub ArePairsExact : List Bounds → Type 0
ArePairsExact bs = (i j : ℕ) → has_pair (pairs bs) i j
    ≡ (nat_lt i j && (nat_lt j (length bs) && may_touch (bounds_at bs i) (bounds_at bs j)))
