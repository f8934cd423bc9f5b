-- Pairs of bodies whose bounds overlap, as Box2D's b2BroadPhase::UpdatePairs finds them. Bodies are
-- numbered from 0.
use Rattle.std.specs.Prelude.{ℕ, Bool, true, not, ◌&&◌, List, length, map, filter, nat_lt, slice_index_or}
use Rattle.std.specs.List.{range_with_len, flat_map, zip}
use Rattle.pf_rot.specs.Vector.{zero_vector}
use Rattle.pf_shapes.specs.Fixture.{Fixture}
use Rattle.pf_shapes.specs.Body.{BodyState}
use Rattle.pf_shapes.specs.Bounds.{Bounds, fixture_bounds, overlaps}
use Rattle.pf_shapes.specs.Pair.{Pair}

-- the bounds of each body, by its fixture and its state
abbrev pub all_bounds : List Fixture → List BodyState → List Bounds
all_bounds fixtures bodies = map (λ body. fixture_bounds body.0 body.1) (zip fixtures bodies)

-- the default for the bounds of a number without a body
abbrev pub no_bounds : Bounds
no_bounds = record { low = zero_vector; high = zero_vector; is_static = true }

-- the bounds of a body
abbrev pub bounds_at : List Bounds → ℕ → Bounds
bounds_at bs i = slice_index_or bs i no_bounds

-- bodies with these bounds are not both static, and the bounds overlap
unfoldable pub may_touch : Bounds → Bounds → Bool
may_touch a b = not (a.is_static && b.is_static) && overlaps a b

-- the bodies of a pair may touch
abbrev pub pair_may_touch : List Bounds → Pair → Bool
pair_may_touch bs p = may_touch (bounds_at bs p.a) (bounds_at bs p.b)

-- the second body has the greater number, and the two may touch
abbrev pub is_pair : List Bounds → ℕ → ℕ → Bool
is_pair bs i j = nat_lt i j && may_touch (bounds_at bs i) (bounds_at bs j)

abbrev pub pair : ℕ → ℕ → Pair
pair i j = record { a = i; b = j }

-- the pair at this place of a list
abbrev pub pair_at : List Pair → ℕ → Pair
pair_at ps i = slice_index_or ps i (pair 0 0)

-- the bodies of greater numbers that a body may touch, in ascending order
abbrev pub partners_of : List Bounds → ℕ → List ℕ
partners_of bs i = filter (is_pair bs i) (range_with_len 0 (length bs))

-- the pairs of one body with those of greater numbers, in ascending order
abbrev pub pairs_of : List Bounds → ℕ → List Pair
pairs_of bs i = map (pair i) (partners_of bs i)

-- the pairs of all bodies, in ascending order
abbrev pub pairs : List Bounds → List Pair
pairs bs = flat_map (pairs_of bs) (range_with_len 0 (length bs))
