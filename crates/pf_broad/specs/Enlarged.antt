-- Enlarged bounds, as the fat AABBs of Box2D's b2DynamicTree: pairs of bodies are searched for by
-- them, and kept until a body has left its enlarged bounds.
use Rattle.std.specs.Prelude.{◌≡◌, ℕ, ◌<◌, ◌≤◌, ℤ, Bool, true, false, not, ◌&&◌, ◌||◌, List, length, filter, All, int_le}
use Rattle.std.specs.List.{range_with_len}
use Rattle.pf_shapes.specs.Bounds.{Bounds, IsOrdered}
use Rattle.pf_shapes.specs.Pair.{Pair}
use Rattle.pf_shapes.specs.declared.scene.TheConstants.{MAX_BODIES}
use Rattle.pf_broad.specs.Pairs.{bounds_at, pairs}
use Rattle.pf_broad.specs.Partners.{has_body}

-- on one axis: the first range contains the second
abbrev pub contains_range : ℤ → ℤ → ℤ → ℤ → Bool
contains_range outer_low outer_high low high = int_le outer_low low && int_le high outer_high

-- on both axes; and where the first are static, so are the second
unfoldable pub contains : Bounds → Bounds → Bool
contains a b =
    (not a.is_static || b.is_static)
    && (contains_range a.low.x a.high.x b.low.x b.high.x
    && contains_range a.low.y a.high.y b.low.y b.high.y)

-- each body's enlarged bounds contain its bounds
pub record AreEnlarged (enlarged bounds : List Bounds) : Type 0 where
  pub as_many : length enlarged ≡ length bounds
  pub each : (k : ℕ) → k < length bounds
      → contains (bounds_at enlarged k) (bounds_at bounds k) ≡ true

-- the enlarged bounds of each body that is not listed contain its bounds
abbrev pub AreContained : List ℕ → List Bounds → List Bounds → Type 0
AreContained dirty enlarged bounds =
    (k : ℕ) → k < length bounds → has_body dirty k ≡ false
    → contains (bounds_at enlarged k) (bounds_at bounds k) ≡ true

-- the bodies that left their enlarged bounds
abbrev pub left_bodies : List Bounds → List Bounds → List ℕ
left_bodies enlarged bounds =
    filter (λ k. not (contains (bounds_at enlarged k) (bounds_at bounds k)))
    (range_with_len 0 (length bounds))

-- only these bodies have other bounds
abbrev pub AreSameBut : List ℕ → List Bounds → List Bounds → Type 0
AreSameBut bodies old new = (k : ℕ) → has_body bodies k ≡ false → bounds_at new k ≡ bounds_at old k

-- the pairs of bodies with these enlarged bounds are these
pub record AreCandidates (enlarged : List Bounds) (candidates : List Pair) : Type 0 where
  pub few : length enlarged ≤ MAX_BODIES
  pub ordered : All IsOrdered enlarged
  pub pairs : candidates ≡ pairs enlarged

-- whether a pair has one of these bodies
abbrev pub has_one_of : List ℕ → Pair → Bool
has_one_of bodies p = has_body bodies p.a || has_body bodies p.b

-- the pairs without these bodies
abbrev pub pairs_without : List ℕ → List Pair → List Pair
pairs_without bodies ps = filter (λ p. not (has_one_of bodies p)) ps
