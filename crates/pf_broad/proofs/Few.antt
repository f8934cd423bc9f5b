-- Fewer than two bodies have no pair.
use Rattle.std.proofs.Common.{◌≡◌, ◌<◌, List, [], ◌∷◌, length, refl, arith}
use Rattle.pf_shapes.specs.Bounds.{Bounds}
use Rattle.pf_shapes.specs.Fixture.{Fixture}
use Rattle.pf_shapes.specs.Body.{BodyState}
use Rattle.pf_broad.specs.Pairs.{pairs, all_bounds}
use Rattle.pf_broad.proofs.Within.{length-all_bounds}

-- one body has no other
few_bounds : (bs : List Bounds) → length bs < 2 → [] ≡ pairs bs
few_bounds [] h = refl
few_bounds (b ∷ []) h = refl
few_bounds (b ∷ (c ∷ bs)) h = absurd (omega arith)

pub few_bodies : (fixtures : List Fixture) (bodies : List BodyState) → length bodies ≡ length fixtures
    → length bodies < 2 → [] ≡ pairs (all_bounds fixtures bodies)
few_bodies fixtures bodies paired few =
    let same = length-all_bounds fixtures bodies paired in
    few_bounds (all_bounds fixtures bodies) (omega (arith, same))
