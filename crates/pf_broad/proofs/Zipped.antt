-- The bounds of the bodies that a zip has left.
use Rattle.std.proofs.Common.{◌≡◌, ◌<◌, ◌≤◌, ◌⊎◌, List, [], ◌∷◌, ◌++◌, true, length, min, nat_eq, refl, sym, ap, ◌∙◌, ⊎_elim, arith, append_assoc}
use Rattle.std.proofs.lemmas.Bool.Decides.{nat_tests}
use Rattle.pf_shapes.specs.Fixture.{Fixture}
use Rattle.pf_shapes.specs.Body.{BodyState}
use Rattle.pf_shapes.specs.Bounds.{Bounds, fixture_bounds}
use Rattle.pf_broad.specs.Pairs.{all_bounds}

no_bodies : (fixtures : List Fixture) → all_bounds fixtures [] ≡ []
no_bodies [] = refl
no_bodies (f ∷ fixtures) = refl

-- where a list has ended no bounds are left
pub bounds_of_none : (fixtures : List Fixture) (bodies : List BodyState) → (fixtures ≡ []) ⊎ (bodies ≡ []) → all_bounds fixtures bodies ≡ []
bounds_of_none fixtures bodies ended =
    ⊎_elim
    (λ (none : fixtures ≡ []). ap (λ fs. all_bounds fs bodies) none)
    (λ (none : bodies ≡ []). ap (all_bounds fixtures) none ∙ no_bodies fixtures)
    ended

-- no more bounds than fixtures
pub length-all_bounds_le : (fixtures : List Fixture) (bodies : List BodyState) → length (all_bounds fixtures bodies) ≤ length fixtures
length-all_bounds_le [] bodies = omega arith
length-all_bounds_le (f ∷ fixtures) [] = omega arith
length-all_bounds_le (f ∷ fixtures) (b ∷ bodies) = omega (arith, length-all_bounds_le fixtures bodies)

-- no bodies have no bounds
pub bounds_of_no_bodies : (fixtures : List Fixture) (bodies : List BodyState) → nat_eq (length bodies) 0 ≡ true → all_bounds fixtures bodies ≡ []
bounds_of_no_bodies fixtures [] none = no_bodies fixtures
bounds_of_no_bodies fixtures (b ∷ bodies) none = absurd (grind (arith, nat_tests))

-- where nothing is done, all bounds are left
pub first_bounds : (done : List Bounds) (fixtures rest : List Fixture) (bodies others : List BodyState) → done ≡ [] → rest ≡ fixtures → others ≡ bodies
    → done ++ all_bounds rest others ≡ all_bounds fixtures bodies
first_bounds done fixtures rest bodies others empty first second = λ k. empty k ++ all_bounds (first k) (second k)

-- the bounds of the next body, behind those that are done
pub next_bounds : (all done new : List Bounds) (fixtures rest : List Fixture) (bodies others : List BodyState) (f : Fixture) (b : BodyState) (next : Bounds)
    → done ++ all_bounds fixtures bodies ≡ all → fixtures ≡ f ∷ rest → bodies ≡ b ∷ others → next ≡ fixture_bounds f b → new ≡ done ++ next ∷ []
    → new ++ all_bounds rest others ≡ all
next_bounds all done new fixtures rest bodies others f b next before first second value pushed =
    ap (λ l. l ++ all_bounds rest others) pushed
    ∙ append_assoc done (next ∷ []) (all_bounds rest others)
    ∙ ap (λ v. done ++ v ∷ all_bounds rest others) value
    ∙ sym (λ k. done ++ all_bounds (first k) (second k))
    ∙ before

-- fewer bodies are left after one of them
pub fewer_left : (fixtures rest : List Fixture) (bodies others : List BodyState) (f : Fixture) (b : BodyState) → fixtures ≡ f ∷ rest → bodies ≡ b ∷ others
    → min (length rest) (length others) < min (length fixtures) (length bodies)
fewer_left fixtures rest bodies others f b first second = omega (arith, ap length first, ap length second)
