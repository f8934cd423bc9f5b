use Rattle.std.proofs.Common.{◌≡◌, zero, suc, List, [], ◌∷◌, Some, refl, sym, ◌∙◌, arith}
use Rattle.pf_manifold.specs.ContactPoint.{ContactPoint}
use Rattle.pf_manifold.specs.Collide.{collide}
use Rattle.pf_manifold.specs.Laws.{HaveAscendingFeatures, HaveDifferentFeatures}
use Rattle.pf_manifold.proofs.Features.{AreAscending, bodies_ascend, few_points}
use Rattle.pf_manifold.proofs.FeatureRanges.{circles_features, box_and_circle_features, boxes_features}
use Rattle.pf_manifold.proofs.laws.features_ascend.Goals as goal

ascending : (points : List ContactPoint) → AreAscending points → HaveAscendingFeatures points
ascending [] h k within = absurd (omega arith)
ascending (p ∷ []) h k within = absurd (omega arith)
ascending (p ∷ (q ∷ [])) h zero within = h
ascending (p ∷ (q ∷ [])) h (suc k) within = absurd (omega arith)
ascending (p ∷ (q ∷ (r ∷ rest))) h k within = absurd h

feature_of : (p q : ContactPoint) → Some p ≡ Some q → p.feature ≡ q.feature
feature_of p q e = cc

different : (points : List ContactPoint) → AreAscending points → HaveDifferentFeatures points
different [] h i j p q at_i at_j same = absurd (cc)
different (x ∷ []) h zero zero p q at_i at_j same = refl
different (x ∷ []) h zero (suc j) p q at_i at_j same = absurd (cc)
different (x ∷ []) h (suc i) j p q at_i at_j same = absurd (cc)
different (x ∷ (y ∷ [])) h zero zero p q at_i at_j same = refl
different (x ∷ (y ∷ [])) h zero (suc zero) p q at_i at_j same =
    let e : x.feature ≡ y.feature = feature_of x p at_i ∙ same ∙ sym (feature_of y q at_j) in absurd (omega arith)
different (x ∷ (y ∷ [])) h zero (suc (suc j)) p q at_i at_j same = absurd (cc)
different (x ∷ (y ∷ [])) h (suc zero) zero p q at_i at_j same =
    let e : y.feature ≡ x.feature = feature_of y p at_i ∙ same ∙ sym (feature_of x q at_j) in absurd (omega arith)
different (x ∷ (y ∷ [])) h (suc zero) (suc zero) p q at_i at_j same = refl
different (x ∷ (y ∷ [])) h (suc zero) (suc (suc j)) p q at_i at_j same = absurd (cc)
different (x ∷ (y ∷ [])) h (suc (suc i)) j p q at_i at_j same = absurd (cc)
different (x ∷ (y ∷ (z ∷ rest))) h i j p q at_i at_j same = absurd h

pub returns-clause-few : goal.returns-clause-few
returns-clause-few c = λ a b. few_points (collide a b) (bodies_ascend a b)

pub returns-clause-ascending : goal.returns-clause-ascending
returns-clause-ascending c = λ a b. ascending (collide a b) (bodies_ascend a b)

pub returns-clause-different : goal.returns-clause-different
returns-clause-different c = λ a b. different (collide a b) (bodies_ascend a b)

pub returns-clause-circles : goal.returns-clause-circles
returns-clause-circles c = circles_features

pub returns-clause-box_and_circle : goal.returns-clause-box_and_circle
returns-clause-box_and_circle c = box_and_circle_features

pub returns-clause-boxes : goal.returns-clause-boxes
returns-clause-boxes c = boxes_features
