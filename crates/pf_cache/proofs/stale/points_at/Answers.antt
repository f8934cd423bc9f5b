use Rattle.std.proofs.Common.{◌≡◌, ◌∙◌, ◌∷◌, ◌+◌, ◌-◌, ◌≤◌, None, Some, ap, drop, length, rules, subst, sym, take, true}
use Rattle.std.specs.List.{prefix_len}
use Rattle.std.specs.Prelude.{IfSome, if◌then◌else◌}
use Rattle.pf_broad.specs.Pairs.{pair_may_touch}
use Rattle.pf_cache.specs.Manifolds.{points_of_pair}
use Rattle.pf_cache.specs.Slots.{is_of_pair}
use Rattle.pf_cache.specs.Stale.{AreNextPoints}
use Rattle.pf_cache.proofs.Filling.{Follow, Next, points_behind, taken_points}
use Rattle.pf_cache.proofs.stale.points_at.Goals as goal

pub manifold_of-requires-clause-touches : goal.manifold_of-requires-clause-touches
manifold_of-requires-clause-touches c =
    let shapes = c.args.shapes.now in
    let pair = c.args.pair.now in
    let overlap : pair_may_touch c.args.bounds.now pair ≡ true = search rules in
    let next = subst (λ o. IfSome o (λ touches. Next shapes touches.items c.args.start pair (pair_may_touch c.args.bounds.now pair))) c.in-Some.is c.requires.next in
    let are = subst (λ b. AreNextPoints shapes c.in-Some.touches.items c.args.start (if b then pair ∷ next.0 else next.0)) overlap next.2 in
    let count = c.count_of_pair.ensures.count ∙ ap (λ ts. prefix_len (is_of_pair pair) (drop c.args.start ts)) c.deref.ensures.value in
    ap (λ ts. take ((c.args.start + c.count_of_pair.result) - c.args.start) (drop c.args.start ts)) c.deref-in-Some.ensures.value
    ∙ taken_points shapes c.in-Some.touches.items c.args.start pair next.0 next.1 are c.count_of_pair.result count

pub returns-in-Some-clause-points : goal.returns-in-Some-clause-points
returns-in-Some-clause-points c =
    let shapes = c.args.shapes.now in
    let pair = c.args.pair.now in
    let overlap : pair_may_touch c.args.bounds.now pair ≡ true = search rules in
    let next = subst (λ o. IfSome o (λ touches. Next shapes touches.items c.args.start pair (pair_may_touch c.args.bounds.now pair))) c.in-Some.is c.requires.next in
    let are = subst (λ b. AreNextPoints shapes c.in-Some.touches.items c.args.start (if b then pair ∷ next.0 else next.0)) overlap next.2 in
    let count = c.count_of_pair.ensures.count ∙ ap (λ ts. prefix_len (is_of_pair pair) (drop c.args.start ts)) c.deref.ensures.value in
    let points = ap (λ ts. take ((c.args.start + c.count_of_pair.result) - c.args.start) (drop c.args.start ts)) c.deref-in-Some.ensures.value
    ∙ taken_points shapes c.in-Some.touches.items c.args.start pair next.0 next.1 are c.count_of_pair.result count in
    ap Some (c.manifold_of.ensures ∙ points) ∙ sym (ap (λ b. if b then Some (points_of_pair shapes pair) else None) overlap)

pub returns-in-Some-clause-next : goal.returns-in-Some-clause-next
returns-in-Some-clause-next c =
    let shapes = c.args.shapes.now in
    let pair = c.args.pair.now in
    let may = pair_may_touch c.args.bounds.now pair in
    let overlap : may ≡ true = search rules in
    let count = c.count_of_pair.ensures.count ∙ ap (λ ts. prefix_len (is_of_pair pair) (drop c.args.start ts)) c.deref.ensures.value in
    subst (λ o. IfSome o (λ touches. Follow shapes touches.items c.args.start (c.args.start + c.count_of_pair.result) pair may)) (sym c.in-Some.is)
    (λ later up are.
    points_behind shapes c.in-Some.touches.items c.args.start pair later up
    (subst (λ b. AreNextPoints shapes c.in-Some.touches.items c.args.start (if b then pair ∷ later else later)) overlap are)
    c.count_of_pair.result count
    (subst (λ ts. c.args.start + c.count_of_pair.result ≤ length ts) c.deref.ensures.value c.count_of_pair.ensures.within))
