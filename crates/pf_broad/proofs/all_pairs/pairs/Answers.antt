use Rattle.std.proofs.Common.{◌≡◌, length, sym, subst, ◌∙◌, arith}
use Rattle.std.proofs.lemmas.Result.{IfOk-weaker}
use Rattle.std.specs.List.{All}
use Rattle.pf_broad.specs.Pairs.{pairs}
use Rattle.pf_shapes.specs.Pair.{IsPairOf}
use Rattle.pf_shapes.specs.Pair.{IsAscending}
use Rattle.pf_broad.proofs.Ascending.{ascending}
use Rattle.pf_broad.proofs.Within.{pairs_within}
use Rattle.pf_broad.proofs.Few.{few_bodies}
use Rattle.pf_broad.proofs.all_pairs.pairs.Goals as goal

pub returns-then-bodies-lt2-clause-pairs : goal.returns-then-bodies-lt2-clause-pairs
returns-then-bodies-lt2-clause-pairs c =
    let none = few_bodies c.args.scene.now.fixtures c.args.bodies.now c.requires (omega arith) in cc

pub returns-clause-ascending : goal.returns-clause-ascending
returns-clause-ascending c =
    IfOk-weaker c.all_pairs.result (λ found. found.items ≡ pairs c.deref-2.result.now) (λ found. IsAscending found.items)
    (λ found e. subst IsAscending (sym e) (ascending c.deref-2.result.now)) c.all_pairs.ensures

pub returns-clause-bodies : goal.returns-clause-bodies
returns-clause-bodies c =
    IfOk-weaker c.all_pairs.result (λ found. found.items ≡ pairs c.deref-2.result.now) (λ found. All (IsPairOf (length c.args.bodies.now)) found.items)
    (λ found e. pairs_within c.args.scene.now.fixtures c.args.bodies.now c.deref-2.result.now found.items c.requires
    (c.deref-2.ensures.value ∙ c.in_ok-bounds.ensures.value) e) c.all_pairs.ensures
