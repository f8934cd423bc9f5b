use Rattle.std.proofs.Common.{All, List, ap, sym, subst, ◌∙◌}
use Rattle.pf_shapes.specs.Bounds.{Bounds, IsOrdered}
use Rattle.pf_broad.specs.Pairs.{pairs}
use Rattle.pf_broad.proofs.Enlarging.{candidates_of, enlarged_bounds-IsOrdered}
use Rattle.pf_broad.proofs.broad_phase.BroadPhase.of.Goals as goal

pub of_bounds-requires-clause-ordered : goal.of_bounds-requires-clause-ordered
of_bounds-requires-clause-ordered c =
    let P : List Bounds → Type 0 = λ l. All IsOrdered l in
    subst P (sym c.deref.ensures.value) (enlarged_bounds-IsOrdered c.in_ok-enlarged.enlarged.items c.args.bounds.now c.in_ok-enlarged.ensures c.requires.ordered)

pub all_pairs-requires-clause-ordered : goal.all_pairs-requires-clause-ordered
all_pairs-requires-clause-ordered c =
    let P : List Bounds → Type 0 = λ l. All IsOrdered l in
    subst P (sym c.deref-2.ensures.value) (enlarged_bounds-IsOrdered c.in_ok-enlarged.enlarged.items c.args.bounds.now c.in_ok-enlarged.ensures c.requires.ordered)

pub invariant_of-result : goal.invariant_of-result
invariant_of-result c =
    candidates_of c.in_ok-enlarged.enlarged.items c.args.bounds.now c.in_ok-candidates.candidates.items c.in_ok-enlarged.ensures c.requires.ordered c.requires.few
    (c.in_ok-candidates.ensures ∙ ap pairs c.deref-2.ensures.value)
