use Rattle.std.proofs.Common.{sym, subst, ap, ◌∙◌, length}
use Rattle.pf_shapes.specs.Pair.{IsAscending}
use Rattle.pf_broad.proofs.Ascending.{ascending}
use Rattle.pf_broad.proofs.Within.{pairs-IsPairOf}
use Rattle.pf_broad.proofs.broad_phase.BroadPhase.candidates.Goals as goal

pub returns-clause-ascending : goal.returns-clause-ascending
returns-clause-ascending c = subst IsAscending (sym (c.as_slice.ensures.value ∙ c.self.invariant.pairs)) (ascending c.self.inside.enlarged.items)

pub returns-clause-bodies : goal.returns-clause-bodies
returns-clause-bodies c =
    pairs-IsPairOf c.self.inside.enlarged.items _ _ (c.as_slice.ensures.value ∙ c.self.invariant.pairs) (ap length c.self.view_is)
