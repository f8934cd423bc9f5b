use Rattle.std.proofs.Common.{◌∙◌}
use Rattle.pf_manifold.proofs.Gaps.{gap-swap, apart_at_gap}
use Rattle.pf_manifold.proofs.laws.gaps_are_mirrored.Goals as goal

pub returns-clause-gap : goal.returns-clause-gap
returns-clause-gap c = gap-swap

pub returns-clause-apart : goal.returns-clause-apart
returns-clause-apart c = λ a b e. (apart_at_gap a b e, apart_at_gap b a (gap-swap a b ∙ e))
