use Rattle.std.proofs.Common.{ap, ◌∙◌, ◌++◌}
use Rattle.pf_text.proofs.LinesOf.{lines_of-AreLines, lines_of-rest}
use Rattle.pf_text.proofs.laws.lines_are_the_parts_between_feeds.Goals as goal

pub returns : goal.returns
returns c = λ text lines rest are last. lines_of-AreLines text lines rest are ∙ ap (λ more. lines ++ more) (lines_of-rest rest last)
