use Rattle.std.proofs.Common.{◌≡◌, length, sym, arith}
use Rattle.pf_commands.specs.News.{news}
use Rattle.pf_commands.proofs.Changes.{merge-no_news}
use Rattle.pf_commands.proofs.map.CommandMap.merge.Goals as goal

pub returns-else-merged-gt0-clause-ok : goal.returns-else-merged-gt0-clause-ok
returns-else-merged-gt0-clause-ok c =
    let none : length (news c.args.self.now c.args.other.now) ≡ 0 = omega (arith, c.news-merged.ensures.count_is) in
    sym (merge-no_news c.args.self.now c.args.other.now none)
