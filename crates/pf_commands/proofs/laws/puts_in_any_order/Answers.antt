use Rattle.std.proofs.lemmas.List.Elements.{All-contains}
use Rattle.pf_commands.specs.Merge.{IsCommand}
use Rattle.pf_commands.proofs.Lists.{put_all-same}
use Rattle.pf_commands.proofs.laws.puts_in_any_order.Goals as goal

pub returns : goal.returns
returns c m commands others are each same = put_all-same m commands others are (λ d has. All-contains IsCommand commands d each has) same
