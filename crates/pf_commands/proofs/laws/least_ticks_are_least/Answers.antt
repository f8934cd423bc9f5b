use Rattle.std.proofs.Common.{map}
use Rattle.pf_commands.proofs.News.{least_of-least, least-least_of}
use Rattle.pf_commands.proofs.laws.least_ticks_are_least.Goals as goal

pub returns : goal.returns
returns c = λ commands tick. (
  least_of-least (map (λ e. e.0.tick) commands) tick,
  least-least_of (map (λ e. e.0.tick) commands) tick,
)
