use Rattle.pf_console.proofs.Prefixes.{runs_alike, runs_write_all, runs_write_prefix}
use Rattle.pf_console.proofs.laws.runs_write_one_text.Goals as goal

pub returns : goal.returns
returns c = record { prefix = runs_write_prefix; all = runs_write_all; alike = runs_alike }
