use Rattle.pf_console.proofs.Alike.{sessions_alike, sessions_all, sessions_prefix}
use Rattle.pf_console.proofs.laws.sessions_write_one_text.Goals as goal

pub returns : goal.returns
returns c = record { prefix = sessions_prefix; all = sessions_all; alike = sessions_alike }
