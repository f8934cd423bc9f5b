use Rattle.pf_sessions.proofs.Transposes.{entries_exchanged, length-transpose, table-transpose, transpose-transpose}
use Rattle.pf_sessions.proofs.laws.transposes_exchange_peers.Goals as goal

pub returns-clause-table : goal.returns-clause-table
returns-clause-table c rows table = (table-transpose rows table, length-transpose rows table)

pub returns-clause-back : goal.returns-clause-back
returns-clause-back c rows = transpose-transpose rows

pub returns-clause-entries : goal.returns-clause-entries
returns-clause-entries c rows own other = entries_exchanged rows own other
