use Rattle.pf_rollback.proofs.Simulation.{sim_at_start}
use Rattle.pf_rollback.proofs.laws.unsealed_peers_simulate_from_tick_zero.Goals as goal

pub returns : goal.returns
returns c = sim_at_start
