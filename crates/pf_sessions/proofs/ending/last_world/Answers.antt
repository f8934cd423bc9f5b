use Rattle.std.proofs.Common.{◌≤◌, arith}
use Rattle.pf_sessions.proofs.Worlds.{last_shown}
use Rattle.pf_sessions.proofs.ending.last_world.Goals as goal

pub returns-in-Ok : goal.returns-in-Ok
returns-in-Ok c =
    let peer = c.args.core.now.peer in
    let low : peer.horizon ≤ peer.reached = omega (arith, c.reached.ensures.horizon, c.reached.ensures.value) in
    last_shown c.args.core.now.scene peer c.reached.result c.in-Ok.world low c.reached.ensures.value c.in-Ok.ensures.value
