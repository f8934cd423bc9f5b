use Rattle.std.proofs.Common.{subst}
use Rattle.pf_commands.specs.Merge.{IsCommandMap}
use Rattle.pf_scripts.specs.Frames.{commands_in}
use Rattle.pf_scripts.specs.Peer.{kept_of, scripted_player, setting_of}
use Rattle.pf_scripts.proofs.Maps.{ranges_kept}
use Rattle.pf_scripts.proofs.peer.Peer.in_range.Goals as goal

pub returns-clause-core : goal.returns-clause-core
returns-clause-core c = subst IsCommandMap c.commands.ensures.value c.len-count.ensures.range

pub returns-clause-all : goal.returns-clause-all
returns-clause-all c =
    let p = c.args.self.now in
    ranges_kept (scripted_player p).commands (commands_in (setting_of p) (kept_of p))
    (subst IsCommandMap c.commands.ensures.value c.len-count.ensures.range) p.ranges
