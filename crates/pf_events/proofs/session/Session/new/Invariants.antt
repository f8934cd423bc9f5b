use Rattle.std.proofs.Common.{◌≡◌, map}
use Rattle.std.specs.List.{range_with_len}
use Rattle.pf_events.proofs.Sessions.{new_core}
use Rattle.pf_events.proofs.session.Session.new.Given as goal

abbrev pub invariant-loop-player : goal.invariant-loop-player
invariant-loop-player l = l.cores.items ≡ map (new_core l.fn.scene) (range_with_len 0 l.player)
