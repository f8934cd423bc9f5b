use Rattle.std.proofs.Common.{◌≡◌, ◌<◌, None, []}
use Rattle.pf_scripts.specs.Play.{HasMoved}
use Rattle.pf_scripts.proofs.peer.Peer.poll_all.Given as goal

abbrev pub invariant-loop : goal.invariant-loop
invariant-loop l = record {
  moved : HasMoved [] 0 l.fn.self l.self;
  kept : 0 < l.counter → l.self.kept ≡ None;
}
