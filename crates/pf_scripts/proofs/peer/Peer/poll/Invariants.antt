use Rattle.std.proofs.Common.{◌≡◌, None}
use Rattle.pf_scripts.specs.Peer.{kept_of, scripted_player, setting_of}
use Rattle.pf_scripts.proofs.Polls.{ArePolled}
use Rattle.pf_scripts.proofs.peer.Peer.poll.Given as goal

abbrev pub invariant-loop-number : goal.invariant-loop-number
invariant-loop-number l =
    let old = l.fn.self in record {
      polled : ArePolled (setting_of old) (scripted_player old) (kept_of old) old.inputs.items l.number (scripted_player l.self) l.self.inputs.items l.polled;
      setting : setting_of l.self ≡ setting_of old;
      kept : l.self.kept ≡ None;
      outputs : l.self.outputs ≡ old.outputs;
    }
