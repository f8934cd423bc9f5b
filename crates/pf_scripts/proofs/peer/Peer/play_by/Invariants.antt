use Rattle.std.proofs.Common.{◌≡◌, ◌<◌, None, drop, take}
use Rattle.pf_rollback.specs.Kept.{settled_tick}
use Rattle.pf_scripts.specs.Peer.{scripted_player, setting_of}
use Rattle.pf_scripts.specs.Play.{HasMoved}
use Rattle.pf_scripts.specs.Script.{script_frames, script_fault, script_ticks}
use Rattle.pf_scripts.proofs.peer.Peer.play_by.Given as goal

abbrev pub invariant-loop-number : goal.invariant-loop-number
invariant-loop-number g l =
    let s = setting_of l.fn.self in
    let player = (scripted_player l.fn.self).player in record {
      moved : HasMoved (script_frames (take l.number l.fn.script)) (script_ticks (take l.number l.fn.script)) l.fn.self l.peer;
      fault : script_fault s player 0 (scripted_player l.fn.self).reached l.fn.script
          ≡ script_fault s player l.place (scripted_player l.peer).reached (drop l.number l.fn.script);
      done : 0 < l.number → (l.peer.kept ≡ None) × (settled_tick l.peer.core.kept ≡ (scripted_player l.peer).reached);
      idle : l.number ≡ 0 → l.peer ≡ l.fn.self;
    }
