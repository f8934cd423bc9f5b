use Rattle.std.proofs.Common.{◌≡◌, drop, take}
use Rattle.pf_scripts.specs.Peer.{scripted_player, setting_of}
use Rattle.pf_scripts.specs.Play.{HasMoved}
use Rattle.pf_scripts.specs.Script.{frame_bytes, frame_fault, place_after}
use Rattle.pf_scripts.proofs.peer.Peer.take_all_own.Given as goal

abbrev pub invariant-loop-number : goal.invariant-loop-number
invariant-loop-number l =
    let s = setting_of l.fn.self in
    let player = (scripted_player l.fn.self).player in
    let all = frame_bytes l.fn.frames in record {
      moved : HasMoved (take l.number all) 0 l.fn.self l.self;
      place : place_after l.fn.place all ≡ place_after l.place (drop l.number all);
      fault : frame_fault s player l.fn.place all ≡ frame_fault s player l.place (drop l.number all);
    }
