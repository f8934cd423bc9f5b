use Rattle.std.proofs.Common.{rules, ◌∙◌, ◌<◌, ◌++◌, ◌∷◌, [], List, Vec, ap, ap₂, arith, length, map, sym, take}
use Rattle.std.proofs.lemmas.List.{length-drop, map-append}
use Rattle.std.specs.Global.{Global}
use Rattle.pf_links.specs.declared.output.LinkOut.{LinkOut}
use Rattle.pf_scripts.specs.declared.peer.Peer.{Peer}
use Rattle.pf_sessions.specs.Ending.{receiver_of}
use Rattle.pf_sessions.specs.declared.ending.Receiver.{Receiver}
use Rattle.pf_sessions.proofs.Ends.{receiver_by}
use Rattle.pf_sessions.proofs.Zips.{taken_off}
use Rattle.pf_sessions.proofs.ending.take_apart.Goals as goal

pub loop-preserved : goal.loop-preserved
loop-preserved c =
    let all = c.args.peers.items in
    let k = c.loop.counter in
    let left = c.loop.peers.items in
    let peer = c.remove.result in
    let is = c.loop.invariant in
    let low : k < length all = search rules in
    let some : 0 < length left = omega (arith, ap length is.left, length-drop k all, low) in
    let both = taken_off all k left peer is.left some c.remove.ensures.value in
    let parts = c.into_parts-core.ensures in
    record {
      left = both.1 ∙ sym c.remove.ensures.items;
      receivers = c.in_ok-push.ensures.items
          ∙ ap₂ (λ (l : List Receiver) r. l ++ r ∷ []) is.receivers (ap₂ receiver_by parts.0 parts.2)
          ∙ sym (ap (map receiver_of) both.0 ∙ map-append receiver_of (take k all) (peer ∷ []));
      outputs = ap (map (λ (r : Vec LinkOut Global). r.items)) c.in_ok-push-2.ensures.items
          ∙ map-append (λ (r : Vec LinkOut Global). r.items) c.loop.outputs.items (c.into_parts-core.result.1 ∷ [])
          ∙ ap₂ (λ (l : List (List LinkOut)) (r : Vec LinkOut Global). l ++ r.items ∷ []) is.outputs parts.1
          ∙ sym (ap (map (λ (p : Peer). p.outputs.items)) both.0 ∙ map-append (λ (p : Peer). p.outputs.items) (take k all) (peer ∷ []));
    }
