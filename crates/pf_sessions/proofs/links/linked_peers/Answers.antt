use Rattle.std.proofs.Common.{rules, ◌≡◌, ◌∙◌, ◌+◌, ◌<◌, ◌++◌, ◌∷◌, [], List, Vec, ap, ap₂, arith, length, map, subst, sym, take}
use Rattle.std.proofs.lemmas.List.{length-drop, map-append}
use Rattle.std.specs.Global.{Global}
use Rattle.std.specs.List.{AllZip, range_with_len}
use Rattle.pf_links.specs.declared.input.LinkIn.{LinkIn}
use Rattle.pf_links.specs.declared.output.LinkOut.{LinkOut}
use Rattle.pf_rollback.specs.Core.{new_core}
use Rattle.pf_scripts.specs.declared.peer.Peer.{Peer}
use Rattle.pf_sessions.specs.Playing.{IsNewPeer}
use Rattle.pf_sessions.specs.declared.links.TheConstants.{RING}
use Rattle.pf_sessions.proofs.Zips.{range_more, taken_off, zip_push}
use Rattle.pf_sessions.proofs.links.linked_peers.Goals as goal

pub loop-player-preserved : goal.loop-player-preserved
loop-player-preserved c =
    let scene = c.args.scene.now in
    let k = c.loop-player.player in
    let outs = c.in_ok-outputs.outputs.items in
    let ins = c.in_ok-outputs.inputs.items in
    let is = c.loop-player.invariant in
    let low : k < c.args.count = search rules in
    let counts = c.in_ok-outputs.ensures.counts in
    let some_outs : 0 < length c.loop-player.outputs.items = omega (arith, ap length is.outputs_left, length-drop k outs, low, counts.0) in
    let some_ins : 0 < length c.loop-player.inputs.items = omega (arith, ap length is.inputs_left, length-drop k ins, low, counts.1) in
    let out = c.remove.result in
    let into = c.remove-in-loop-player.result in
    let next_out = taken_off outs k c.loop-player.outputs.items out is.outputs_left some_outs c.remove.ensures.value in
    let next_in = taken_off ins k c.loop-player.inputs.items into is.inputs_left some_ins c.remove-in-loop-player.ensures.value in
    let peer = c.new-in-loop-player.result in
    let made = c.new-in-loop-player.ensures in
    let peers = c.loop-player.peers.items in
    let items = c.in_ok-push.ensures.items in
    let new : IsNewPeer scene k peer = record {
      core = made.0 ∙ c.in_ok-core.ensures ∙ ap (λ s. new_core s k RING) c.in_ok-try_clone.ensures.value;
      kept = made.3;
    } in
    let number : 0 + k ≡ k = omega arith in
    record {
      outputs_left = next_out.1 ∙ sym c.remove.ensures.items;
      inputs_left = next_in.1 ∙ sym c.remove-in-loop-player.ensures.items;
      each = subst (λ l. AllZip (IsNewPeer scene) l c.push.new.self.items) (sym (range_more 0 k ∙ ap (λ n. range_with_len 0 k ++ n ∷ []) number))
          (subst (AllZip (IsNewPeer scene) (range_with_len 0 k ++ k ∷ [])) (sym items) (zip_push (IsNewPeer scene) (range_with_len 0 k) peers k peer is.each new));
      outputs = ap (map (λ (p : Peer). p.outputs.items)) items ∙ map-append (λ (p : Peer). p.outputs.items) peers (peer ∷ [])
          ∙ ap₂ (λ (l : List (List LinkOut)) (r : Vec LinkOut Global). l ++ r.items ∷ []) is.outputs made.1
          ∙ sym (ap (map (λ (r : Vec LinkOut Global). r.items)) next_out.0 ∙ map-append (λ (r : Vec LinkOut Global). r.items) (take k outs) (out ∷ []));
      inputs = ap (map (λ (p : Peer). p.inputs.items)) items ∙ map-append (λ (p : Peer). p.inputs.items) peers (peer ∷ [])
          ∙ ap₂ (λ (l : List (List LinkIn)) (r : Vec LinkIn Global). l ++ r.items ∷ []) is.inputs made.2
          ∙ sym (ap (map (λ (r : Vec LinkIn Global). r.items)) next_in.0 ∙ map-append (λ (r : Vec LinkIn Global). r.items) (take k ins) (into ∷ []));
    }
