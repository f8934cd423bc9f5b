use Rattle.std.proofs.Common.{rules, ◌≡◌, ◌∙◌, ◌<◌, ◌++◌, ◌∷◌, [], List, Vec, ap, ap₂, arith, length, map, subst, sym, take}
use Rattle.std.proofs.lemmas.List.{length-drop, map-append}
use Rattle.std.proofs.lemmas.List.Elements.{All-push}
use Rattle.std.specs.Global.{Global}
use Rattle.std.specs.Prelude.{All}
use Rattle.pf_links.specs.declared.output.LinkOut.{LinkOut}
use Rattle.pf_rollback.specs.Core.{PeerCore}
use Rattle.pf_scripts.specs.declared.peer.Peer.{Peer}
use Rattle.pf_rollback.specs.Peer.{world_of}
use Rattle.pf_step.specs.World.{World}
use Rattle.pf_sessions.specs.Ending.{ShowsLast, receiver_of}
use Rattle.pf_sessions.specs.declared.ending.Receiver.{Receiver}
use Rattle.pf_sessions.proofs.Ends.{receiver_by}
use Rattle.pf_sessions.proofs.Zips.{taken_off}
use Rattle.pf_sessions.proofs.ending.show_all.Goals as goal

pub loop-preserved : goal.loop-preserved
loop-preserved c =
    let all = c.args.receivers.items in
    let rows = c.args.outputs.items in
    let k = c.loop.counter in
    let left = c.loop.receivers.items in
    let rows_left = c.loop.outputs.items in
    let receiver = c.remove-core.result in
    let row = c.remove.result in
    let is = c.loop.invariant in
    let low : k < length all = search rules in
    let many : length rows ≡ length all = c.requires in
    let some : 0 < length left = omega (arith, ap length is.receivers_left, length-drop k all, low) in
    let some_rows : 0 < length rows_left = omega (arith, ap length is.outputs_left, length-drop k rows, low, many) in
    let both = taken_off all k left receiver is.receivers_left some c.remove-core.ensures.value in
    let both_rows = taken_off rows k rows_left row is.outputs_left some_rows c.remove.ensures.value in
    let peer = c.new.result in
    let made = c.new.ensures in
    let e : Peer × World = (peer, c.in_ok-world.world) in
    let last : ShowsLast e = record {
      kept = made.3;
      world = c.in_ok-world.ensures ∙ ap (λ (core : PeerCore). world_of core.scene core.peer core.peer.reached) (sym made.0);
    } in
    let receivers_of : Peer × World → Receiver = λ x. receiver_of x.0 in
    let rows_in : Peer × World → List LinkOut = λ x. x.0.outputs.items in
    record {
      receivers_left = both.1 ∙ sym c.remove-core.ensures.items;
      outputs_left = both_rows.1 ∙ sym c.remove.ensures.items;
      receivers = ap (map (λ (x : Peer × World). receiver_of x.0)) c.in_ok-push.ensures.items
          ∙ map-append (λ (x : Peer × World). receiver_of x.0) c.loop.ended.items (e ∷ [])
          ∙ ap₂ (λ (l : List Receiver) r. l ++ r ∷ []) is.receivers (ap₂ receiver_by made.0 made.2) ∙ sym both.0;
      outputs = ap (λ (l : List (Peer × World)). map (λ (p : Peer). p.outputs.items) (map (λ (x : Peer × World). x.0) l)) c.in_ok-push.ensures.items
          ∙ ap (map (λ (p : Peer). p.outputs.items)) (map-append (λ (x : Peer × World). x.0) c.loop.ended.items (e ∷ []))
          ∙ map-append (λ (p : Peer). p.outputs.items) (map (λ (x : Peer × World). x.0) c.loop.ended.items) (peer ∷ [])
          ∙ ap₂ (λ (l : List (List LinkOut)) (r : Vec LinkOut Global). l ++ r.items ∷ []) is.outputs made.1
          ∙ sym (ap (map (λ (r : Vec LinkOut Global). r.items)) both_rows.0 ∙ map-append (λ (r : Vec LinkOut Global). r.items) (take k rows) (row ∷ []));
      shown = subst (All ShowsLast) (sym c.in_ok-push.ensures.items) (All-push ShowsLast c.loop.ended.items e is.shown last);
    }
