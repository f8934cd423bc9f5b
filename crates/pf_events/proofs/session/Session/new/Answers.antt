use Rattle.std.proofs.Common.{◌≡◌, ℕ, List, map, refl, ap, ◌∙◌, arith}
use Rattle.std.specs.List.{range_with_len}
use Rattle.std.proofs.lemmas.List.FromFn.{length-map-range_with_len, map-range_with_len_more}
use Rattle.pf_rollback.specs.Peer.{Peer, new_peer}
use Rattle.pf_events.specs.Session.{Session}
use Rattle.pf_events.proofs.Sessions.{new_core, peers_of, peers_of-new_core, scene_of-new_core}
use Rattle.pf_events.proofs.session.Session.new.Goals as goal

pub loop-player-preserved : goal.loop-player-preserved
loop-player-preserved c =
    let more = map-range_with_len_more (new_core c.args.scene) 0 c.loop-player.player c.loop-player.player (omega arith) in
    let copied : c.in_ok-copy.copy ≡ c.args.scene = c.in_ok-copy.ensures.value in
    c.in_ok-push.ensures.items ∙ rw (c.in_ok-new.ensures, copied, c.loop-player.invariant, more) refl

pub invariant_of-result : goal.invariant_of-result
invariant_of-result c = rw c.loop-player.invariant (record {
  few = omega (arith, length-map-range_with_len (new_core c.args.scene) 0 c.loop-player.player, c.requires);
  scenes = scene_of-new_core c.args.scene (range_with_len 0 c.loop-player.player);
})

pub returns : goal.returns
returns c =
    let all : c.loop-player.player ≡ c.args.peers = omega arith in
    let with_peers : List Peer → Session = λ ps. record { scene = c.args.scene; peers = ps } in
    record {
      value = ap with_peers (ap peers_of c.loop-player.invariant
          ∙ peers_of-new_core c.args.scene (range_with_len 0 c.loop-player.player)
          ∙ ap (λ (n : ℕ). map (new_peer c.args.scene) (range_with_len 0 n)) all);
      no_memory = λ none. refl;
    }
