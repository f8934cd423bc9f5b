use Rattle.std.proofs.Common.{rules, ◌≡◌, ◌∙◌, Vec, ap, map}
use Rattle.std.specs.Global.{Global}
use Rattle.std.specs.Prelude.{All}
use Rattle.pf_scripts.specs.declared.peer.Peer.{Peer}
use Rattle.pf_step.specs.World.{World}
use Rattle.pf_sessions.specs.Ending.{AreEnded, ShowsLast, receiver_of}
use Rattle.pf_sessions.specs.Links.{outputs_of, table_rows}
use Rattle.pf_sessions.specs.Table.{transpose}
use Rattle.pf_sessions.proofs.Ends.{all_ended, ends_by_receiver, rows_many, senders_table_on}
use Rattle.pf_sessions.proofs.Zips.{ok_three}
use Rattle.pf_sessions.proofs.ending.end_session.Goals as goal

pub finish_all-requires : goal.finish_all-requires
finish_all-requires g c =
    let peers = c.args.peers.items in
    let parts = c.in_ok-receivers.ensures in (
      search rules,
      ends_by_receiver peers c.requires c.in_ok-receivers.receivers.items (table_rows c.in_ok-senders.senders.items) parts.receivers
          (c.in_ok-senders.ensures ∙ ap transpose parts.outputs),
    )

pub transpose-requires-2 : goal.transpose-requires-2
transpose-requires-2 g c =
    let peers = c.args.peers.items in
    let parts = c.in_ok-receivers.ensures in
    senders_table_on peers c.requires (table_rows c.in_ok-senders.senders.items) (table_rows c.in_ok-receivers-2.senders.items)
    (c.in_ok-senders.ensures ∙ ap transpose parts.outputs) c.in_ok-receivers-2.ensures.handed

pub show_all-requires : goal.show_all-requires
show_all-requires g c =
    let peers = c.args.peers.items in
    let parts = c.in_ok-receivers.ensures in
    let after = c.in_ok-receivers-2 in
    rows_many peers c.requires (table_rows c.in_ok-senders.senders.items) (table_rows after.senders.items) c.in_ok-outputs.outputs.items after.receivers.items
    (c.in_ok-senders.ensures ∙ ap transpose parts.outputs) after.ensures.handed c.in_ok-outputs.ensures after.ensures.links

pub returns : goal.returns
returns g c =
    let peers = c.args.peers.items in
    let parts = c.in_ok-receivers.ensures in
    let after = c.in_ok-receivers-2 in
    let senders = table_rows c.in_ok-senders.senders.items in
    let outputs = c.in_ok-outputs.outputs in
    ok_three (λ (v : Vec (Peer × World) Global). map (λ (e : Peer × World). receiver_of e.0) v.items ≡ after.receivers.items)
    (λ (v : Vec (Peer × World) Global). outputs_of (map (λ (e : Peer × World). e.0) v.items) ≡ table_rows outputs.items)
    (λ (v : Vec (Peer × World) Global). All ShowsLast v.items) (λ (v : Vec (Peer × World) Global). AreEnded peers v.items)
    (λ v same rows shown. all_ended peers c.requires c.in_ok-receivers.receivers.items senders after.receivers.items (table_rows after.senders.items) (table_rows outputs.items) v.items
    parts.receivers (c.in_ok-senders.ensures ∙ ap transpose parts.outputs) after.ensures.finished after.ensures.links after.ensures.handed c.in_ok-outputs.ensures same rows shown)
    c.show_all.result c.show_all.ensures.receivers c.show_all.ensures.outputs c.show_all.ensures.shown
