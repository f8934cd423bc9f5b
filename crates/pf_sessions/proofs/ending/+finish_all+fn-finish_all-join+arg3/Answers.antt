use Rattle.std.proofs.Common.{rules, ◌≡◌, ◌<◌, Vec, ap, length, subst}
use Rattle.std.specs.Global.{Global}
use Rattle.std.specs.Prelude.{IfOk}
use Rattle.std.specs.List.{AllZip}
use Rattle.pf_links.specs.declared.output.LinkOut.{LinkOut}
use Rattle.pf_sessions.specs.Ending.{AreFinished, HasFinished}
use Rattle.pf_sessions.specs.Links.{IsDelivered, table_rows}
use Rattle.pf_sessions.specs.Rest.{KeepsHanded}
use Rattle.pf_sessions.specs.declared.ending.Receiver.{Receiver}
use Rattle.pf_sessions.proofs.Ends.{none_finished, one_finished}
use Rattle.pf_sessions.proofs.Zips.{first_removed}
use Rattle.pf_sessions.proofs.ending.+finish_all+fn-finish_all-join+arg3.Goals as goal

pub returns-then-is_empty : goal.returns-then-is_empty
returns-then-is_empty g t c =
    let none : length c.args.receivers.items ≡ 0 = search rules in
    none_finished c.args.receivers.items (table_rows c.args.senders.items) none c.requires

pub returns : goal.returns
returns g t c =
    let Ends = Receiver × Vec LinkOut Global in
    let AllEnds = Vec Receiver Global × Vec (Vec LinkOut Global) Global in
    let receivers = c.args.receivers.items in
    let rows = c.args.senders.items in
    let receiver = c.remove-receiver.result in
    let row = c.remove-row.result in
    let others = c.remove-receiver.new.self.items in
    let other_rows = c.remove-row.new.self.items in
    let some : 0 < length receivers = search rules in
    let some_rows : 0 < length rows = search rules in
    let first = first_removed receivers others receiver some c.remove-receiver.ensures.value c.remove-receiver.ensures.items in
    let first_row = first_removed rows other_rows row some_rows c.remove-row.ensures.value c.remove-row.ensures.items in
    let one = c.join-finished.ensures.first in
    let ends = c.in_ok-receiver in
    let is = ends.was in
    let all_ends = c.in_ok-receivers in
    let all = subst (λ r. IfOk r (λ (e : AllEnds). AreFinished others (table_rows other_rows) e.0.items (table_rows e.1.items))) all_ends.was c.join-finished.ensures.second in
    rw (c.in_ok-insert.ensures.items, c.in_ok-insert-2.ensures.items)
    (one_finished receivers others receiver (table_rows rows) (table_rows other_rows) row.items ends.receiver all_ends.receivers.items ends.row.items
    (table_rows all_ends.senders.items) first (ap table_rows first_row)
    (subst (λ r. IfOk r (λ (e : Ends). HasFinished receiver row.items e.0)) is one.0)
    (subst (λ r. IfOk r (λ (e : Ends). AllZip IsDelivered e.1.items e.0.inputs.items)) is one.1.0)
    (subst (λ r. IfOk r (λ (e : Ends). AllZip KeepsHanded row.items e.1.items)) is one.1.1)
    all)
