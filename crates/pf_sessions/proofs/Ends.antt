-- The end of a session, step by step.
use Rattle.std.proofs.Common.{◌≡◌, ◌∙◌, List, [], ◌∷◌, Vec, ap, arith, length, map, refl, subst, sym}
use Rattle.std.proofs.lemmas.List.{length-map}
use Rattle.std.specs.Global.{Global}
use Rattle.std.specs.List.{AllZip}
use Rattle.std.specs.Prelude.{All}
use Rattle.pf_links.specs.Link.{AreEnds}
use Rattle.pf_links.specs.declared.input.LinkIn.{LinkIn}
use Rattle.pf_links.specs.declared.output.LinkOut.{LinkOut}
use Rattle.pf_rollback.specs.Core.{PeerCore}
use Rattle.pf_scripts.specs.declared.peer.Peer.{Peer}
use Rattle.pf_step.specs.World.{World}
use Rattle.pf_sessions.specs.Ending.{AllFinished, AreEnded, AreFinished, HasFinished, ShowsLast, inputs_in, receiver_of}
use Rattle.pf_sessions.specs.Links.{AreLinked, IsDelivered, inputs_of, outputs_of, table_rows}
use Rattle.pf_sessions.specs.Rest.{KeepsHanded}
use Rattle.pf_sessions.specs.Table.{IsTable, transpose}
use Rattle.pf_sessions.specs.declared.ending.Receiver.{Receiver}
use Rattle.pf_sessions.proofs.Linked.{linked_by_receiver, table_on}
use Rattle.pf_sessions.proofs.Transposes.{length-transpose, table-transpose, transpose-transpose, zip-transpose}
use Rattle.pf_sessions.proofs.Zips.{zip_long}

-- the ends of the links to receivers that were peers
pub inputs_same : (peers : List Peer) → inputs_in (map receiver_of peers) ≡ inputs_of peers
inputs_same [] = refl
inputs_same (p ∷ peers) = ap (λ l. p.inputs.items ∷ l) (inputs_same peers)

receivers_same : (ended : List (Peer × World)) → map (λ e. receiver_of e.0) ended ≡ map receiver_of (map (λ e. e.0) ended)
receivers_same [] = refl
receivers_same (e ∷ ended) = ap (λ l. receiver_of e.0 ∷ l) (receivers_same ended)

pub receivers_many : (receivers : List Receiver) → length (inputs_in receivers) ≡ length receivers
receivers_many receivers = length-map receivers (λ (r : Receiver). r.inputs.items)

module _ (peers : List Peer) (linked : AreLinked AreEnds (outputs_of peers) (inputs_of peers)) where
  -- the senders' ends, by receiver
  pub ends_by_receiver : (receivers : List Receiver) (senders : List (List LinkOut)) → receivers ≡ map receiver_of peers → senders ≡ transpose (outputs_of peers)
      → AllZip (AllZip AreEnds) senders (inputs_in receivers)
  ends_by_receiver receivers senders receivers_are senders_are =
      subst (λ l. AllZip (AllZip AreEnds) l (inputs_in receivers)) (sym senders_are)
      (subst (λ l. AllZip (AllZip AreEnds) (transpose (outputs_of peers)) l) (sym (ap inputs_in receivers_are ∙ inputs_same peers)) linked.each)

  -- the table of the senders' ends, before and after what was left was taken
  pub senders_table : (senders : List (List LinkOut)) → senders ≡ transpose (outputs_of peers) → IsTable senders
  senders_table senders is = subst IsTable (sym is) (table-transpose (outputs_of peers) linked.table)

  pub senders_table_on : (senders after : List (List LinkOut)) → senders ≡ transpose (outputs_of peers) → AllZip (AllZip KeepsHanded) senders after → IsTable after
  senders_table_on senders after is kept = table_on KeepsHanded senders after kept (senders_table senders is)

  -- as many rows as receivers
  pub rows_many : (senders after : List (List LinkOut)) (outputs : List (Vec LinkOut Global)) (receivers : List Receiver) → senders ≡ transpose (outputs_of peers)
      → AllZip (AllZip KeepsHanded) senders after → table_rows outputs ≡ transpose after → AllZip (AllZip IsDelivered) after (inputs_in receivers)
      → length outputs ≡ length receivers
  rows_many senders after outputs receivers is kept outputs_are delivered =
      sym (length-map outputs (λ (r : Vec LinkOut Global). r.items)) ∙ ap length outputs_are
      ∙ length-transpose after (senders_table_on senders after is kept) ∙ zip_long (AllZip IsDelivered) after (inputs_in receivers) delivered ∙ receivers_many receivers

  pub all_ended : (receivers : List Receiver) (senders : List (List LinkOut)) (finished : List Receiver) (after outputs : List (List LinkOut)) (ended : List (Peer × World))
      → receivers ≡ map receiver_of peers → senders ≡ transpose (outputs_of peers) → AllFinished receivers senders finished
      → AllZip (AllZip IsDelivered) after (inputs_in finished) → AllZip (AllZip KeepsHanded) senders after → outputs ≡ transpose after
      → map (λ e. receiver_of e.0) ended ≡ finished → outputs_of (map (λ e. e.0) ended) ≡ outputs → All ShowsLast ended → AreEnded peers ended
  all_ended receivers senders finished after outputs ended receivers_are senders_are all delivered kept outputs_are ended_are rows_are shown =
      let table = senders_table senders senders_are in
      let table_after = senders_table_on senders after senders_are kept in
      let ends = map (λ (e : Peer × World). e.0) ended in
      let inputs : inputs_of ends ≡ inputs_in finished = sym (inputs_same ends) ∙ ap inputs_in (sym (receivers_same ended) ∙ ended_are) in
      let rows : outputs_of ends ≡ transpose after = rows_are ∙ outputs_are in
      let first : transpose senders ≡ outputs_of peers = ap transpose senders_are ∙ transpose-transpose (outputs_of peers) linked.table in record {
        finished = subst (λ l. AllFinished (map receiver_of peers) (transpose (outputs_of peers)) l) (sym ended_are)
            (subst (λ l. AllFinished l (transpose (outputs_of peers)) finished) receivers_are (subst (λ l. AllFinished receivers l finished) senders_are all));
        shown = shown;
        links = subst (λ l. AreLinked IsDelivered (outputs_of ends) l) (sym inputs)
            (linked_by_receiver IsDelivered after (inputs_in finished) table_after delivered (outputs_of ends) rows);
        handed = subst (λ l. AllZip (AllZip KeepsHanded) l (outputs_of ends)) first
            (subst (λ l. AllZip (AllZip KeepsHanded) (transpose senders) l) (sym rows) (zip-transpose KeepsHanded senders after kept));
      }

-- a receiver by its parts
abbrev pub receiver_by : PeerCore → Vec LinkIn Global → Receiver
receiver_by core inputs = record { core = core; inputs = inputs }

-- ---- receivers that finish, one by one

-- none finish
pub none_finished : (receivers : List Receiver) (rows : List (List LinkOut)) → length receivers ≡ 0
    → AllZip (AllZip AreEnds) rows (inputs_in receivers) → AreFinished receivers rows receivers rows
none_finished [] [] none each = record { finished = tt; links = tt; handed = tt }
none_finished [] (row ∷ rows) none each = absurd each
none_finished (r ∷ receivers) rows none each = absurd (omega (arith, none))

-- one and the others
pub one_finished : (olds rest : List Receiver) (old : Receiver) (rows others : List (List LinkOut)) (row : List LinkOut)
    (new : Receiver) (news : List Receiver) (after : List LinkOut) (afters : List (List LinkOut)) → olds ≡ old ∷ rest → rows ≡ row ∷ others
    → HasFinished old row new → AllZip IsDelivered after new.inputs.items → AllZip KeepsHanded row after
    → AreFinished rest others news afters → AreFinished olds rows (new ∷ news) (after ∷ afters)
one_finished olds rest old rows others row new news after afters first first_row one links handed all =
    subst (λ l. AreFinished l rows (new ∷ news) (after ∷ afters)) (sym first)
    (subst (λ l. AreFinished (old ∷ rest) l (new ∷ news) (after ∷ afters)) (sym first_row) (record {
      finished = (one, all.finished);
      links = (links, all.links);
      handed = (handed, all.handed);
    }))

-- the ends of the first receiver, and those of the others
pub first_ends : (receivers rest : List Receiver) (receiver : Receiver) (rows others : List (List LinkOut)) (row : List LinkOut)
    → receivers ≡ receiver ∷ rest → rows ≡ row ∷ others → AllZip (AllZip AreEnds) rows (inputs_in receivers)
    → AllZip AreEnds row receiver.inputs.items × AllZip (AllZip AreEnds) others (inputs_in rest)
first_ends receivers rest receiver rows others row first first_row each =
    let both : AllZip (AllZip AreEnds) (row ∷ others) (inputs_in (receiver ∷ rest)) =
    subst (λ l. AllZip (AllZip AreEnds) l (inputs_in (receiver ∷ rest))) first_row
    (subst (λ l. AllZip (AllZip AreEnds) rows (inputs_in l)) first each) in
    both
