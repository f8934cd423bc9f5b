use Rattle.std.proofs.Common.{rules, ◌≡◌, ◌∙◌, ◌+◌, ◌++◌, ◌∷◌, [], List, Vec, ap, arith, length, subst, sym}
use Rattle.std.proofs.lemmas.List.{length-map, map-append}
use Rattle.std.proofs.lemmas.List.Elements.{All-push}
use Rattle.std.specs.Global.{Global}
use Rattle.std.specs.List.{AllZip}
use Rattle.std.specs.Prelude.{All}
use Rattle.pf_links.specs.declared.input.LinkIn.{LinkIn}
use Rattle.pf_links.specs.declared.output.LinkOut.{LinkOut}
use Rattle.pf_sessions.specs.Links.{IsNewLink, table_rows}
use Rattle.pf_sessions.proofs.Linked.{linked_by_receiver, table_of}
use Rattle.pf_sessions.proofs.Transposes.{length-transpose}
use Rattle.pf_sessions.proofs.Zips.{zip_long, zip_push}
use Rattle.pf_sessions.proofs.links.links_among.Goals as goal

pub loop-preserved : goal.loop-preserved
loop-preserved c =
    let outs = c.loop.senders.items in
    let ins = c.loop.inputs.items in
    let to_one = c.in_ok-to_one.to_one in
    let of_one = c.in_ok-to_one.of_one in
    let P : List LinkOut → Type 0 = λ row. length row + 1 ≡ c.args.peers in
    let outs_are : table_rows c.push.new.self.items ≡ table_rows outs ++ to_one.items ∷ [] =
    ap table_rows c.in_ok-push.ensures.items ∙ map-append (λ (r : Vec LinkOut Global). r.items) outs (to_one ∷ []) in
    let ins_are : table_rows c.push-in-loop.new.self.items ≡ table_rows ins ++ of_one.items ∷ [] =
    ap table_rows c.in_ok-push-2.ensures.items ∙ map-append (λ (r : Vec LinkIn Global). r.items) ins (of_one ∷ []) in
    record {
      links = subst (λ l. AllZip (AllZip IsNewLink) l (table_rows c.push-in-loop.new.self.items)) (sym outs_are)
          (subst (AllZip (AllZip IsNewLink) (table_rows outs ++ to_one.items ∷ [])) (sym ins_are)
          (zip_push (AllZip IsNewLink) (table_rows outs) (table_rows ins) to_one.items of_one.items c.loop.invariant.links c.in_ok-to_one.ensures.links));
      count = search rules;
      wide = subst (All P) (sym outs_are) (All-push P (table_rows outs) to_one.items c.loop.invariant.wide (omega (arith, c.in_ok-to_one.ensures.count)));
    }

pub returns-clause-links : goal.returns-clause-links
returns-clause-links c =
    let senders = table_rows c.loop.senders.items in
    let count : length senders ≡ c.args.peers = length-map c.loop.senders.items (λ (r : Vec LinkOut Global). r.items) ∙ search rules in
    linked_by_receiver IsNewLink senders (table_rows c.loop.inputs.items) (table_of senders c.args.peers count c.loop.invariant.wide) c.loop.invariant.links
    (table_rows c.in_ok-transpose.field-0.items) c.in_ok-transpose.ensures

pub returns-clause-counts : goal.returns-clause-counts
returns-clause-counts c =
    let senders = table_rows c.loop.senders.items in
    let many : length c.loop.senders.items ≡ c.args.peers = search rules in
    let count : length senders ≡ c.args.peers = length-map c.loop.senders.items (λ (r : Vec LinkOut Global). r.items) ∙ many in
    let outputs = c.in_ok-transpose.field-0.items in (
      sym (length-map outputs (λ (r : Vec LinkOut Global). r.items)) ∙ ap length c.in_ok-transpose.ensures
          ∙ length-transpose senders (table_of senders c.args.peers count c.loop.invariant.wide) ∙ count,
      sym (length-map c.loop.inputs.items (λ (r : Vec LinkIn Global). r.items))
          ∙ sym (zip_long (AllZip IsNewLink) senders (table_rows c.loop.inputs.items) c.loop.invariant.links) ∙ count,
    )
