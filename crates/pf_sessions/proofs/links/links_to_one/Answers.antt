use Rattle.std.proofs.Common.{◌++◌, ◌∷◌, [], rules, subst, sym}
use Rattle.std.specs.List.{AllZip}
use Rattle.pf_sessions.specs.Links.{IsNewLink}
use Rattle.pf_sessions.proofs.Zips.{zip_push}
use Rattle.pf_sessions.proofs.links.links_to_one.Goals as goal

pub loop-preserved : goal.loop-preserved
loop-preserved c =
    let outs = c.loop.outputs.items in
    let ins = c.loop.inputs.items in
    let o = c.in_ok-output.output in
    let i = c.in_ok-output.input in
    let link : IsNewLink o i = record {
      ends = c.in_ok-output.ensures.ends;
      capacity = c.in_ok-output.ensures.capacity;
      handed = c.in_ok-output.ensures.handed;
      got = c.in_ok-output.ensures.got;
    } in
    record {
      links = subst (λ l. AllZip IsNewLink l c.push-in-loop.new.self.items) (sym c.in_ok-push.ensures.items)
          (subst (AllZip IsNewLink (outs ++ o ∷ [])) (sym c.in_ok-push-2.ensures.items) (zip_push IsNewLink outs ins o i c.loop.invariant.links link));
      count = search rules;
    }
