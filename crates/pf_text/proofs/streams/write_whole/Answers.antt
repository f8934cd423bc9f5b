use Rattle.std.proofs.Common.{refl, sym, ◌∙◌}
use Rattle.std.proofs.lemmas.List.{take_rest}
use Rattle.pf_text.proofs.Buffered.{appends_prefix_more}
use Rattle.pf_text.proofs.Taking.{appends_prefix_none}
use Rattle.pf_text.proofs.streams.write_whole.Goals as goal

pub loop-rest-init : goal.loop-rest-init
loop-rest-init g c = (appends_prefix_none (g.W.Write.contents c.args.writer.now) c.args.bytes.now, refl)

pub loop-rest-preserved : goal.loop-rest-preserved
loop-rest-preserved g c =
    let next = appends_prefix_more _ (g.W.Write.contents c.loop-rest.writer) (g.W.Write.contents c.write_some.new.writer) _ c.loop-rest.rest.now c.in_ok-count.count c.loop-rest.invariant.0 c.loop-rest.invariant.1 c.in_ok-count.ensures.ok in
    (next.0, next.1 ∙ sym (take_rest c.loop-rest.rest.now c.in_ok-count.count))
