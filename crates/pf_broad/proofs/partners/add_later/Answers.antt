use Rattle.std.proofs.Common.{◌≡◌, sym, ◌∙◌, rules, arith}
use Rattle.std.proofs.lemmas.List.{get_or_read}
use Rattle.pf_broad.specs.Pairs.{no_bounds, bounds_at, may_touch}
use Rattle.pf_broad.proofs.Finding.{below-start, then-touching, then-not_touching}
use Rattle.pf_broad.proofs.partners.add_later.Goals as goal
use Rattle.pf_broad.proofs.partners.add_later.Goals.{then-may_touch+in_ok-push, else-may_touch}

pub loop-j-init : goal.loop-j-init
loop-j-init c = search (rules, arith, below-start)

pub loop-j-preserved : goal.loop-j-preserved
loop-j-preserved c =
    let bs = c.args.bounds.now in
    let first = get_or_read bs c.args.i c.index-bounds-i.result c.requires.body c.index-bounds-i.is no_bounds in
    let second = get_or_read bs c.loop-j.j c.index-bounds-j.result c.loop-j-test.true c.index-bounds-j.is no_bounds in
    let is_touching : c.may_touch.result ≡ may_touch (bounds_at bs c.args.i) (bounds_at bs c.loop-j.j) = cc in
    elim c.if-may_touch.branch [
      | then-may_touch+in_ok-push w ↦
          let e = then-touching bs c.args.i c.loop-j.j _ _ c.loop-j.invariant (omega arith) (sym is_touching ∙ w.if-may_touch.true) in
          rw (w.partners-is, w.in_ok-push.ensures.items) e
      | else-may_touch w ↦
          let e = then-not_touching bs c.args.i c.loop-j.j _ _ c.loop-j.invariant (sym is_touching ∙ w.if-may_touch.false) in
          rw w.partners-is e
    ]
