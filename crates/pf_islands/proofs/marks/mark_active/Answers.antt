use Rattle.std.proofs.Common.{◌≡◌, ◌∙◌, ◌+◌, ◌<◌, true, false, get_or, length, ap, sym, subst, arith}
use Rattle.std.proofs.lemmas.List.FromFn.{fill_by_all}
use Rattle.pf_shapes.specs.Body.{BodyState}
use Rattle.pf_islands.specs.Sleep.{is_active}
use Rattle.pf_islands.proofs.Noted.{AreNoted, any_all, any_failed, any_of, any_passed, noted_same, noted_set}
use Rattle.pf_islands.proofs.marks.mark_active.Goals as goal
use Rattle.pf_islands.proofs.marks.mark_active.Goals.{then-body, else-body}

pub loop-number-preserved : goal.loop-number-preserved
loop-number-preserved c =
    let labels = c.args.labels.now in
    let bodies = c.args.bodies.now in
    let i = c.loop-number.number in
    let d = c.index-bodies-number.result in
    let awake = λ (b : BodyState). b.awake in
    let within : i < length bodies = omega arith in
    let within_names : i < length labels = omega arith in
    let long : length c.loop-number.marks ≡ length labels = omega arith in
    let read = ap (λ (b : BodyState). b.awake) (sym (c.body.view_is ∙ c.index-bodies-number.is)) in
    elim c.if-body.branch [
      | then-body w ↦
          subst (λ ms. AreNoted (length labels) ms (any_of awake labels bodies (i + 1))) (sym w.marks-is)
          (noted_set (length labels) c.loop-number.marks (any_of awake labels bodies i) (any_of awake labels bodies (i + 1))
          (get_or labels i 0) true long (c.requires.labelled i 0 within_names)
          (any_passed awake labels bodies i d c.requires.bodies within (read ∙ w.if-body.true)) c.loop-number.invariant)
      | else-body w ↦
          subst (λ ms. AreNoted (length labels) ms (any_of awake labels bodies (i + 1))) (sym w.marks-is)
          (noted_same (length labels) c.loop-number.marks (any_of awake labels bodies i) (any_of awake labels bodies (i + 1))
          (any_failed awake labels bodies i d c.requires.bodies within (read ∙ w.if-body.false)) c.loop-number.invariant)
    ]

pub returns : goal.returns
returns c =
    fill_by_all (is_active c.args.labels.now c.args.bodies.now) c.loop-number.marks (length c.args.labels.now) false (omega arith)
    (λ label small.
    c.loop-number.invariant label small
    ∙ any_all (λ (b : BodyState). b.awake) c.args.labels.now c.args.bodies.now c.loop-number.number (omega arith) label)
