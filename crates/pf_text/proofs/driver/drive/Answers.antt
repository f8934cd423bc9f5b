use Rattle.std.proofs.Common.{◌∙◌, Err, ap, rules}
use Rattle.std.proofs.lemmas.Result.{err_from_is_err_and}
use Rattle.pf_text.proofs.Progress.{Progress-none, Progress-next, Drives-spent, Drives-read, Drives-end, Drives-last, Drives-refused, Drives-write, Counts-refused, RunKeepsLent-refused, Stops-change}
use Rattle.pf_text.proofs.driver.drive.Goals as goal

pub loop-number-init : goal.loop-number-init
loop-number-init g c = record {
  so_far = λ input before left after. Progress-none _ _ _ _ _ _ left after;
  lent_kept = search rules;
  no_read_failed = search rules;
  no_write_failed = search rules;
}

pub returns-in_err-taken-clause-driven : goal.returns-in_err-taken-clause-driven
returns-in_err-taken-clause-driven g c input before left after =
    let p = c.loop-number.invariant.so_far input before left after in
    let error = err_from_is_err_and c.from_residual.result c.from_residual.ensures.1 in
    rw (error.1, error.2) (Drives-read p c.in_err-taken.field-0.0 c.take_line.new.line.items
    (g.R.Source.remaining c.take_line.new.source) (c.in_err-taken.ensures.taken p.rest p.left_is))

pub returns-in-End-clause-driven : goal.returns-in-End-clause-driven
returns-in-End-clause-driven g c input before left after =
    let p = c.loop-number.invariant.so_far input before left after in
    Drives-end p c.take_line.new.line.items (g.R.Source.remaining c.take_line.new.source)
    (rw c.in-End.is at (c.in_ok-taken.ensures.taken p.rest p.left_is))

pub returns-in-Err : goal.returns-in-Err
returns-in-Err g c = record {
  driven = λ input before left after.
      let p = c.loop-number.invariant.so_far input before left after in
      let said = rw c.as_slice.ensures.value at c.in-Err.ensures.reply in
      let some = rw c.as_slice.ensures.value at c.in-Err.ensures.memory in
      rw c.fault_at.ensures (Drives-refused p c.in_ok-taken.taken c.take_line.new.line.items
      (g.R.Source.remaining c.take_line.new.source) c.in-Err.refusal (c.in_ok-taken.ensures.taken p.rest p.left_is)
      c.in_default.not-End said (λ e. some (ap (λ refusal. Err refusal) e)));
  lent =
      let kept = rw c.as_slice.ensures.value at c.in-Err.ensures.kept in
      rw c.fault_at.ensures (RunKeepsLent-refused _ _ _ c.loop-number.number _ c.in-Err.refusal _ _ _
      c.loop-number.invariant.lent_kept kept
      (λ e changes input before left after.
      let p = c.loop-number.invariant.so_far input before left after in
      let said = rw (c.as_slice.ensures.value, e) at c.in-Err.ensures.reply in
      let some = rw c.as_slice.ensures.value at c.in-Err.ensures.memory in
      Stops-change p c.in_ok-taken.taken c.take_line.new.line.items (g.R.Source.remaining c.take_line.new.source)
      (c.in_ok-taken.ensures.taken p.rest p.left_is) c.in_default.not-End (some (ap (λ refusal. Err refusal) e))
      said changes));
  reads_counted = rw c.fault_at.ensures (Counts-refused c.loop-number.number _ _ c.in-Err.refusal
      (c.in_ok-taken.ensures.counted ∙ c.loop-number.invariant.no_read_failed)).0;
  writes_counted = rw c.fault_at.ensures (Counts-refused c.loop-number.number _ _ c.in-Err.refusal
      c.loop-number.invariant.no_write_failed).1;
}

pub returns-in_err-write_text-clause-driven : goal.returns-in_err-write_text-clause-driven
returns-in_err-write_text-clause-driven g c input before left after =
    let p = c.loop-number.invariant.so_far input before left after in
    let error = err_from_is_err_and c.from_residual-in_err-write_text.result c.from_residual-in_err-write_text.ensures.1 in
    let said = rw (c.as_slice.ensures.value, ← c.deref.ensures) at c.in-Ok.ensures.reply in
    rw (error.1, error.2) (Drives-write p c.in_ok-taken.taken c.take_line.new.line.items
    (g.R.Source.remaining c.take_line.new.source) (g.W.Sink.contents c.write_text.new.writer) c.deref.result.now
    c.in-Ok.reply.1 (c.in_ok-taken.ensures.taken p.rest p.left_is) c.in_default.not-End said
    c.in_err-write_text.ensures.err c.in_err-write_text.ensures.some)

pub returns-in-Last-clause-driven : goal.returns-in-Last-clause-driven
returns-in-Last-clause-driven g c input before left after =
    let p = c.loop-number.invariant.so_far input before left after in
    let said = rw (c.as_slice.ensures.value, ← c.deref.ensures) at c.in-Ok.ensures.reply in
    Drives-last p c.take_line.new.line.items (g.R.Source.remaining c.take_line.new.source)
    (g.W.Sink.contents c.write_text.new.writer) c.deref.result.now c.in-Ok.reply.1
    (rw c.in-Last.is at (c.in_ok-taken.ensures.taken p.rest p.left_is)) said c.in_ok-write_text.ensures.ok

pub loop-number-preserved : goal.loop-number-preserved
loop-number-preserved g c = record {
  so_far = λ input before left after.
      let p = c.loop-number.invariant.so_far input before left after in
      let said = rw (c.as_slice.ensures.value, ← c.deref.ensures) at c.in-Ok.ensures.reply in
      Progress-next p c.in_ok-taken.taken c.take_line.new.line.items (g.R.Source.remaining c.take_line.new.source)
      (g.W.Sink.contents c.write_text.new.writer) c.deref.result.now c.in-Ok.reply.1
      (c.in_ok-taken.ensures.taken p.rest p.left_is) c.in_default.not-End c.in_default-taken.not-Last said
      c.in_ok-write_text.ensures.ok;
  lent_kept = c.in-Ok.ensures.kept ∙ c.loop-number.invariant.lent_kept;
  no_read_failed = c.in_ok-taken.ensures.counted ∙ c.loop-number.invariant.no_read_failed;
  no_write_failed = c.in_ok-write_text.ensures.counted ∙ c.loop-number.invariant.no_write_failed;
}

pub returns-clause-driven : goal.returns-clause-driven
returns-clause-driven g c input before left after =
    Drives-spent (c.loop-number.invariant.so_far input before left after) (search rules)
