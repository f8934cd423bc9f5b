use Rattle.std.proofs.Common.{◌≡◌, ◌∙◌, Err, refl, subst, sym}
use Rattle.std.proofs.lemmas.Result.{err_from_is_err_and}
use Rattle.pf_text.specs.Streams.{IfExposed, Streams}
use Rattle.pf_console.specs.Text.{CountsReading, CountsWriting, Runs}
use Rattle.pf_console.proofs.Endings.{ended, reads_counted, runs, writes_counted}
use Rattle.pf_console.proofs.run.run_text.Goals as goal

pub returns-in_err-outcome_of-clause-text : goal.returns-in_err-outcome_of-clause-text
returns-in_err-outcome_of-clause-text g c =
    let s : Streams = record {
      unread = g.R.Source.remaining c.args.reader.now;
      left = g.R.Source.remaining c.drive-read.new.reader;
      before = g.W.Sink.contents c.args.writer.now;
      after = g.W.Sink.contents c.drive-read.new.writer;
    } in
    let error = err_from_is_err_and c.from_residual.result c.from_residual.ensures.1 in
    let fault = c.in_err-outcome_of.field-0.0 in
    let outcome : c.from_residual.result ≡ Err fault = rw (error.1, error.2) refl in
    let driven = rw c.first.ensures at c.drive-read.ensures.driven in
    let lent = rw (c.first.ensures, c.new-settler.ensures) at c.drive-read.ensures.lent in
    subst (λ r. IfExposed s (λ t. Runs t r)) (sym outcome)
    (subst (λ r. IfExposed s (λ t. Runs t (ended r))) (sym c.outcome_of.ensures ∙ c.in_err-outcome_of.was)
    (runs s c.drive-read.new.lent c.fault.result c.drive-read.result c.fault.ensures.value driven lent))

pub returns-in_err-outcome_of-clause-reads_counted : goal.returns-in_err-outcome_of-clause-reads_counted
returns-in_err-outcome_of-clause-reads_counted g c =
    let before = g.R.Source.failures c.args.reader.now in
    let after = g.R.Source.failures c.drive-read.new.reader in
    let error = err_from_is_err_and c.from_residual.result c.from_residual.ensures.1 in
    let outcome : c.from_residual.result ≡ Err c.in_err-outcome_of.field-0.0 = rw (error.1, error.2) refl in
    subst (λ r. CountsReading before r after) (sym outcome)
    (subst (λ r. CountsReading before (ended r) after) (sym c.outcome_of.ensures ∙ c.in_err-outcome_of.was)
    (reads_counted before after c.drive-read.new.lent c.fault.result c.drive-read.result c.fault.ensures.value c.drive-read.ensures.reads_counted))

pub returns-in_err-outcome_of-clause-writes_counted : goal.returns-in_err-outcome_of-clause-writes_counted
returns-in_err-outcome_of-clause-writes_counted g c =
    let before = g.W.Sink.failures c.args.writer.now in
    let after = g.W.Sink.failures c.drive-read.new.writer in
    let error = err_from_is_err_and c.from_residual.result c.from_residual.ensures.1 in
    let outcome : c.from_residual.result ≡ Err c.in_err-outcome_of.field-0.0 = rw (error.1, error.2) refl in
    subst (λ r. CountsWriting before r after) (sym outcome)
    (subst (λ r. CountsWriting before (ended r) after) (sym c.outcome_of.ensures ∙ c.in_err-outcome_of.was)
    (writes_counted before after c.drive-read.new.lent c.fault.result c.drive-read.result c.fault.ensures.value c.drive-read.ensures.writes_counted))

pub returns-clause-text : goal.returns-clause-text
returns-clause-text g c =
    let s : Streams = record {
      unread = g.R.Source.remaining c.args.reader.now;
      left = g.R.Source.remaining c.drive-read.new.reader;
      before = g.W.Sink.contents c.args.writer.now;
      after = g.W.Sink.contents c.drive-read.new.writer;
    } in
    let driven = rw c.first.ensures at c.drive-read.ensures.driven in
    let lent = rw (c.first.ensures, c.new-settler.ensures) at c.drive-read.ensures.lent in
    subst (λ r. IfExposed s (λ t. Runs t (ended r))) (sym c.outcome_of.ensures ∙ c.in_ok-outcome_of.was)
    (runs s c.drive-read.new.lent c.fault.result c.drive-read.result c.fault.ensures.value driven lent)
