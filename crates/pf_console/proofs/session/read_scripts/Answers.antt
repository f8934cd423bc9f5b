use Rattle.pf_text.specs.Streams.{Transfer}
use Rattle.pf_console.proofs.Reading.{names_none, reads, reads_counted, writes_counted}
use Rattle.pf_console.proofs.session.read_scripts.Goals as goal

pub returns-clause-text : goal.returns-clause-text
returns-clause-text g c = λ input before unread was.
    let t : Transfer = record {
      input = input;
      left = g.R.Source.remaining c.drive-read.new.reader;
      before = before;
      after = g.W.Sink.contents c.drive-read.new.writer;
    } in
    rw c.outcome_of.ensures (reads t c.drive-read.result (rw c.first.ensures at (c.drive-read.ensures.driven input before unread was)))

pub returns-clause-reads_counted : goal.returns-clause-reads_counted
returns-clause-reads_counted g c = rw c.outcome_of.ensures (reads_counted _ _ c.drive-read.result c.drive-read.ensures.reads_counted)

pub returns-clause-writes_counted : goal.returns-clause-writes_counted
returns-clause-writes_counted g c = rw c.outcome_of.ensures (writes_counted _ _ c.drive-read.result c.drive-read.ensures.writes_counted)

pub returns-clause-no_threads : goal.returns-clause-no_threads
returns-clause-no_threads g c = rw c.outcome_of.ensures (names_none c.drive-read.result)
