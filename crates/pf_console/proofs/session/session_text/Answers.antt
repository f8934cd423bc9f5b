use Rattle.std.proofs.Common.{◌∙◌}
use Rattle.pf_text.specs.Streams.{Transfer}
use Rattle.pf_console.proofs.Playing.{blocks_written}
use Rattle.pf_console.proofs.session.session_text.Goals as goal

pub returns-clause-text : goal.returns-clause-text
returns-clause-text g c = λ input before unread was.
    let t : Transfer = record {
      input = input;
      left = g.R.Source.remaining c.read_scripts.new.reader;
      before = before;
      after = g.W.Sink.contents c.write_all.new.self;
    } in
    blocks_written t (g.W.Sink.contents c.read_scripts.new.writer) c.in_ok-scripts.scripts c.as_bytes.result.now
    (c.in_ok-scripts.ensures.text input before unread was)
    (c.as_bytes.ensures.value ∙ c.in_ok-blocks.ensures.blocks)
    c.in_ok-blocks.ensures.taken
    c.in_ok-write_all.ensures.ok
