use Rattle.std.proofs.Common.{rules}
use Rattle.pf_text.proofs.FirstLine.{extends_line}
use Rattle.pf_text.proofs.lines.take_part.Goals as goal

pub returns-clause-part : goal.returns-clause-part
returns-clause-part g c =
    extends_line _ _ c.ready-ready.result.now c.args.line.now.items c.try_extend_from_slice.new.self.items c.min.result c.line_length-part.result
    c.line_length-part.ensures (search rules) (search rules)
