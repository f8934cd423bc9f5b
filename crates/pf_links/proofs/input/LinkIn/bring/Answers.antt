use Rattle.std.proofs.Common.{◌<◌, ap, arith, length}
use Rattle.std.proofs.lemmas.Bool.{true≢false}
use Rattle.std.proofs.lemmas.List.{length-append}
use Rattle.pf_links.specs.Link.{backlog_of, got, known, pushed_frames}
use Rattle.pf_links.proofs.input.LinkIn.bring.Goals as goal

-- a known frame was not got yet
pub returns-clause-end : goal.returns-clause-end
returns-clause-end c = (
  λ no. absurd (true≢false no),
  λ all.
      let out = c.args.from.now in
      let seen = c.ready.new.self in
      let some : 0 < length (known seen) = omega (arith, c.if-ready-eq0.false, c.ready.ensures.value) in
      absurd (omega (
        arith,
        some,
        ap length all,
        length-append (pushed_frames out) (backlog_of out),
        length-append (got c.args.self.now) (backlog_of out),
        ap length c.ready.ensures.rest,
        length-append (got seen) (known seen),
        ap length c.ready.ensures.got,
        ap length c.ready.ensures.frames.pushed,
      )),
)
