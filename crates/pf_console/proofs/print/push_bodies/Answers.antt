use Rattle.std.proofs.Common.{List, ℕ, ◌++◌, ◌≤◌, min, length, append_assoc, ap, sym, ◌∙◌, arith}
use Rattle.std.proofs.lemmas.List.{append-nil}
use Rattle.std.specs.String.{string_bytes}
use Rattle.pf_console.proofs.Bodies.{bodies_text_more, bodies_text_end}
use Rattle.pf_console.proofs.print.push_bodies.Goals as goal

pub loop-i-preserved : goal.loop-i-preserved
loop-i-preserved c =
    let more = bodies_text_more c.args.fixtures.now c.args.bodies.now c.loop-i.i c.index-fixtures-i.result c.index-bodies-i.result
    (omega arith) (omega arith) c.index-fixtures-i.is c.index-bodies-i.is in
    rw (c.in_ok-push_body.ensures, append_assoc, ← more) c.loop-i.invariant

pub returns : goal.returns
returns c =
    let all : min (length c.args.fixtures.now) (length c.args.bodies.now) ≤ c.loop-i.i = omega arith in
    let none = bodies_text_end c.args.fixtures.now c.args.bodies.now c.loop-i.i all in
    sym (append-nil (string_bytes c.loop-i.text))
    ∙ ap (λ (t : List ℕ). string_bytes c.loop-i.text ++ t) (sym none)
    ∙ c.loop-i.invariant
