use Rattle.std.proofs.Common.{ℕ, List, Bor, arith}
use Rattle.std.proofs.lemmas.List.{take_all}
use Rattle.pf_console.proofs.TurnFields.{frames_are}
use Rattle.pf_console.proofs.turns.decoded.Goals as goal

pub returns : goal.returns
returns c =
    let fields = c.args.fields.now in
    frames_are (λ (field : Bor (List ℕ)). field.now) fields c.loop-field.frames.items
    (rw (take_all c.loop-field.field-index fields (omega arith)) at c.loop-field.invariant)
