use Rattle.std.proofs.Common.{◌≡◌, Ok, map, take}
use Rattle.pf_console.specs.Digits.{bytes_of}
use Rattle.pf_console.proofs.turns.decoded.Given as goal

abbrev pub invariant-loop-field : goal.invariant-loop-field
invariant-loop-field l =
    map (λ frame. Ok frame.items) l.frames.items ≡ map (λ field. bytes_of field.now) (take l.field-index l.fields)
