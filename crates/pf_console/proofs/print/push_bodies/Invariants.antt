use Rattle.std.proofs.Common.{◌≡◌, ◌++◌, drop}
use Rattle.std.specs.String.{string_bytes}
use Rattle.pf_console.specs.Print.{bodies_text}
use Rattle.pf_console.proofs.print.push_bodies.Given as goal

abbrev pub invariant-loop-i : goal.invariant-loop-i
invariant-loop-i l =
    string_bytes l.text ++ bodies_text l.i (drop l.i l.fixtures) (drop l.i l.bodies)
    ≡ string_bytes l.initial.text ++ bodies_text 0 l.fixtures l.bodies
