use Rattle.std.proofs.Common.{arith, sym, ◌∙◌}
use Rattle.std.specs.Prelude.{Result, Ok, Err, IfOk, ◌≡◌, List, ℕ}
use Rattle.pf_commands.specs.declared.fault.FrameFault.{FrameFault}
use Rattle.pf_commands.specs.declared.payload.Command.{Command}
use Rattle.pf_commands.specs.Frame.{IsBytes, Encodes, decode}
use Rattle.pf_commands.proofs.Frames.{decoded_encodes, encoded_decodes}
use Rattle.pf_commands.proofs.frame.decode.Goals as goal

found : (bytes : List ℕ) (answer : Result Command FrameFault) → IsBytes bytes → answer ≡ decode bytes → IfOk answer (Encodes bytes)
found bytes (Ok c) fits is = decoded_encodes bytes c fits (sym is)
found bytes (Err fault) fits is = tt

pub returns-clause-found : goal.returns-clause-found
returns-clause-found c = found c.args.bytes.now c.decoded.result (λ i. omega (arith, c.type_inv.bytes i)) c.decoded.ensures

pub returns-clause-only : goal.returns-clause-only
returns-clause-only c = λ command spelled. c.decoded.ensures ∙ encoded_decodes c.args.bytes.now command spelled
