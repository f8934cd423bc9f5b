use Rattle.std.proofs.Common.{◌≡◌, sym, ap, subst, ◌∙◌, List, ℕ}
use Rattle.pf_commands.specs.declared.payload.Command.{Command}
use Rattle.pf_commands.specs.Frame.{Encodes, encoding, bytes_in}
use Rattle.pf_commands.proofs.Encoding.{encoding_encodes}
use Rattle.pf_commands.proofs.frame.encode.Goals as goal

-- what equals a command's encoding encodes it
spells_along : (bytes : List ℕ) (c : Command) → bytes ≡ encoding c → Encodes (encoding c) c → Encodes bytes c
spells_along bytes c same spells = subst (λ (b : List ℕ). Encodes b c) (sym same) spells

pub returns-clause-encoded : goal.returns-clause-encoded
returns-clause-encoded c =
    spells_along c.bytes.result c.args.command.now (c.bytes.ensures ∙ ap bytes_in c.of_command.ensures.value)
    (encoding_encodes c.args.command.now (record { name = c.of_command.ensures.name; payload = c.of_command.ensures.payload; body = c.requires }))
