-- Commands that C issues.
use Rattle.std.specs.Prelude.{◌≡◌, ℕ, List, Result, Ok, Err}
use Rattle.pf_context.specs.declared.key.Key.{Key}
use Rattle.pf_commands.specs.declared.payload.Payload.{Payload}
use Rattle.pf_rollback.specs.Calls.{Issues}
use Rattle.pf_context.specs.declared.error.ContextError.{ContextError}
use Rattle.pf_context.specs.Context.{Context}
use Rattle.pf_context.specs.Errors.{peer_error}
use Rattle.pf_context.specs.Calls.{CallsPeer}
use Rattle.pf_c.specs.declared.commands.PfFrame.{PfFrame}

-- a command is issued by a peer; where there is none to issue, that is the error, and the context
-- is as it was
abbrev pub IssuesPayload : Key → Result Payload ContextError → Context → Context
    → Result (List ℕ) ContextError → Type 0
IssuesPayload peer (Ok payload) before after answer =
    CallsPeer peer_error before after peer answer (Issues payload)
IssuesPayload peer (Err error) before after answer = (answer ≡ Err error) × (after ≡ before)

-- the frame of these bytes
abbrev pub frame_of : List ℕ → PfFrame
frame_of bytes = record { bytes = bytes }
