-- The frames of commands in a buffer of a caller.
use Rattle.std.specs.Prelude.{◌≡◌, ◌<◌, ◌≤◌, ◌++◌, ℕ, List, Option, None, Some, Result, Ok, Err, drop, filter, length, map, nat_le}
use Rattle.std.specs.FinMap.{entries}
use Rattle.pf_commands.specs.declared.payload.Payload.{Payload}
use Rattle.pf_commands.specs.Frame.{encoding}
use Rattle.pf_commands.specs.Name.{Name}
use Rattle.pf_rollback.specs.Core.{PeerCore}
use Rattle.pf_context.specs.declared.error.ContextError.{ContextError}
use Rattle.pf_context.specs.declared.error.ContextError.TheVariants.{BadKey, SmallBuffer}

-- of some commands those for a tick or a later one
abbrev pub later_commands : ℕ → List (Name × Payload) → List (Name × Payload)
later_commands tick commands = filter (λ e. nat_le tick e.0.tick) commands

-- the frame of a command
abbrev pub command_frame : Name × Payload → List ℕ
command_frame e = encoding (record { name = e.0; payload = e.1 })

-- the frames of commands are written where they fit, and else nothing; how many they are is
-- returned either way
abbrev pub WritesFrames : List (Name × Payload) → List (List ℕ) → List (List ℕ)
    → Result ℕ ContextError → Type 0
WritesFrames commands old new (Ok count) =
    (count ≡ length commands) × (count ≤ length old)
    × (new ≡ map command_frame commands ++ drop count old)
WritesFrames commands old new (Err (SmallBuffer count)) =
    (count ≡ length commands) × (length old < count) × (new ≡ old)
WritesFrames commands old new (Err error) = ⊥

-- the frames of the commands, for a tick and later ones, of a peer that a key names
abbrev pub ShowsFrames : Option PeerCore → ℕ → List (List ℕ) → List (List ℕ)
    → Result ℕ ContextError → Type 0
ShowsFrames None tick old new result = (result ≡ Err BadKey) × (new ≡ old)
ShowsFrames (Some core) tick old new result =
    WritesFrames (later_commands tick (entries core.peer.commands)) old new result
