-- The one error that the errors of all calls turn into.
use Rattle.std.specs.Prelude.{Option, None, Some, Result, Ok, Err}
use Rattle.std.specs.declared.alloc.AllocError.{AllocError}
use Rattle.pf_shapes.specs.declared.read.ReadError.{ReadError}
use Rattle.pf_shapes.specs.declared.read.ReadError.TheVariants as reading
use Rattle.pf_rollback.specs.declared.error.PeerError.{PeerError}
use Rattle.pf_rollback.specs.declared.error.PeerError.TheVariants as faults
use Rattle.pf_context.specs.declared.table.TableError.{TableError}
use Rattle.pf_context.specs.declared.table.TableError.TheVariants as tables
use Rattle.pf_context.specs.declared.error.ContextError.{ContextError}
use Rattle.pf_context.specs.declared.error.ContextError.TheVariants as errors

-- an allocation failed
abbrev pub memory_error : AllocError → ContextError
memory_error error = errors.OutOfMemory

-- why a call of a peer failed
abbrev pub peer_error : PeerError → ContextError
peer_error (faults.Refused refusal) = errors.Refused refusal
peer_error faults.OutOfMemory = errors.OutOfMemory

-- why no scene was read
abbrev pub read_error : ReadError → ContextError
read_error (reading.Line number fault) = errors.Line number fault
read_error reading.Memory = errors.OutOfMemory

-- why a table did not take a value
abbrev pub table_error : TableError → ContextError
table_error tables.OutOfMemory = errors.OutOfMemory
table_error tables.Full = errors.Full

-- what a context returns where a call of a peer or of a scene returned this
abbrev pub returned : {A E : Type 0} → (E → ContextError) → Result A E → Result A ContextError
returned error (Ok answer) = Ok answer
returned error (Err e) = Err (error e)

-- what a context returns of what a key names, or that it names nothing
abbrev pub shown : {A B : Type 0} → (A → B) → Option A → Result B ContextError
shown part None = Err errors.BadKey
shown part (Some value) = Ok (part value)
