-- What a handle owns names no thread: a context may go to another one, and so may its block.
use mir.Raw.{raw}
use base.Fraction.{full_share}
use base.Shift.{Keyless}
use denote.Exit.{Exit, hidden, leaves, unchanged, under}
use denote.Memory.{lone}
use denote.RattleType.{RattleType}
use denote.RawPtr.{Ptr, block_ptr, lies_at, null_ptr}
use denote.Struct.Struct.{exits_of}
use denote.Struct.Owning.{shape, fields, to}
use denote.Param.Send.{IsSend, AllSend, Quiet, owning_send, part_keyless, struct_send, sendable}
use Rattle.std.specs.Prelude.{Option, None, Some}
use Rattle.std.proofs.Crossing as heap
use Rattle.pf_context.specs.Context.{Context}
use Rattle.pf_context.specs.contracts.context.Context as context
use Rattle.pf_context.proofs.context.Context.TheSendSync.{the_send as context_send}
use Rattle.pf_c.specs.Held.{heap as library, held}
use Rattle.pf_c.specs.contracts.handle.Handle.{the_row, the_type}

lies : (R : RattleType) → IsSend R → (p : Ptr) (x : R.Denot) → Keyless (lies_at R full_share p x)
lies R s (block_ptr b o) x = part_keyless R s full_share x b o
lies R s null_ptr x = tt

quiet : {D X : Type 0} (to : D → X) (e : Exit X) → Quiet e → Quiet (hidden (under to e))
quiet to unchanged q = λ x w. tt
quiet to (leaves L l S s r) q = λ d. q (to d)

held_keyless : (p : Ptr) (v : Option Context) → Keyless (held p v)
held_keyless p None = tt
held_keyless p (Some c) = (lies context.the_row context_send p c, heap.frees.frees library (raw (lone context.the_row.mir)) p)

pub send : IsSend the_row
send =
    let all : AllSend (fields the_type) = (search sendable, tt) in
    owning_send the_type all (λ d. held_keyless d.at d.value)
    (λ k. quiet (to the_type) (exits_of k (fields the_type)) ((struct_send (shape the_type) all).leaving k))
