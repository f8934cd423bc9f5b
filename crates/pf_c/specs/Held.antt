-- What a handle owns: the box of a context behind its pointer, if there is one.
use Rattle.std.specs.Prelude.{None, Option, Some}
use Rattle.std.specs.Box.Ownership.{box_owns}
use Rattle.std.specs.Global.{Global}
use Rattle.std.specs.contracts.impls.GlobalAllocator.TheImpl.{ghosts}
use base.Fml.{Fml, ftrue}
use denote.RawPtr.{Ptr}
use mir.Syntax.{Ty}
use Rattle.pf_context.specs.Context.{Context}
use Rattle.pf_context.specs.contracts.context.Context.{the_row}

-- the heap of the C library
abbrev pub heap : Global
heap = record { memory = record { seal = tt } }

-- the right to give a block of the heap back
abbrev pub is_freed_by : Ty → Ptr → Fml
is_freed_by = ghosts.dealloc_token heap

-- the context at a pointer, and the right to give its block back
abbrev pub held : Ptr → Option Context → Fml
held p None = ftrue
held p (Some context) = box_owns is_freed_by the_row p context
