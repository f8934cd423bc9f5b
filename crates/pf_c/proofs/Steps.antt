-- The names that walks cite.
pub use Rattle.std.proofs.Common.{◌≡◌, ℕ, ◌≤◌, List, [], ◌∷◌, refl, sym, ap, ◌∙◌, lit<, w8, MutBor, arith}
pub use Rattle.std.proofs.raw_atomic.Walks.{proved}
pub use base.Fraction.{full_share}
pub use base.Logic.{id⊢}
pub use base.Fml.{ftrue, fat, flft, fres}
pub use mir.Syntax.{ty_int, named}
pub use mir.Val.{Val, vunit, vint, vptr, vstruct, vcons, vnil}
pub use contract.Monad.{fact}
pub use contract.Running.{tables}
pub use types.Kit.{‵, raw, ◌⊛◌, some, later, prop, at_ret, Sq, ◌$◌, ◌∵◌, !, qed, done, move, keep, drop, use0, use1, use2, use3, split, join, fsplit, fsplit3, fjoin, feq_i, feq_l, fpack, fpick, pick, await, rewrite, regoal, suffices, frame, group}
pub use types.Run.{enter, of_opd, lit, unit_lit, bin, addr, load, look, store, stop, fld, hop, no_more, and_then, assigns, assigns_last, first, blocks, branches, skips, exec, returns, returns_within, well_typed}
pub use types.ByLocal.{alloc_all, pass_all, free_all, look_at, get, get_in, through, sets, lands_as, env}
pub use types.Part.{agg, sub, whole}
pub use denote.Exit.{yes, no}
pub use denote.Builtin.{RawPtr}
pub use denote.RattleType.{RattleType, Valss}
pub use denote.RawPtr.{Ptr, block_ptr, null_ptr, ptr_val, lies_at, in_a_block, rawptr_vals, rawptr_Tells, rawptr_Lawful}
pub use denote.Signature.{plain}
pub use denote.Steps.{nothing, owned, opens, closes, tied, ties, heard, peeks, only}
pub use denote.Struct.Struct.{within}
pub use denote.Struct.Owning.{shape}
pub use denote.Triple.Call.{calls_at}
pub use denote.Triple.Clauses.{lasts}
pub use denote.Triple.Entry.{on_entry}
pub use denote.Triple.Spec.{triple_of}
pub use denote.Triple.Walked.{Stays, walk_of, says, stay_dropped, Goes-dropped, ends_at}
