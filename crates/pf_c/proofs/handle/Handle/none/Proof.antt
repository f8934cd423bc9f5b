-- A null pointer owns nothing.
use Rattle.pf_c.proofs.Steps.{[], ◌∷◌, refl, proved, ‵, raw, ◌$◌, ◌∵◌, !, qed, done, drop, feq_i, fjoin, fpack, suffices, enter, lit, no_more, and_then, returns, alloc_all, pass_all, free_all, look_at, sets, agg, RawPtr, Valss, null_ptr, ptr_val, Val, vstruct, vcons, vnil, nothing, on_entry, within, shape, Stays, walk_of, says, ends_at, List, lit<}
use Rattle.std.specs.Prelude.{None}
use Rattle.pf_c.specs.contracts.handle.Handle as handle
use Rattle.pf_c.specs.contracts.handle.Handle.none as f
use Rattle.pf_c.proofs.handle.Handle.none.Statement.{statement}
use Rattle.pf_c.proofs.handle.Handle.none.Code as code

abbrev stayed : Stays f.ended.signature.params f.ended.kept
stayed = tt

pub none_spec : {M : Type 1} → statement M
none_spec 𝓤 𝓛 𝓜 𝓡 wired =
    let c = f.clauses 𝓛 𝓜.mem 𝓡.returns in let W = walk_of 𝓛 f.ended stayed c in
    proved 𝓛 f.ended stayed c 𝓜 𝓡 tt f.Key.name code.function (code.unfolded 𝓤 𝓛.H 𝓜 𝓡 wired)
    (λ κs. tt) (λ κs. tt) (λ κs qs bounds a n are.
    let y : W.Ghost = ((κs, qs, bounds, a, tt), n) in
    qed 𝓛 (raw (on_entry 𝓛 f.signature κs qs a y.0.4) ∷ ‵ base.Fml.ftrue ∷ []) ∵ drop ! $ drop ! $
    enter ! _ _ _ _ _ $ alloc_all ! (λ l. pass_all ! refl tt $
    let w : Val = vstruct (vcons (ptr_val null_ptr) vnil) in
    sets ! (agg ! (and_then ! (lit ! tt) (no_more !))) refl (tt, (record { fits = lit< tt }, tt)) $
    returns ! (look_at ! 0 refl) $ free_all ! refl $
    suffices ! _ (ends_at 𝓛 f.ended stayed c y w (record { at = null_ptr; value = None }) tt tt) $
    says ! refl $
    nothing ! $ nothing ! $ feq_i ! (List Val) (ptr_val null_ptr ∷ []) (ptr_val null_ptr ∷ []) refl $ fjoin ! $
    feq_i ! (List Val) (w ∷ []) (w ∷ []) refl $ fjoin ! $
    fpack ! (Valss (RawPtr ∷ [])) (within (shape handle.the_type) (null_ptr, tt) (w ∷ [])) (ptr_val null_ptr ∷ [], tt) $ fjoin ! $
    nothing ! $ nothing ! $ done !))
