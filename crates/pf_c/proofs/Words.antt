-- The machine words of a raw box: its pointer, and its allocator. What it owns is opened and closed
-- here, so that the walks speak of the box that lies at the pointer.
use Rattle.std.proofs.Common.{◌≡◌, ℕ, List, [], ◌∷◌, ◌++◌, refl, sym, subst}
use mathlib.Core.Bool.{◌&&◌, true}
use lib.Dec.{T}
use seplogic.Ra.Ura.{Ura}
use mir.Syntax.{impl, tnil, dnil}
use mir.Raw.{raw as bare}
use mir.Val.{Val, vptr, vstruct, vcons, vnil, of_list, has_ty, WT}
use base.Logic.{never, fst∗}
use types.Logic.{Logic, sem}
use types.Kit.{Item, Goal, Seq, Step, step, ‵, ◌$◌, move, drop, fsplit, fjoin, fpick, fpack, feq_i, feq_l}
use denote.RattleType.{RattleType, Valss}
use denote.Builtin.{RawPtr}
use denote.Memory.{lone}
use denote.RawPtr.{Ptr, block_ptr, null_ptr, ptr_val, in_a_block}
use denote.Steps.{nothing}
use denote.Param.{layout}
use denote.Param.Laws.{Laws}
use denote.Struct.Struct.{within}
use denote.Struct.Owning.{shape}
use Rattle.std.specs.declared.alloc.Allocator.{Ghosts}
use Rattle.std.specs.Box.Ownership.{box_owns}
use Rattle.std.proofs.alloc.Calls.{Al, handle_tells}
use Rattle.std.proofs.cell.Inside.{Good}
use Rattle.std.proofs.ResultValues.{and_tt}
use Rattle.std.specs.Prelude.{IsSome, Option, Some, None}
use Rattle.pf_context.specs.Context.{Context}
use Rattle.pf_context.specs.contracts.context.Context as context
use Rattle.pf_c.specs.Held.{held, is_freed_by}
use Rattle.pf_c.specs.contracts.raw_box.RawBox as raw_box

-- a struct of two words
abbrev pub two : Val → Val → Val
two v w = vstruct (vcons v (vcons w vnil))

-- of a value type and an allocator
module _ (R A : RattleType) (L : Laws A) (g : Ghosts A.Denot) where
  abbrev pub RawBox : RattleType
  RawBox = raw_box.the_row R A g

  -- what the allocator's lemmas take of it
  abbrev pub allocator : Al
  allocator = record { row = A; laws = L; g = g; d = impl [] tnil dnil; drops = impl [] tnil dnil }

  -- the words have their types
  pub two_good : (b o : ℕ) (h : Val) → Good (layout A) h → T (has_ty (layout A) h && true) × WT (two (vptr b o) h)
  two_good b o h good = (and_tt (has_ty (layout A) h) good.0, (tt, (good.1, tt)))

  module _ {M : Type 1} {𝓤 : Ura M} {𝓛 : Logic 𝓤} {K : Type 0} {Γ : List (Item 𝓤)} {G : Goal 𝓤 𝓛.H} where
    -- a raw box is a pointer into a block, an allocator, and the box that lies there
    pub opened : K → (d : RawBox.Denot) (vs : List Val)
        → ((b o : ℕ) (h : Val) → d.at ≡ block_ptr b o → vs ≡ two (vptr b o) h ∷ [] → Good (layout A) h
        → Seq K 𝓛 (‵ (box_owns (g.dealloc_token d.alloc) R (block_ptr b o) d.value) ∷ ‵ (A.own_val d.alloc (h ∷ [])) ∷ Γ) G)
        → Seq K 𝓛 (‵ (RawBox.own_val d vs) ∷ Γ) G
    opened t d vs go =
        let words : List Val → List Val → Type 0 = λ ps hs. vs ≡ vstruct (of_list (ps ++ (hs ++ []))) ∷ [] in
        let unowned = fst∗ 𝓤 (never 𝓤) (sem 𝓛 (g.dealloc_token d.alloc (bare (lone R.mir)) null_ptr)) in
        fsplit t $ fpick t (λ vss. fsplit t $ feq_l t (λ all. fsplit t $ feq_l t (λ pointer. fsplit t $
        handle_tells allocator t d.alloc vss.1.0 (λ h handle good.
        move t (1 ∷ []) $ drop t $ move t (1 ∷ []) $
        in_a_block t d.at (λ p. box_owns (g.dealloc_token d.alloc) R p d.value) unowned (λ b o at.
        let known : words (ptr_val d.at ∷ []) (h ∷ []) = subst (words (ptr_val d.at ∷ [])) handle (subst (λ ps. words ps vss.1.0) pointer all) in
        go b o h at (subst (λ (p : Ptr). words (ptr_val p ∷ []) (h ∷ [])) at known) good)))))

    pub closed : K → (b o : ℕ) (h : Val) (a : A.Denot) (x : R.Denot)
        → Step K 𝓛 (‵ (RawBox.own_val (record { at = block_ptr b o; alloc = a; value = x }) (two (vptr b o) h ∷ [])) ∷ Γ) G
        (‵ (box_owns (g.dealloc_token a) R (block_ptr b o) x) ∷ ‵ (A.own_val a (h ∷ [])) ∷ Γ) G
    closed t b o h a x = step (λ rest.
        let whole : List Val = two (vptr b o) h ∷ [] in
        nothing t $ move t (2 ∷ 0 ∷ []) $ fjoin t $
        feq_i t (List Val) (vptr b o ∷ []) (vptr b o ∷ []) refl $ fjoin t $
        feq_i t (List Val) whole whole refl $ fjoin t $
        fpack t (Valss (RawPtr ∷ A ∷ [])) (within (shape (raw_box.the_type R A g)) (block_ptr b o, (a, tt)) whole) (vptr b o ∷ [], (h ∷ [], tt)) $
        fjoin t $ rest)

-- a handle that has a value owns a box of it
pub held_box : {M : Type 1} {𝓤 : Ura M} {𝓛 : Logic 𝓤} {K : Type 0} {Γ : List (Item 𝓤)} {G : Goal 𝓤 𝓛.H} (p : Ptr) (v : Option Context) → IsSome v → K
    → ((x : Context) → v ≡ Some x → Seq K 𝓛 (‵ (box_owns is_freed_by context.the_row p x) ∷ Γ) G) → Seq K 𝓛 (‵ (held p v) ∷ Γ) G
held_box p None some t go = absurd (subst T (sym some) tt)
held_box p (Some x) some t go = go x refl
