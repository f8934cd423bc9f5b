-- What the workers of a pool are asked, and what their answers are together.
use Rattle.std.proofs.Common.{◌≡◌, ◌∙◌, ℕ, zero, suc, ◌+◌, ◌<◌, List, [], ◌∷◌, ◌++◌, drop, take, Option, None, Some, length, get_or, ap, subst, sym, arith, ◌≤◌, Bool, true, false, Result, Ok, Err}
use Rattle.std.proofs.lemmas.Bool.{true≢false}
use Rattle.std.specs.Prelude.{All, IfOk, IfSome, IsNone, is_some}
use Rattle.pf_pool.specs.Pool.{AreDone, AreDoneFrom, ArePartlyDone}
use Rattle.pf_pool.specs.Reply.{IsDoneOf}
use Rattle.pf_pool.specs.Slots.{AreAnswers, AreAway, HaveAnswered}
use Rattle.pf_pool.specs.declared.reply.Dealt.{Dealt}
use Rattle.pf_pool.proofs.Lists.{default_same, written_back}

-- what follows from a success
pub if_ok_then : {X E : Type 0} {P Q : X → Type 0} (r : Result X E) → IfOk r P → ((x : X) → P x → Q x) → IfOk r Q
if_ok_then (Ok x) is then = then x is
if_ok_then (Err e) is then = tt

-- what was dealt is one thing
pub same_dealt : {P : Type 0} (d e : Dealt P) (known : Option (Dealt P)) → known ≡ Some d → known ≡ Some e → d ≡ e
same_dealt {P} d e known is also = ap (λ o. get o) (sym is ∙ also)
  where
    get : Option (Dealt P) → Dealt P
    get (Some f) = f
    get None = d

-- a pool whose workers were found there one by one has them all
pub all_there : (workers : List Bool) (n : ℕ) → length workers ≤ n
    → ((i : ℕ) → i < n → get_or workers i false ≡ true) → All (λ there. there ≡ true) workers
all_there workers n long there i d low = default_same workers i d false low ∙ there i (omega (arith, low, long))

-- where something stands in a list of slots, there is a slot
pub within : {X : Type 0} (slots : List (Option X)) (w : ℕ) (x : X) → get_or slots w None ≡ Some x → w < length slots
within [] w x at = absurd (true≢false (sym (ap is_some at)))
within (slot ∷ slots) zero x at = omega arith
within (slot ∷ slots) (suc w) x at = omega (arith, within slots w x at)

module _ {P : Type 0} (IsDone : P → P → Type 0) (d : Dealt P) where
  -- before any answer all are as they may be
  pub none_answered : (least : ℕ) (slots : List (Option P)) → AreAway least slots → AreAnswers IsDone d least slots
  none_answered least slots away w from low = by (get_or slots w None) (away w from low)
    where
      by : (slot : Option P) → IsNone slot → IfSome slot (IsDoneOf IsDone d w)
      by None is = tt
      by (Some part) is = absurd (true≢false is)

  -- where these workers have answered, their parts are done
  pub done_from : (least : ℕ) (before after : List (Option P)) → d.parts.value.items ≡ before → length after ≡ length before
      → AreAnswers IsDone d least after → HaveAnswered least after → AreDoneFrom IsDone least before after
  done_from least before after dealt count answers have = (
    count,
    have,
    λ w part done from was is.
        subst (λ slot. IfSome slot (IsDoneOf IsDone d w)) is (answers w from (within after w done is)) part
        (ap (λ slots. get_or slots w None) dealt ∙ was),
  )

  -- the same of parts that were lent out of a list with memory, and written back
  module _ (least len : ℕ) (old new lent : List (Option P)) (dealt : d.parts.value.items ≡ old) (same : lent ≡ old)
      (count : length new ≡ length lent) (whole : len ≡ length old) (answers : AreAnswers IsDone d least new)
      (have : HaveAnswered least new) where
    long : length new ≡ length old
    long = count ∙ ap length same

    pub partly_done : ((w : ℕ) → w + 1 < least → get_or new w None ≡ get_or lent w None)
        → ArePartlyDone IsDone old (take len (new ++ drop (length new) old))
    partly_done kept =
        subst (ArePartlyDone IsDone old) (sym (written_back len new old long whole)) (
          least,
          done_from least old new dealt long answers have,
          λ w low. kept w low ∙ ap (λ slots. get_or slots w None) same,
        )

    pub all_done : least ≡ 0 → AreDone IsDone old (take len (new ++ drop (length new) old))
    all_done all =
        subst (AreDone IsDone old) (sym (written_back len new old long whole))
        (subst (λ n. AreDoneFrom IsDone n old new) all (done_from least old new dealt long answers have))
