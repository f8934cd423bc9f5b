-- Each step keeps the rule of the channel of answers.
use Rattle.std.proofs.Common.{◌≡◌, ◌∙◌, ℕ, zero, suc, ◌+◌, List, [], ◌∷◌, ◌++◌, length, set, false, true, Some, refl, sym, ap, subst, arith}
use Rattle.std.proofs.lemmas.Bool.{true≢false}
use mathlib.Core.Option.{some, some-ne-none}
use lib.ListN.{get_elem?}
use Rattle.std.specs.Prelude.{⊤}
use Rattle.crossbeam_channel.specs.Fifo.{Pushes, Pops, Forks}
use Rattle.pf_pool.specs.declared.reply.Answer.{Answer}
use Rattle.pf_pool.specs.declared.reply.Dealt.{Dealt}
use Rattle.pf_pool.specs.declared.reply.Known.{Known}
use Rattle.pf_pool.specs.declared.reply.Message.{Message}
use Rattle.pf_pool.specs.declared.reply.Message.TheVariants as messages
use Rattle.pf_pool.specs.Reply.{ArePasses, AreReplies, IsPass, IsDoneOf, IsReply, known_after, known_first}
use Rattle.pf_pool.proofs.Lists.{all_more}

-- what stands at a place is one thing
one_some : {X : Type 0} {x y : X} → some x ≡ some y → x ≡ y
one_some {X} {x} {y} same = ap (λ o. get o) same
  where
    get : mathlib.Core.Option.Option X → X
    get (some z) = z
    get mathlib.Core.Option.none = x

-- what stands in a list after one element was set: that element at its place, or an old one
set_at : {X : Type 0} (P : ℕ → X → Type 0) (xs : List X) (place : ℕ) (x : X) → P place x
    → ((i : ℕ) (y : X) → get_elem? xs i ≡ some y → (i ≡ place → ⊥) → P i y)
    → (i : ℕ) (y : X) → get_elem? (set xs place x) i ≡ some y → P i y
set_at P [] place x new old i y at = absurd (some-ne-none y (sym at))
set_at P (z ∷ xs) zero x new old zero y at = subst (P 0) (one_some at) new
set_at P (z ∷ xs) zero x new old (suc i) y at = old (suc i) y at (λ same. absurd (omega (arith, same)))
set_at P (z ∷ xs) (suc place) x new old zero y at = old 0 y at (λ same. absurd (omega (arith, same)))
set_at P (z ∷ xs) (suc place) x new old (suc i) y at =
    set_at (λ j. P (suc j)) xs place x new (λ j u is other. old (suc j) u is (λ same. other (omega (arith, same)))) i y at

-- what stands in a list with one more element: an old one, or that one at the end
more_at : {X : Type 0} (P : ℕ → X → Type 0) (xs : List X) (x : X) → P (length xs) x
    → ((i : ℕ) (y : X) → get_elem? xs i ≡ some y → P i y) → (i : ℕ) (y : X) → get_elem? (xs ++ x ∷ []) i ≡ some y → P i y
more_at P [] x new old zero y at = subst (P 0) (one_some at) new
more_at P [] x new old (suc i) y at = absurd (some-ne-none y (sym at))
more_at P (z ∷ xs) x new old zero y at = old 0 y at
more_at P (z ∷ xs) x new old (suc i) y at = more_at (λ j. P (suc j)) xs x new (λ j u is. old (suc j) u is) i y at

module _ {P : Type 0} (caller : ℕ) (last : Known P) where
  -- a pass that knows what it knew
  fit_set : (views : List (Known P)) (pass : ℕ) (known : Known P) → get_elem? views pass ≡ some known
      → ArePasses caller last views → ArePasses caller last (set views pass known)
  fit_set views pass known at fit = set_at (IsPass caller last) views pass known (fit pass known at) (λ i y is other. fit i y is)

  -- one more pass, which knows what another knows, and does not deal
  fit_more : (views : List (Known P)) (pass : ℕ) (known : Known P) → IsPass caller last pass known
      → ArePasses caller last views → ArePasses caller last (views ++ record known { deals = false } ∷ [])
  fit_more views pass known fits fit =
      more_at (IsPass caller last) views (record known { deals = false })
      (fits.0, fits.1, λ deals. absurd (true≢false (sym deals))) fit

module _ {P : Type 0} where
  -- the first pass is the caller's
  first_fits : ArePasses 0 (known_first {P = P}) (known_first ∷ [])
  first_fits zero known at = subst (IsPass 0 known_first 0) (one_some at) (omega arith, λ same. refl, λ deals. (refl, refl))
  first_fits (suc pass) known at = absurd (some-ne-none known (sym at))

module _ {P : Type 0} (IsDone : P → P → Type 0) where
  pub begins : AreReplies IsDone [] (known_first ∷ [])
  begins = (0, known_first, (λ i e low. absurd (omega (arith, low))), first_fits)

  -- an answer of earlier runs says nothing of the next one
  later : (last : Known P) (d : Dealt P) (m : Message P) → IsReply IsDone last m
      → IsReply IsDone (record last { run = last.run + 1; dealt = Some d }) m
  later last d (messages.Dealt other) reply = tt
  later last d (messages.Answer answer) reply = (omega (arith, reply.0), λ same. absurd (omega (arith, reply.0, same)))

  -- the caller tells what is dealt in the next run
  pub deals : (n pass : ℕ) (v : Known P) (d : Dealt P) → v.deals ≡ true
      → Pushes (AreReplies IsDone) n pass v (messages.Dealt d) (λ w. w ≡ known_after v (messages.Dealt d))
  deals n pass v d is items views room holds at =
      let caller = holds.0 in
      let last = holds.1 in
      let replies = holds.2 in
      let fit = holds.3 in
      let own = fit pass v at in
      let here = own.2 is in
      let next : Known P = record last { run = last.run + 1; dealt = Some d } in
      let after : Known P = known_after v (messages.Dealt d) in
      let counted : v.run + 1 ≡ last.run + 1 = ap (λ run. run + 1) here.1 in (
        after,
        (
          caller,
          next,
          all_more (IsReply IsDone next) items (messages.Dealt d) (λ i e low. later last d _ (replies i e low)) tt,
          set_at (IsPass caller next) views pass after (omega (arith, counted), λ same. refl, λ deals. (here.0, counted))
              (λ i y at_i other.
              let old = fit i y at_i in
              (omega (arith, old.0), λ same. absurd (omega (arith, old.0, same)), λ deals. absurd (other ((old.2 deals).0 ∙ sym here.0)))),
        ),
        refl,
      )

  -- an answer joins the others
  pub answers : (n pass : ℕ) (v : Known P) (answer : Answer P) → answer.run ≡ v.run
      → ((d : Dealt P) → v.dealt ≡ Some d → IsDoneOf IsDone d answer.worker answer.done)
      → Pushes (AreReplies IsDone) n pass v (messages.Answer answer) (λ w. ⊤)
  answers n pass v answer run done items views room holds at =
      let caller = holds.0 in
      let last = holds.1 in
      let own = holds.3 pass v at in
      let reply : IsReply IsDone last (messages.Answer answer) =
      (omega (arith, own.0, run), λ same d dealt. done d (own.1 (sym run ∙ same) ∙ dealt)) in (
        v,
        (
          caller,
          last,
          all_more (IsReply IsDone last) items (messages.Answer answer) holds.2 reply,
          fit_set caller last views pass v at holds.3,
        ),
        tt,
      )

  -- the caller knows of a message what the rule knows
  of_caller : (last v : Known P) (m : Message P) → v.run ≡ last.run → v.dealt ≡ last.dealt → IsReply IsDone last m → IsReply IsDone v m
  of_caller last v (messages.Dealt other) run dealt reply = tt
  of_caller last v (messages.Answer answer) run dealt reply =
      (omega (arith, run, reply.0), λ same d is. reply.1 (same ∙ run) d (sym dealt ∙ is))

  -- what arrives is an answer of what was dealt
  pub takes : (pass : ℕ) (v : Known P)
      → Pops (AreReplies IsDone) pass v (λ x w. (w ≡ v) × (v.deals ≡ true → IsReply IsDone v x))
  takes pass v x items views holds at =
      let caller = holds.0 in
      let last = holds.1 in
      let own = holds.3 pass v at in (
        v,
        (caller, last, (λ i e low. holds.2 (suc i) e (omega (arith, low))), fit_set caller last views pass v at holds.3),
        (
          refl,
          λ deals.
              let here = own.2 deals in
              of_caller last v x here.1 (own.1 here.1) (holds.2 0 x (omega arith)),
        ),
      )

  -- a pass is cut in two that know the same
  pub forks : (pass : ℕ) (v : Known P) → Forks (AreReplies IsDone) pass v v (record v { deals = false })
  forks pass v items views holds at =
      let caller = holds.0 in
      let last = holds.1 in
      let fit = fit_set caller last views pass v at holds.3 in
      (caller, last, holds.2, fit_more caller last (set views pass v) pass v (holds.3 pass v at) fit)
