-- The rule of the channel over which the workers of a pool answer.
use Rattle.std.specs.Prelude.{◌≡◌, ℕ, ⊤, ◌+◌, ◌≤◌, true, List, All, Option, None, Some, slice_index_or}
use mathlib.Core.Option.{some}
use lib.ListN.{get_elem?}
use Rattle.pf_pool.specs.declared.reply.Dealt.{Dealt}
use Rattle.pf_pool.specs.declared.reply.Known.{Known}
use Rattle.pf_pool.specs.declared.reply.Message.{Message}
use Rattle.pf_pool.specs.declared.reply.Message.TheVariants as messages

module _ {P : Type 0} where
  -- at first nothing was dealt, and there is only the caller
  abbrev pub known_first : Known P
  known_first = record { deals = true; run = 0; dealt = None }

  -- if this is known, then these parts were dealt
  abbrev pub WereDealt : Option (Dealt P) → List (Option P) → Type 0
  WereDealt known parts = (d : Dealt P) → known ≡ Some d → d.parts.value.items ≡ parts

  -- if this is known, then this part was dealt to this worker
  abbrev pub WasDealt : Option (Dealt P) → ℕ → P → Type 0
  WasDealt known worker part =
      (d : Dealt P) → known ≡ Some d → slice_index_or d.parts.value.items worker None ≡ Some part

  -- a pass of which the caller knows this: only the caller's deals, and knows of the last run what
  -- was dealt; another is of that run, and then knows the same, or of an earlier one
  abbrev pub IsPass : ℕ → Known P → ℕ → Known P → Type 0
  IsPass caller last pass known =
      (known.run ≤ last.run) × (known.run ≡ last.run → known.dealt ≡ last.dealt)
      × (known.deals ≡ true → (pass ≡ caller) × (known.run ≡ last.run))

  abbrev pub ArePasses : ℕ → Known P → List (Known P) → Type 0
  ArePasses caller last views =
      (pass : ℕ) (known : Known P) → get_elem? views pass ≡ some known → IsPass caller last pass known

-- what the caller knows after a message of its own
abbrev pub known_after : {P : Type 0} → Known P → Message P → Known P
known_after known (messages.Dealt d) = record known { run = known.run + 1; dealt = Some d }
known_after known (messages.Answer answer) = known

module _ {P : Type 0} (IsDone : P → P → Type 0) where
  -- this is what a worker makes of the part that it was dealt
  abbrev pub IsDoneOf : Dealt P → ℕ → P → Type 0
  IsDoneOf d worker done =
      (part : P) → slice_index_or d.parts.value.items worker None ≡ Some part → IsDone part done

  -- a message of which the caller knows this: an answer in the last run is what its worker made of
  -- what was dealt in it, and other answers are of earlier runs
  abbrev pub IsReply : Known P → Message P → Type 0
  IsReply last (messages.Dealt other) = ⊤
  IsReply last (messages.Answer answer) =
      (answer.run ≤ last.run)
      × (answer.run ≡ last.run → (d : Dealt P) → last.dealt ≡ Some d
      → IsDoneOf d answer.worker answer.done)

  -- all messages and all passes are of what the caller knows
  abbrev pub AreReplies : List (Message P) → List (Known P) → Type 0
  AreReplies items views =
      (caller : ℕ) × (last : Known P) × All (IsReply last) items × ArePasses caller last views
