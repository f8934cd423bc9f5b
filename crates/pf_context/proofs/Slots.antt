-- What changes of slots change.
use Rattle.std.proofs.Common.{◌≡◌, ◌<◌, ◌≤◌, ◌+◌, ◌^◌, ℕ, List, arith, length, length-set, refl, set, set-set}
use Rattle.std.proofs.Math.Nat.{lt_of_not-le}
use Rattle.std.proofs.lemmas.Grind.{common_steps}
use Rattle.std.proofs.lemmas.List.{get_or-set_same, get_or_append_left, get_or_past, get_or_push}
use Rattle.std.proofs.lemmas.List.Sums.{sum_by-set, sum_by_push}
use Rattle.std.specs.Prelude.{IsSome, None, Some}
use Rattle.pf_context.specs.declared.key.Key.{Key}
use Rattle.pf_context.specs.declared.table.Slot.{Slot}
use Rattle.pf_context.specs.Table.{HasFree, IsFree, IsNextKey, slot_at, value_at, value_count, with_new_value, with_slot, with_value, with_value_out, without_value}

module _ {A : Type 0} where
  -- a slot that was made where there was none is like one that was never used
  pub same_slots : (slots : List (Slot A)) (index other : ℕ) → slot_at (with_slot slots index) other ≡ slot_at slots other
  same_slots slots index other = grind (arith, common_steps, get_or_past, get_or_push, get_or_append_left)

  -- and as many values stand in the slots
  pub same_count : (slots : List (Slot A)) (index : ℕ) → value_count (with_slot slots index) ≡ value_count slots
  same_count slots index = grind (arith, common_steps, sum_by_push)

  -- a value that is put into a slot stands under its key
  pub value_put : (slots : List (Slot A)) (key : Key) (value : A) → key.index < length slots → value_at (with_value slots key value) key ≡ Some value
  value_put slots key value within = grind (arith, common_steps, get_or-set_same)

  -- and one value more stands in the slots, where the slot had none
  pub count_put : (slots : List (Slot A)) (key : Key) (value : A) → key.index < length slots → (slot_at slots key.index).value ≡ None → value_count (with_value slots key value) ≡ value_count slots + 1
  count_put slots key value within empty = grind (arith, common_steps, sum_by-set)

  -- a slot behind the last is free
  free_behind : (slots : List (Slot A)) → IsFree (slot_at slots (length slots))
  free_behind slots = grind (arith, common_steps, get_or_past)

  -- the slot of the next key is there, or it is the one behind the last
  next_le : (slots : List (Slot A)) (key : Key) → IsNextKey slots key → key.index ≤ length slots
  next_le slots key next =
      let behind_free = free_behind slots in
      let not_behind : key.index < length slots + 1 = lt_of_not-le (λ behind. next.slot.first (length slots) (omega arith) behind_free) in
      omega arith

  -- so it is there once it was made
  pub next_within : (slots : List (Slot A)) (key : Key) → IsNextKey slots key → key.index < length (with_slot slots key.index)
  next_within slots key next =
      let le : key.index ≤ length slots = next_le slots key next in
      grind (arith, common_steps)

  -- the next value stands under its key
  pub value_new : (slots : List (Slot A)) (key : Key) (value : A) → IsNextKey slots key → value_at (with_new_value slots key value) key ≡ Some value
  value_new slots key value next =
      value_put (with_slot slots key.index) key value (next_within slots key next)

  -- and is one more
  pub count_new : (slots : List (Slot A)) (key : Key) (value : A) → IsNextKey slots key → value_count (with_new_value slots key value) ≡ value_count slots + 1
  count_new slots key value next =
      let same = same_slots slots key.index key.index in
      let empty : (slot_at (with_slot slots key.index) key.index).value ≡ None = cc (same, next.slot.free.empty) in
      let put = count_put (with_slot slots key.index) key value (next_within slots key next) empty in
      let counted = same_count slots key.index in
      omega arith

  -- some slot is free where one was made free
  free_where_emptied : (slots : List (Slot A)) (index : ℕ) (slot : Slot A) → index < length slots → IsFree slot → HasFree (set slots index slot)
  free_where_emptied slots index slot within free =
      (index, slot, omega (arith, length-set {A = Slot A}), get_or-set_same slots index slot slot within, free)

  -- the slot of a value is there
  value_within : (slots : List (Slot A)) (key : Key) → IsSome (value_at slots key) → key.index < length slots
  value_within slots key some = grind (arith, common_steps, get_or_past)

  -- the slot of a value that was taken out is free, where a generation is left
  pub free_without : (slots : List (Slot A)) (key : Key) → IsSome (value_at slots key) → key.generation + 1 < 2 ^ 32 → HasFree (without_value slots key)
  free_without slots key some below =
      free_where_emptied slots key.index _ (value_within slots key some) (record { empty = refl; not_retired = below })

  -- a value that is put back is another value where it stood
  pub value_back : (slots : List (Slot A)) (key : Key) (value : A) → with_value (with_value_out slots key) key value ≡ with_value slots key value
  value_back slots key value = set-set slots key.index _ _
