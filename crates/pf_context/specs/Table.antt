-- What a contract sees of a table: its slots, the value that a key names, and which keys are past.
use Rattle.std.specs.Prelude.{◌≡◌, ◌≢◌, ◌==◌, ◌+◌, ◌^◌, ◌<◌, ◌≤◌, ℕ, Any, List, None, Option, Some, [], ◌∷◌, ◌++◌, count_by, if◌then◌else◌, is_some, length, nat_lt, slice_index_or, slice_set}
use Rattle.pf_context.specs.declared.key.Key.{Key}
use Rattle.pf_context.specs.declared.table.Slot.{Slot}

module _ {A : Type 0} where
  -- a slot of a generation that holds no value
  abbrev pub empty_slot : ℕ → Slot A
  empty_slot generation = record { generation = generation; value = None }

  -- a slot that was never used
  abbrev pub unused_slot : Slot A
  unused_slot = empty_slot 0

  -- the slot with an index; past the last slot, one that was never used
  abbrev pub slot_at : List (Slot A) → ℕ → Slot A
  slot_at slots index = slice_index_or slots index unused_slot

  -- what a slot holds for a key of a generation: its value, where that is the slot's own
  abbrev pub value_in : Slot A → ℕ → Option A
  value_in slot generation = if slot.generation == generation then slot.value else None

  -- the value that a key names, if there is one
  abbrev pub value_at : List (Slot A) → Key → Option A
  value_at slots key = value_in (slot_at slots key.index) key.generation

  -- a key is past, or stale: its slot has come to a later generation
  abbrev pub IsPast : List (Slot A) → Key → Type 0
  IsPast slots key = key.generation < (slot_at slots key.index).generation

  -- each other key names what it named before
  abbrev pub KeepsOthers : List (Slot A) → List (Slot A) → Key → Type 0
  KeepsOthers old new key = (other : Key) → other ≢ key → value_at new other ≡ value_at old other

  -- each key that was past is past
  abbrev pub KeepsPast : List (Slot A) → List (Slot A) → Type 0
  KeepsPast old new = (key : Key) → IsPast old key → IsPast new key

  -- each other slot is as it was
  abbrev pub KeepsSlots : List (Slot A) → List (Slot A) → ℕ → Type 0
  KeepsSlots old new index = (other : ℕ) → other ≢ index → slot_at new other ≡ slot_at old other

  -- a table, and what it is later after one call and another: past keys stay past, as each call
  -- ensures
  abbrev pub IsHistory : List (Slot A) → List (List (Slot A)) → Type 0
  IsHistory slots [] = Unit {0}
  IsHistory slots (next ∷ later) = KeepsPast slots next × IsHistory next later

  -- a slot can take a value: it holds none, and it has not retired, so a key is left
  pub record IsFree (slot : Slot A) : Type 0 where
    pub empty : slot.value ≡ None
    pub not_retired : slot.generation < 2 ^ 32

  -- some slot is free
  abbrev pub HasFree : List (Slot A) → Type 0
  HasFree = Any IsFree

  -- no slot is free, and no index is left for a new one
  pub record IsFull (slots : List (Slot A)) : Type 0 where
    pub none_free : HasFree slots → ⊥
    pub no_index : 2 ^ 32 ≤ length slots

  -- how many values stand in the slots
  abbrev pub value_count : List (Slot A) → ℕ
  value_count slots = count_by (λ slot. is_some slot.value) slots

  -- the slot of an index is the first one that is free; it is a new one, behind the last, where
  -- none of the slots is
  pub record IsFirstFree (slots : List (Slot A)) (index : ℕ) : Type 0 where
    pub free : IsFree (slot_at slots index)
    pub first : (earlier : ℕ) → earlier < index → IsFree (slot_at slots earlier) → ⊥

  -- the key that names the value in the slot of an index, or the next value there
  abbrev pub key_at : List (Slot A) → ℕ → Key
  key_at slots index =
      record { index = index; generation = (slot_at slots index).generation }

  -- the next value gets this key: that of the first free slot
  pub record IsNextKey (slots : List (Slot A)) (key : Key) : Type 0 where
    pub slot : IsFirstFree slots key.index
    pub generation : key.generation ≡ (slot_at slots key.index).generation

  -- the slot of a value under a key of a generation
  abbrev pub used_slot : ℕ → A → Slot A
  used_slot generation value = record { generation = generation; value = Some value }

  -- the slots, with another value for a key that names one
  abbrev pub with_value : List (Slot A) → Key → A → List (Slot A)
  with_value slots key value = slice_set slots key.index (used_slot key.generation value)

  -- the slots, with one more where an index is that of a new one behind the last
  abbrev pub with_slot : List (Slot A) → ℕ → List (Slot A)
  with_slot slots index =
      if nat_lt index (length slots) then slots else slots ++ unused_slot ∷ []

  -- the slots, with a value under the next key, in a new slot where no other is free
  abbrev pub with_new_value : List (Slot A) → Key → A → List (Slot A)
  with_new_value slots key value = with_value (with_slot slots key.index) key value

  -- the slots, without the value of a key that names one: its slot has come to the next generation
  abbrev pub without_value : List (Slot A) → Key → List (Slot A)
  without_value slots key = slice_set slots key.index (empty_slot (key.generation + 1))

  -- the slots, without the value of a key that names one, which is only out for a while
  abbrev pub with_value_out : List (Slot A) → Key → List (Slot A)
  with_value_out slots key = slice_set slots key.index (empty_slot key.generation)

  -- the value of a key is out: its slot is there, holds none, and has its generation still
  pub record IsOut (slots : List (Slot A)) (key : Key) : Type 0 where
    pub within : key.index < length slots
    pub empty : slot_at slots key.index ≡ empty_slot key.generation
