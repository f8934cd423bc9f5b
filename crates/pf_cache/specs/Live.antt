-- Live slots: those with a watched body. The others keep their contact points, so that a tick has
-- to bring only the points of live ones up to date.
use Rattle.std.specs.Prelude.{◌≡◌, ℕ, Bool, true, false, List, All, get_or}
use Rattle.pf_cache.specs.declared.slot.SlotPlace.{SlotPlace}
use Rattle.pf_cache.specs.Slots.{Slot, has_flagged_body, is_of_pair, slot_places, slot_touches}

-- one of the bodies of the slot is watched
abbrev pub is_live : List Bool → Slot → Bool
is_live watched s = has_flagged_body watched s.pair

-- these are the live ones of all slots
abbrev pub AreLive : List Bool → List SlotPlace → List Slot → Type 0
AreLive watched live slots = live ≡ slot_places (is_live watched) 0 0 slots

-- each body whose flag is set is watched
abbrev pub AreWatched : List Bool → List Bool → Type 0
AreWatched watched flags =
    (k : ℕ) → get_or watched k false ≡ false → get_or flags k false ≡ false

-- the contact points of a slot are of its pair
abbrev pub HasOwnTouches : Slot → Type 0
HasOwnTouches s = All (λ t. is_of_pair s.pair t ≡ true) (slot_touches s)
