-- The ticks at which a peer keeps worlds: beside the world of the horizon, the last ones that were
-- settled, and keyframes for commands that come far too late for these.
use Rattle.std.specs.Prelude.{ℕ, zero, suc, ◌+◌, ◌-◌, ◌%◌, List, [], ◌∷◌, ◌++◌, length, filter, max, Option, Some, None, ◌==◌, nat_le, nat_lt, if◌then◌else◌, slice_index}
use Rattle.std.specs.List.Sorted.{IsStrictlyIncreasing}
use Rattle.circular_buffer.specs.Buffer.{keep_last}
use Rattle.pf_rollback.specs.declared.snapshots.TheConstants.{KEYFRAME_INTERVAL}

-- the ticks of kept worlds: the horizon, whose world is always kept; and after it the last ones
-- that were settled, at most as many as the ring has places, and the keyframes
pub record Ticks : Type 0 where
  pub horizon : ℕ
  pub recent : List ℕ
  pub keyframes : List ℕ
  pub ring : ℕ

-- both lists rise, so the last tick of each is its greatest
pub record AreRising (k : Ticks) : Type 0 where
  pub recent : IsStrictlyIncreasing k.recent
  pub keyframes : IsStrictlyIncreasing k.keyframes

-- at first there is only the horizon, which is tick 0
abbrev pub no_ticks : ℕ → Ticks
no_ticks ring = record { horizon = 0; recent = []; keyframes = []; ring = ring }

-- the last of some ticks, or 0
abbrev pub last_tick : List ℕ → ℕ
last_tick ticks = slice_index ticks (length ticks - 1)

-- the settled tick: the greatest kept one
unfoldable pub settled_tick : Ticks → ℕ
settled_tick k = max k.horizon (max (last_tick k.recent) (last_tick k.keyframes))

-- those of some ticks that are not above a tick
abbrev pub up_to : ℕ → List ℕ → List ℕ
up_to tick ticks = filter (λ u. nat_le u tick) ticks

-- the kept ticks without those above a tick
unfoldable pub ticks_up_to : ℕ → Ticks → Ticks
ticks_up_to tick k =
    record k { recent = up_to tick k.recent; keyframes = up_to tick k.keyframes }

-- the kept ticks after news, of which this is the least tick, if there are any: a command of a tick
-- changes the worlds after it, and no other
abbrev pub ticks_after_news : Option ℕ → Ticks → Ticks
ticks_after_news None k = k
ticks_after_news (Some tick) k = ticks_up_to tick k

-- for a tick from the horizon on, the greatest kept tick up to it
abbrev pub nearest_tick : Ticks → ℕ → ℕ
nearest_tick k tick = settled_tick (ticks_up_to tick k)

-- the kept ticks after a tick is settled
unfoldable pub ticks_after_settling : Ticks → ℕ → Ticks
ticks_after_settling k tick = record {
  horizon = k.horizon;
  recent = keep_last k.ring (k.recent ++ tick ∷ []);
  keyframes = if tick % KEYFRAME_INTERVAL == 0 then k.keyframes ++ tick ∷ [] else k.keyframes;
  ring = k.ring;
}

-- the kept ticks after so many more ticks are settled
unfoldable pub ticks_after_more : Ticks → ℕ → Ticks
ticks_after_more k zero = k
ticks_after_more k (suc more) =
    let before = ticks_after_more k more in
    ticks_after_settling before (settled_tick before + 1)

-- those of some ticks that are after a tick
abbrev pub later_than : ℕ → List ℕ → List ℕ
later_than tick ticks = filter (λ u. nat_lt tick u) ticks

-- the kept ticks after a tick is sealed: it is the horizon, and of the others the later ones stay
unfoldable pub ticks_after_seal : ℕ → Ticks → Ticks
ticks_after_seal tick k = record {
  horizon = tick;
  recent = later_than tick k.recent;
  keyframes = later_than tick k.keyframes;
  ring = k.ring;
}
