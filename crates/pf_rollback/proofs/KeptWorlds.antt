-- Snapshots: what is kept after a world is kept, and after worlds are dropped.
use Rattle.std.proofs.Common.{◌≡◌, ℕ, suc, ◌+◌, ◌-◌, ◌*◌, ◌/◌, ◌%◌, ◌<◌, ◌≤◌, ◌⊎◌, inl, inr, Bool, true, false, if◌then◌else◌, List, [], ◌∷◌, ◌++◌, map, length, drop, take, min, max, ◌==◌, Option, Some, None, slice_get, get_or, IfSome, refl, ap, sym, ◌∙◌, subst, ⊎_elim, arith, length-append, length-drop}
use Rattle.std.specs.List.{range_with_len}
use Rattle.std.proofs.lemmas.Bool.{cases_lt}
use Rattle.std.proofs.lemmas.Bool.Decides.{nat_tests}
use Rattle.std.proofs.lemmas.List.{length-take}
use Rattle.std.proofs.lemmas.Option.{slice_get_past, slice_get_within, slice_get_read}
use Rattle.std.proofs.lemmas.List.{take_all}
use Rattle.circular_buffer.specs.Buffer.{keep_last}
use Rattle.circular_buffer.proofs.Places.{slice_get-append_left, slice_get-last, slice_get-some, slice_get-take, slice_get-drop}
use Rattle.pf_commands.specs.declared.name.TheConstants.{MAX_TICK}
use Rattle.pf_step.specs.Changes.{Changes, world_before}
use Rattle.pf_step.specs.World.{World}
use Rattle.pf_rollback.specs.declared.snapshots.TheConstants.{KEYFRAME_INTERVAL}
use Rattle.pf_rollback.specs.Kept.{no_ticks, settled_tick, ticks_up_to, nearest_tick, ticks_after_settling, ticks_after_seal}
use Rattle.pf_rollback.specs.Snapshots.{Snapshots, ticks_of, first_keyframe, last_world, settled_world, taken_world, world_before_all, other_keyframes, worlds_after, IsKeyframe, IsRecent, IsKept, IsSnapshots}
use Rattle.pf_rollback.proofs.RecentWorlds.{length_worlds, take_twice, world_at_place, worlds_earlier, worlds_kept}
use Rattle.pf_rollback.proofs.KeptTicks.{dense_ticks, settled_dense, tick_after_news, count_after_news, dense_up_to, is_after_news, nearest_dense, dense_more, count_after_seal, dense_later}

-- the ticks of kept worlds have no gap
pub ticks_dense : (s : Snapshots) → IsSnapshots s → ticks_of s ≡ dense_ticks s.horizon s.settled (length s.recent) s.ring
unfolding ticks_of
ticks_dense s is =
    let count : length s.keyframes ≡ s.settled / KEYFRAME_INTERVAL - s.horizon / KEYFRAME_INTERVAL = let all = is.keyframes in omega arith in
    ap (λ n. record {
      horizon = s.horizon;
      recent = range_with_len (s.settled + 1 - length s.recent) (length s.recent);
      keyframes = map (λ i. i * KEYFRAME_INTERVAL) (range_with_len (first_keyframe s.horizon) n);
      ring = s.ring;
    }) count

-- where no world is recent, the settled tick is the horizon or a keyframe's
pub settled_whole : (s : Snapshots) → IsSnapshots s → length s.recent ≡ 0
    → s.settled ≡ max s.horizon (s.settled / KEYFRAME_INTERVAL * KEYFRAME_INTERVAL)
settled_whole s is none = by s.latest refl
  where
    by : (o : Option World) → s.latest ≡ o → s.settled ≡ max s.horizon (s.settled / KEYFRAME_INTERVAL * KEYFRAME_INTERVAL)
    by None at = is.none_apart at
    by (Some world) at =
        let there = subst (λ o. IfSome o (IsRecent s s.settled)) at is.apart in
        absurd (let within = slice_get_within s.recent there.0 world there.2 in omega arith)

pub settled_is : (s : Snapshots) → IsSnapshots s → settled_tick (ticks_of s) ≡ s.settled
settled_is s is =
    ap settled_tick (ticks_dense s is) ∙ settled_dense s.horizon s.settled (length s.recent) s.ring is.within (settled_whole s is)

pub horizon_is : (s : Snapshots) → (ticks_of s).horizon ≡ s.horizon
unfolding ticks_of
horizon_is s = refl

-- no tick up to the horizon is kept but the horizon
pub horizon_sealed : (s : Snapshots) → IsSnapshots s → ticks_after_seal s.horizon (ticks_of s) ≡ ticks_of s
horizon_sealed s is =
    let n = length s.recent in
    let low = is.within in
    let last : max s.horizon s.settled ≡ s.settled = omega arith in
    let all : count_after_seal s.settled n s.horizon ≡ n = omega arith in
    let least : s.horizon ≤ s.horizon = omega arith in
    ap (ticks_after_seal s.horizon) (ticks_dense s is)
    ∙ dense_later s.horizon s.horizon s.settled n s.ring least is.within
    ∙ ap (λ t. dense_ticks s.horizon t (count_after_seal s.settled n s.horizon) s.ring) last
    ∙ ap (λ k. dense_ticks s.horizon s.settled k s.ring) all
    ∙ sym (ticks_dense s is)

pub horizon_low : (s : Snapshots) → s.horizon ≤ settled_tick (ticks_of s)
unfolding settled_tick ticks_of
horizon_low s = omega arith

-- snapshots by their parts
pub same_snapshots : (s : Snapshots) (horizon : ℕ) (base : World) (keyframes : List World) (latest : Option World) (recent : List World) (settled ring : ℕ)
    → s.horizon ≡ horizon → s.base ≡ base → s.keyframes ≡ keyframes → s.latest ≡ latest → s.recent ≡ recent → s.settled ≡ settled → s.ring ≡ ring
    → s ≡ record { horizon = horizon; base = base; keyframes = keyframes; latest = latest; recent = recent; settled = settled; ring = ring; room = s.room }
same_snapshots s horizon base keyframes latest recent settled ring a b d l e f g =
    ap (λ x. record { horizon = x; base = s.base; keyframes = s.keyframes; latest = s.latest; recent = s.recent; settled = s.settled; ring = s.ring; room = s.room }) a
    ∙ ap (λ x. record { horizon = horizon; base = x; keyframes = s.keyframes; latest = s.latest; recent = s.recent; settled = s.settled; ring = s.ring; room = s.room }) b
    ∙ ap (λ x. record { horizon = horizon; base = base; keyframes = x; latest = s.latest; recent = s.recent; settled = s.settled; ring = s.ring; room = s.room }) d
    ∙ ap (λ x. record { horizon = horizon; base = base; keyframes = keyframes; latest = x; recent = s.recent; settled = s.settled; ring = s.ring; room = s.room }) l
    ∙ ap (λ x. record { horizon = horizon; base = base; keyframes = keyframes; latest = latest; recent = x; settled = s.settled; ring = s.ring; room = s.room }) e
    ∙ ap (λ x. record { horizon = horizon; base = base; keyframes = keyframes; latest = latest; recent = recent; settled = x; ring = s.ring; room = s.room }) f
    ∙ ap (λ x. record { horizon = horizon; base = base; keyframes = keyframes; latest = latest; recent = recent; settled = settled; ring = x; room = s.room }) g

-- memory for a keyframe changes nothing else
pub reserved_is : (s : Snapshots) (room : ℕ) → IsSnapshots s → IsSnapshots (record s { room = room })
unfolding IsKept
reserved_is s room is = record {
  base = is.base;
  keyframes = is.keyframes;
  ring = is.ring;
  few = is.few;
  within = is.within;
  apart = is.apart;
  none_apart = is.none_apart;
  one = is.one;
  limit = is.limit;
}

-- ---- the settled tick

-- no world is kept at a later tick
pub kept_low : (s : Snapshots) (tick : ℕ) (w : World) → IsSnapshots s → IsKept s tick w → tick ≤ s.settled
unfolding IsKept
kept_low s tick w is (inl base) = let low = is.base in omega (arith, base.0)
kept_low s tick w is (inr (inl (number, at, found))) =
    let within = slice_get_within s.keyframes number w found in
    let all = is.keyframes in
    let low = is.base in
    omega arith
kept_low s tick w is (inr (inr (place, at, found))) =
    let within = slice_get_within s.recent place w found in omega arith

-- where its world does not stand apart, it is the last keyframe or that of the horizon
last_kept : (s : Snapshots) → s.horizon ≤ s.settled → length s.keyframes + s.horizon / KEYFRAME_INTERVAL ≡ s.settled / KEYFRAME_INTERVAL
    → s.settled ≡ max s.horizon (s.settled / KEYFRAME_INTERVAL * KEYFRAME_INTERVAL) → IsKept s s.settled (last_world s.base s.keyframes None)
unfolding IsKept
last_kept s low all whole = by (cases_lt 0 (length s.keyframes))
  where
    by : (0 < length s.keyframes) ⊎ (length s.keyframes ≤ 0) → IsKept s s.settled (last_world s.base s.keyframes None)
    by (inl some) =
        let last = slice_get-some s.keyframes (length s.keyframes - 1) (omega arith) in
        let at : s.settled ≡ (first_keyframe s.horizon + (length s.keyframes - 1)) * KEYFRAME_INTERVAL = omega (arith, all, whole, low) in
        let world : last.0 ≡ last_world s.base s.keyframes None = rw last.1 refl in
        inr (inl (length s.keyframes - 1, at, last.1 ∙ ap Some world))
    by (inr none) =
        let nothing = slice_get_past s.keyframes (length s.keyframes - 1) (omega arith) in
        inl (omega (arith, all, whole, low), rw nothing refl)

pub settled_kept : (s : Snapshots) → IsSnapshots s → IsKept s s.settled (settled_world s)
unfolding IsKept
settled_kept s is = by s.latest refl
  where
    by : (o : Option World) → s.latest ≡ o → IsKept s s.settled (last_world s.base s.keyframes o)
    by None at = last_kept s is.base is.keyframes (is.none_apart at)
    by (Some world) at = inr (inr (subst (λ o. IfSome o (IsRecent s s.settled)) at is.apart))

pub settled_tick_kept : (s : Snapshots) → IsSnapshots s → IsKept s (settled_tick (ticks_of s)) (settled_world s)
settled_tick_kept s is = subst (λ t. IsKept s t (settled_world s)) (sym (settled_is s is)) (settled_kept s is)

-- ---- a new list

-- the start world alone
abbrev pub start_alone : World → ℕ → ℕ → Snapshots
start_alone start ring room =
    record { horizon = 0; base = start; keyframes = []; latest = None; recent = []; settled = 0; ring = ring; room = room }

pub start_worlds : (start : World) (ring room tick : ℕ) (world : World) → IsKept (start_alone start ring room) tick world → (tick ≡ 0) × (world ≡ start)
unfolding IsKept
start_worlds start ring room tick world (inl base) = base
start_worlds start ring room tick world (inr (inl (number, at, is))) = absurd (let within = slice_get_within {A = World} [] number world is in omega arith)
start_worlds start ring room tick world (inr (inr (place, at, is))) = absurd (let within = slice_get_within {A = World} [] place world is in omega arith)

pub start_is : (start : World) (ring room : ℕ) → 0 < ring → IsSnapshots (start_alone start ring room)
start_is start ring room some = record {
  base = omega arith;
  keyframes = refl;
  ring = some;
  few = omega arith;
  within = omega arith;
  apart = tt;
  none_apart = λ none. refl;
  one = λ tick a b there other. (start_worlds start ring room tick a there).1 ∙ sym (start_worlds start ring room tick b other).1;
  limit = omega arith;
}

pub start_ticks : (start : World) (ring room : ℕ) → ticks_of (start_alone start ring room) ≡ no_ticks ring
unfolding ticks_of
start_ticks start ring room = refl

-- ---- one world more

-- snapshots with the world of the next tick, as a keyframe or apart
abbrev pub with_world : Snapshots → World → Bool → ℕ → Snapshots
with_world s world keyframe room = record {
  horizon = s.horizon;
  base = s.base;
  keyframes = if keyframe then s.keyframes ++ world ∷ [] else s.keyframes;
  latest = if keyframe then None else Some world;
  recent = keep_last s.ring (s.recent ++ world ∷ []);
  settled = s.settled + 1;
  ring = s.ring;
  room = room;
}

-- what keeping a world does to snapshots
pub record IsKeeping (s after : Snapshots) (world : World) : Type 0 where
  pub horizon : after.horizon ≡ s.horizon
  pub base : after.base ≡ s.base
  pub keyframes : after.keyframes ≡ (if (s.settled + 1) % KEYFRAME_INTERVAL == 0 then s.keyframes ++ world ∷ [] else s.keyframes)
  pub latest : after.latest ≡ (if (s.settled + 1) % KEYFRAME_INTERVAL == 0 then None else Some world)
  pub recent : after.recent ≡ keep_last s.ring (s.recent ++ world ∷ [])
  pub settled : after.settled ≡ s.settled + 1
  pub ring : after.ring ≡ s.ring

keeping_same : (s after : Snapshots) (world : World) → IsKeeping s after world → after ≡ with_world s world ((s.settled + 1) % KEYFRAME_INTERVAL == 0) after.room
keeping_same s after world is = same_snapshots after _ _ _ _ _ _ _ is.horizon is.base is.keyframes is.latest is.recent is.settled is.ring

-- the world stands where the settled one does
pub placed_world : (base world : World) (keyframes : List World) (keyframe : Bool)
    → last_world base (if keyframe then keyframes ++ world ∷ [] else keyframes) (if keyframe then None else Some world) ≡ world
placed_world base world keyframes true =
    let last = slice_get-last keyframes world (length (keyframes ++ world ∷ []) - 1) (omega (arith, length-append keyframes (world ∷ []))) in
    rw last refl
placed_world base world keyframes false = refl

length_pushed : {X : Type 0} (xs : List X) (x : X) (ring : ℕ) → length (keep_last ring (xs ++ x ∷ [])) ≡ min (suc (length xs)) ring
length_pushed xs x ring =
    let more = length-append xs (x ∷ []) in
    let left = length-drop (length (xs ++ x ∷ []) - ring) (xs ++ x ∷ []) in
    omega (arith, more, left)

-- an item after one is pushed stood there before, or is the pushed one
pushed : {X : Type 0} (xs : List X) (x y : X) (ring i : ℕ) → slice_get (keep_last ring (xs ++ x ∷ [])) i ≡ Some y
    → ((suc (length xs) - ring + i < length xs) × (slice_get xs (suc (length xs) - ring + i) ≡ Some y))
    ⊎ ((suc (length xs) - ring + i ≡ length xs) × (x ≡ y))
pushed xs x y ring i at =
    let d = suc (length xs) - ring in
    let more = length-append xs (x ∷ []) in
    let same : d + i ≡ length (xs ++ x ∷ []) - ring + i = omega (arith, more) in
    let there : slice_get (xs ++ x ∷ []) (d + i) ≡ Some y = sym (slice_get-drop (length (xs ++ x ∷ []) - ring) (xs ++ x ∷ []) i (d + i) same) ∙ at in
    let within = slice_get_within (xs ++ x ∷ []) (d + i) y there in
    ⊎_elim
    (λ (before : d + i < length xs). inl (before, sym (slice_get-append_left xs (x ∷ []) (d + i) before) ∙ there))
    (λ (after : length xs ≤ d + i).
    let last : d + i ≡ length xs = omega (arith, more) in
    let found = sym (slice_get-last xs x (d + i) last) ∙ there in
    inr (last, cc))
    (cases_lt (d + i) (length xs))

-- a recent world was recent before, or is the new one
recent_before : (s : Snapshots) (world : World) (tick : ℕ) (w : World) (place : ℕ) → IsSnapshots s
    → tick + length (keep_last s.ring (s.recent ++ world ∷ [])) ≡ s.settled + 1 + 1 + place
    → slice_get (keep_last s.ring (s.recent ++ world ∷ [])) place ≡ Some w
    → IsRecent s tick w ⊎ ((tick ≡ s.settled + 1) × (w ≡ world))
recent_before s world tick w place is same found =
    let count = length_pushed s.recent world s.ring in
    let few = is.few in
    ⊎_elim
    (λ old. inl (suc (length s.recent) - s.ring + place, omega (arith, old.0), old.1))
    (λ new. inr (omega (arith, new.0), sym new.1))
    (pushed s.recent world w s.ring place found)

-- a keyframe was one before, or is the new one
keyframe_before : (s : Snapshots) (world : World) (tick : ℕ) (w : World) (number : ℕ) → IsSnapshots s
    → (s.settled + 1) % KEYFRAME_INTERVAL ≡ 0 → tick ≡ (first_keyframe s.horizon + number) * KEYFRAME_INTERVAL
    → slice_get (s.keyframes ++ world ∷ []) number ≡ Some w
    → IsKeyframe s tick w ⊎ ((tick ≡ s.settled + 1) × (w ≡ world))
keyframe_before s world tick w number is multiple same found =
    let low = is.base in
    let all = is.keyframes in
    ⊎_elim
    (λ (before : number < length s.keyframes). inl (number, same, sym (slice_get-append_left s.keyframes (world ∷ []) number before) ∙ found))
    (λ (after : length s.keyframes ≤ number).
    let within = slice_get_within (s.keyframes ++ world ∷ []) number w found in
    let last : number ≡ length s.keyframes = omega (arith, length-append s.keyframes (world ∷ [])) in
    let e = sym (slice_get-last s.keyframes world number last) ∙ found in
    inr (omega arith, cc))
    (cases_lt number (length s.keyframes))

with_world_kept : (s : Snapshots) (world : World) (keyframe : Bool) (room : ℕ) → IsSnapshots s
    → ((s.settled + 1) % KEYFRAME_INTERVAL == 0) ≡ keyframe
    → (tick : ℕ) (w : World) → IsKept (with_world s world keyframe room) tick w
    → IsKept s tick w ⊎ ((tick ≡ s.settled + 1) × (w ≡ world))
unfolding IsKept
with_world_kept s world keyframe room is at tick w (inl base) = inl (inl base)
with_world_kept s world true room is at tick w (inr (inl (number, same, found))) =
    let multiple : (s.settled + 1) % KEYFRAME_INTERVAL ≡ 0 = grind (arith, nat_tests) in
    ⊎_elim (λ old. inl (inr (inl old))) inr (keyframe_before s world tick w number is multiple same found)
with_world_kept s world false room is at tick w (inr (inl keyframe)) = inl (inr (inl keyframe))
with_world_kept s world keyframe room is at tick w (inr (inr (place, same, found))) =
    ⊎_elim (λ old. inl (inr (inr old))) inr (recent_before s world tick w place is same found)

-- the new world is recent
with_world_recent : (s : Snapshots) (world : World) (keyframe : Bool) (room : ℕ) → IsSnapshots s
    → IsRecent (with_world s world keyframe room) (s.settled + 1) world
with_world_recent s world keyframe room is =
    let xs = s.recent ++ world ∷ [] in
    let more = length-append s.recent (world ∷ []) in
    let count = length_pushed s.recent world s.ring in
    let some = is.ring in
    let place = length (keep_last s.ring xs) - 1 in
    let last : length s.recent ≡ length xs - s.ring + place = omega arith in
    (place, omega arith, slice_get-drop (length xs - s.ring) xs place (length s.recent) last ∙ slice_get-last s.recent world (length s.recent) refl)

-- at each tick there is one world still
with_world_one : (s : Snapshots) (world : World) (keyframe : Bool) (room : ℕ) → IsSnapshots s
    → ((s.settled + 1) % KEYFRAME_INTERVAL == 0) ≡ keyframe
    → (tick : ℕ) (a b : World) → IsKept (with_world s world keyframe room) tick a → IsKept (with_world s world keyframe room) tick b → a ≡ b
with_world_one s world keyframe room is at tick a b there other =
    by (with_world_kept s world keyframe room is at tick a there) (with_world_kept s world keyframe room is at tick b other)
  where
    by : IsKept s tick a ⊎ ((tick ≡ s.settled + 1) × (a ≡ world)) → IsKept s tick b ⊎ ((tick ≡ s.settled + 1) × (b ≡ world)) → a ≡ b
    by (inl x) (inl y) = is.one tick a b x y
    by (inl x) (inr y) = absurd (let low = kept_low s tick a is x in omega (arith, y.0))
    by (inr x) (inl y) = absurd (let low = kept_low s tick b is y in omega (arith, x.0))
    by (inr x) (inr y) = x.1 ∙ sym y.1

pub with_world_is : (s : Snapshots) (world : World) (keyframe : Bool) (room : ℕ) → IsSnapshots s
    → ((s.settled + 1) % KEYFRAME_INTERVAL == 0) ≡ keyframe → s.settled < MAX_TICK → IsSnapshots (with_world s world keyframe room)
with_world_is s world true room is at below =
    let count = length_pushed s.recent world s.ring in
    let low = is.base in
    let all = is.keyframes in
    let some = is.ring in
    let few = is.few in
    let within = is.within in
    let multiple : (s.settled + 1) % KEYFRAME_INTERVAL ≡ 0 = grind (arith, nat_tests) in
    record {
      base = omega arith;
      keyframes = omega (arith, length-append s.keyframes (world ∷ []));
      ring = some;
      few = omega arith;
      within = omega arith;
      apart = tt;
      none_apart = λ none. omega arith;
      one = with_world_one s world true room is at;
      limit = omega arith;
    }
with_world_is s world false room is at below =
    let count = length_pushed s.recent world s.ring in
    let low = is.base in
    let all = is.keyframes in
    let some = is.ring in
    let few = is.few in
    let within = is.within in
    let part : 0 < (s.settled + 1) % KEYFRAME_INTERVAL = grind (arith, nat_tests) in
    record {
      base = omega arith;
      keyframes = omega arith;
      ring = some;
      few = omega arith;
      within = omega arith;
      apart = with_world_recent s world false room is;
      none_apart = λ none. absurd cc;
      one = with_world_one s world false room is at;
      limit = omega arith;
    }

pub with_world_ticks : (s : Snapshots) (world : World) (keyframe : Bool) (room : ℕ) → IsSnapshots s
    → ((s.settled + 1) % KEYFRAME_INTERVAL == 0) ≡ keyframe → s.settled < MAX_TICK
    → ticks_of (with_world s world keyframe room) ≡ ticks_after_settling (ticks_of s) (settled_tick (ticks_of s) + 1)
with_world_ticks s world keyframe room is at below =
    let next = with_world s world keyframe room in
    ticks_dense next (with_world_is s world keyframe room is at below)
    ∙ ap (λ n. dense_ticks s.horizon (s.settled + 1) n s.ring) (length_pushed s.recent world s.ring)
    ∙ sym (dense_more s.horizon s.settled (length s.recent) s.ring is.ring is.few is.within)
    ∙ ap (λ ticks. ticks_after_settling ticks (s.settled + 1)) (sym (ticks_dense s is))
    ∙ ap (λ t. ticks_after_settling (ticks_of s) (t + 1)) (sym (settled_is s is))

pub keeping_is : (s after : Snapshots) (world : World) → IsKeeping s after world → IsSnapshots s → s.settled < MAX_TICK → IsSnapshots after
keeping_is s after world keeping is below =
    subst IsSnapshots (sym (keeping_same s after world keeping)) (with_world_is s world _ after.room is refl below)

pub keeping_ticks : (s after : Snapshots) (world : World) → IsKeeping s after world → IsSnapshots s → s.settled < MAX_TICK
    → ticks_of after ≡ ticks_after_settling (ticks_of s) (settled_tick (ticks_of s) + 1)
keeping_ticks s after world keeping is below =
    ap ticks_of (keeping_same s after world keeping) ∙ with_world_ticks s world _ after.room is refl below

pub keeping_settled : (s after : Snapshots) (world : World) → IsKeeping s after world → IsSnapshots s → s.settled < MAX_TICK
    → settled_tick (ticks_of after) ≡ settled_tick (ticks_of s) + 1
keeping_settled s after world keeping is below =
    settled_is after (keeping_is s after world keeping is below) ∙ keeping.settled ∙ ap (λ t. t + 1) (sym (settled_is s is))

pub keeping_kept : (s after : Snapshots) (world next : World) → IsKeeping s after world → IsSnapshots s → world ≡ next
    → (tick : ℕ) (w : World) → IsKept after tick w → IsKept s tick w ⊎ ((tick ≡ settled_tick (ticks_of s) + 1) × (w ≡ next))
keeping_kept s after world next keeping is same tick w kept =
    let settled = settled_is s is in
    ⊎_elim inl (λ new. inr (omega (arith, settled, new.0), new.1 ∙ same))
    (with_world_kept s world _ after.room is refl tick w (subst (λ x. IsKept x tick w) (keeping_same s after world keeping) kept))

-- the recent worlds, by what a step changed
pub keeping_recent : (ring : ℕ) (cs ds : List Changes) (c : Changes) (base w next : World) (keyframes others : List World) (latest apart : Option World) (keyframe : Bool)
    → ds ≡ keep_last ring (cs ++ c ∷ []) → world_before c next ≡ w → w ≡ last_world base keyframes latest
    → others ≡ (if keyframe then keyframes ++ next ∷ [] else keyframes) → apart ≡ (if keyframe then None else Some next)
    → worlds_after ds (last_world base others apart) ≡ keep_last ring (worlds_after cs (last_world base keyframes latest) ++ next ∷ [])
keeping_recent ring cs ds c base w next keyframes others latest apart keyframe more before value places place =
    ap (λ x. worlds_after x (last_world base others apart)) more
    ∙ ap (λ ks. worlds_after (keep_last ring (cs ++ c ∷ [])) (last_world base ks apart)) places
    ∙ ap (λ o. worlds_after (keep_last ring (cs ++ c ∷ [])) (last_world base (if keyframe then keyframes ++ next ∷ [] else keyframes) o)) place
    ∙ ap (worlds_after (keep_last ring (cs ++ c ∷ []))) (placed_world base next keyframes keyframe)
    ∙ worlds_kept ring cs c w next before
    ∙ ap (λ v. keep_last ring (worlds_after cs v ++ next ∷ [])) value

-- ---- worlds dropped

-- a recent world is that of the settled tick without what later ticks changed
pub recent_undone : (s : Snapshots) (cs : List Changes) (tick later : ℕ) → s.recent ≡ worlds_after cs (settled_world s)
    → tick + later ≡ s.settled → later < length cs → IsRecent s tick (world_before_all (drop (length cs - later) cs) (settled_world s))
recent_undone s cs tick later is at within =
    let count = ap length is ∙ length_worlds cs (settled_world s) in
    let next : suc (length cs - later - 1) ≡ length cs - later = omega arith in (
      length cs - later - 1,
      omega arith,
      ap (λ ws. slice_get ws (length cs - later - 1)) is
          ∙ world_at_place cs (settled_world s) (length cs - later - 1) (omega arith)
          ∙ ap (λ n. Some (world_before_all (drop n cs) (settled_world s))) next,
    )

-- how many keyframes are left after news of a tick
abbrev keyframes_left : Snapshots → ℕ → ℕ
keyframes_left s tick = min tick s.settled / KEYFRAME_INTERVAL - s.horizon / KEYFRAME_INTERVAL

-- snapshots without the worlds after a tick, with the world of the settled tick that stands apart
abbrev pub dropped_after : Snapshots → ℕ → Option World → ℕ → Snapshots
dropped_after s tick latest room = record {
  horizon = s.horizon;
  base = s.base;
  keyframes = take (min tick s.settled / KEYFRAME_INTERVAL - s.horizon / KEYFRAME_INTERVAL) s.keyframes;
  latest = latest;
  recent = take (count_after_news s.settled (length s.recent) tick) s.recent;
  settled = tick_after_news s.horizon s.settled (length s.recent) tick;
  ring = s.ring;
  room = room;
}

length_recent : (s : Snapshots) (tick : ℕ) → length (take (count_after_news s.settled (length s.recent) tick) s.recent) ≡ count_after_news s.settled (length s.recent) tick
length_recent s tick = length-take (count_after_news s.settled (length s.recent) tick) s.recent ∙ (omega arith)

-- where there are recent worlds left, the last one is that of the tick
pub some_left : (horizon settled n tick : ℕ) → 0 < count_after_news settled n tick → tick_after_news horizon settled n tick ≡ min tick settled
some_left horizon settled n tick some = let test : (count_after_news settled n tick == 0) ≡ false = grind (arith, nat_tests) in rw test refl

-- where there are none, it is the last keyframe's, or the horizon's
pub none_left : (horizon settled n tick last : ℕ) → count_after_news settled n tick ≡ 0 → last ≡ min tick settled
    → max horizon (last / KEYFRAME_INTERVAL * KEYFRAME_INTERVAL) ≡ tick_after_news horizon settled n tick
none_left horizon settled n tick last none is =
    let test : (count_after_news settled n tick == 0) ≡ true = grind (arith, nat_tests) in
    ap (λ t. max horizon (t / KEYFRAME_INTERVAL * KEYFRAME_INTERVAL)) is
    ∙ ap (λ b. if b then max horizon (min tick settled / KEYFRAME_INTERVAL * KEYFRAME_INTERVAL) else min tick settled) (sym test)

same_multiple : (horizon settled n tick : ℕ) → horizon ≤ tick → horizon ≤ settled
    → tick_after_news horizon settled n tick / KEYFRAME_INTERVAL ≡ min tick settled / KEYFRAME_INTERVAL
same_multiple horizon settled n tick after base = by (count_after_news settled n tick == 0)
  where
    by : (b : Bool) → (if b then max horizon (min tick settled / KEYFRAME_INTERVAL * KEYFRAME_INTERVAL) else min tick settled) / KEYFRAME_INTERVAL
        ≡ min tick settled / KEYFRAME_INTERVAL
    by true = omega arith
    by false = refl

dropped_after_kept : (s : Snapshots) (tick : ℕ) (latest : Option World) (room : ℕ) → s.horizon ≤ tick → IsSnapshots s
    → (t : ℕ) (w : World) → IsKept (dropped_after s tick latest room) t w → IsKept s t w × (t ≤ tick)
unfolding IsKept
dropped_after_kept s tick latest room later is t w (inl base) = (inl base, omega (arith, base.0))
dropped_after_kept s tick latest room later is t w (inr (inl (number, at, found))) =
    let count = keyframes_left s tick in
    let within = slice_get_within (take count s.keyframes) number w found in
    let left : number < count = omega (arith, length-take count s.keyframes) in
    (inr (inl (number, at, sym (slice_get-take count s.keyframes number left) ∙ found)), omega arith)
dropped_after_kept s tick latest room later is t w (inr (inr (place, at, found))) =
    let n = length s.recent in
    let count = count_after_news s.settled n tick in
    let within = slice_get_within (take count s.recent) place w found in
    let long = length_recent s tick in
    let left : place < count = omega (arith, long) in
    let last = some_left s.horizon s.settled n tick (omega arith) in
    (inr (inr (place, omega (arith, long, last, at), sym (slice_get-take count s.recent place left) ∙ found)), omega (arith, long, last, at))

dropped_after_is : (s : Snapshots) (tick : ℕ) (latest : Option World) (room : ℕ) → s.horizon ≤ tick → IsSnapshots s
    → IfSome latest (IsRecent (dropped_after s tick latest room) (tick_after_news s.horizon s.settled (length s.recent) tick))
    → (latest ≡ None → tick_after_news s.horizon s.settled (length s.recent) tick
    ≡ max s.horizon (tick_after_news s.horizon s.settled (length s.recent) tick / KEYFRAME_INTERVAL * KEYFRAME_INTERVAL))
    → IsSnapshots (dropped_after s tick latest room)
dropped_after_is s tick latest room later is apart none =
    let n = length s.recent in
    let after = is_after_news s.horizon s.settled n tick later is.within in
    let count = length_recent s tick in
    let low = is.base in
    let all = is.keyframes in
    let few = is.few in
    let limit = is.limit in
    let same = same_multiple s.horizon s.settled n tick later is.base in
    record {
      base = let left = after.few in omega arith;
      keyframes = omega (arith, length-take (keyframes_left s tick) s.keyframes);
      ring = is.ring;
      few = omega arith;
      within = rw count after.few;
      apart = apart;
      none_apart = none;
      one = λ t a b there other. is.one t a b (dropped_after_kept s tick latest room later is t a there).0 (dropped_after_kept s tick latest room later is t b other).0;
      limit = let lower = after.lower in omega arith;
    }

-- what dropping worlds does to snapshots
pub record IsDropping (s after : Snapshots) (tick : ℕ) : Type 0 where
  pub horizon : after.horizon ≡ s.horizon
  pub base : after.base ≡ s.base
  pub keyframes : after.keyframes ≡ take (min tick s.settled / KEYFRAME_INTERVAL - s.horizon / KEYFRAME_INTERVAL) s.keyframes
  pub recent : after.recent ≡ take (count_after_news s.settled (length s.recent) tick) s.recent
  pub settled : after.settled ≡ tick_after_news s.horizon s.settled (length s.recent) tick
  pub ring : after.ring ≡ s.ring
  pub apart : IfSome after.latest (IsRecent after after.settled)
  pub none_apart : after.latest ≡ None → after.settled ≡ max after.horizon (after.settled / KEYFRAME_INTERVAL * KEYFRAME_INTERVAL)

dropping_same : (s after : Snapshots) (tick : ℕ) → IsDropping s after tick → after ≡ dropped_after s tick after.latest after.room
dropping_same s after tick is = same_snapshots after _ _ _ _ _ _ _ is.horizon is.base is.keyframes refl is.recent is.settled is.ring

dropped_is : (s after : Snapshots) (tick : ℕ) → IsDropping s after tick → s.horizon ≤ tick → IsSnapshots s
    → IsSnapshots (dropped_after s tick after.latest after.room)
dropped_is s after tick dropping later is =
    let same = dropping_same s after tick dropping in
    let apart = subst (λ x. IfSome x.latest (IsRecent x x.settled)) same dropping.apart in
    let none = subst (λ x. x.latest ≡ None → x.settled ≡ max x.horizon (x.settled / KEYFRAME_INTERVAL * KEYFRAME_INTERVAL)) same dropping.none_apart in
    dropped_after_is s tick after.latest after.room later is apart none

pub dropping_is : (s after : Snapshots) (tick : ℕ) → IsDropping s after tick → s.horizon ≤ tick → IsSnapshots s → IsSnapshots after
dropping_is s after tick dropping later is =
    subst IsSnapshots (sym (dropping_same s after tick dropping)) (dropped_is s after tick dropping later is)

pub dropping_ticks : (s after : Snapshots) (tick : ℕ) → IsDropping s after tick → s.horizon ≤ tick → IsSnapshots s
    → ticks_of after ≡ ticks_up_to tick (ticks_of s)
dropping_ticks s after tick dropping later is =
    ap ticks_of (dropping_same s after tick dropping)
    ∙ ticks_dense (dropped_after s tick after.latest after.room) (dropped_is s after tick dropping later is)
    ∙ ap (λ n. dense_ticks s.horizon (tick_after_news s.horizon s.settled (length s.recent) tick) n s.ring) (length_recent s tick)
    ∙ sym (dense_up_to tick s.horizon s.settled (length s.recent) s.ring later is.within)
    ∙ ap (ticks_up_to tick) (sym (ticks_dense s is))

pub dropping_kept : (s after : Snapshots) (tick : ℕ) → IsDropping s after tick → s.horizon ≤ tick → IsSnapshots s
    → (t : ℕ) (w : World) → IsKept after t w → IsKept s t w × (t ≤ tick)
dropping_kept s after tick dropping later is t w kept =
    dropped_after_kept s tick after.latest after.room later is t w (subst (λ x. IsKept x t w) (dropping_same s after tick dropping) kept)

pub dropping_lower : (s after : Snapshots) (tick : ℕ) → IsDropping s after tick → s.horizon ≤ tick → IsSnapshots s
    → settled_tick (ticks_of after) ≤ settled_tick (ticks_of s)
dropping_lower s after tick dropping later is =
    let lower = (is_after_news s.horizon s.settled (length s.recent) tick later is.within).lower in
    omega (arith, settled_is s is, settled_is after (dropping_is s after tick dropping later is), dropping.settled)

-- the settled tick falls by less than a keyframe's interval below the dropped tick
pub dropping_near : (s after : Snapshots) (tick : ℕ) → IsDropping s after tick → s.horizon ≤ tick → IsSnapshots s
    → tick ≤ settled_tick (ticks_of s) → tick < settled_tick (ticks_of after) + KEYFRAME_INTERVAL
dropping_near s after tick dropping later is late =
    let near = (is_after_news s.horizon s.settled (length s.recent) tick later is.within).near in
    omega (arith, settled_is s is, settled_is after (dropping_is s after tick dropping later is), dropping.settled)

-- from the settled tick on nothing is dropped
pub dropping_nothing : (s : Snapshots) (tick : ℕ) → s.settled ≤ tick → IsSnapshots s → IsDropping s s tick
dropping_nothing s tick above is =
    let low = is.base in
    let all = is.keyframes in
    record {
      horizon = refl;
      base = refl;
      keyframes = sym (take_all (keyframes_left s tick) s.keyframes (omega arith));
      recent = sym (take_all (count_after_news s.settled (length s.recent) tick) s.recent (omega arith));
      settled = by (count_after_news s.settled (length s.recent) tick == 0) refl;
      ring = refl;
      apart = is.apart;
      none_apart = is.none_apart;
    }
  where
    by : (b : Bool) → (count_after_news s.settled (length s.recent) tick == 0) ≡ b
        → s.settled ≡ (if b then max s.horizon (min tick s.settled / KEYFRAME_INTERVAL * KEYFRAME_INTERVAL) else min tick s.settled)
    by true none =
        let nothing : count_after_news s.settled (length s.recent) tick ≡ 0 = grind (arith, nat_tests) in
        let whole = settled_whole s is (omega arith) in
        let last : min tick s.settled ≡ s.settled = omega arith in
        whole ∙ ap (λ t. max s.horizon (t / KEYFRAME_INTERVAL * KEYFRAME_INTERVAL)) (sym last)
    by false some = omega arith

-- the world that is taken is that of the settled tick
pub taken_is : (base world : World) (keyframes : List World) (latest : Option World) → taken_world keyframes latest ≡ Some world
    → last_world base keyframes latest ≡ world
taken_is base world keyframes (Some w) is = cc
taken_is base world keyframes None is = rw is refl

-- there is one before the settled tick
pub taken_some : (s : Snapshots) (tick : ℕ) → IsSnapshots s → s.horizon ≤ tick → tick < s.settled → taken_world s.keyframes s.latest ≡ None → ⊥
taken_some s tick is later below none = by s.latest refl
  where
    by : (o : Option World) → s.latest ≡ o → ⊥
    by None at =
        let whole = is.none_apart at in
        let all = is.keyframes in
        let last = slice_get-some s.keyframes (length s.keyframes - 1) (omega arith) in
        let nothing : taken_world s.keyframes None ≡ None = ap (taken_world s.keyframes) (sym at) ∙ none in
        cc
    by (Some world) at =
        let something : taken_world s.keyframes (Some world) ≡ None = ap (taken_world s.keyframes) (sym at) ∙ none in
        absurd cc

-- and it is none of the keyframes that are left
pub left_keyframes : (s : Snapshots) (tick : ℕ) → IsSnapshots s → s.horizon ≤ tick → tick < s.settled
    → take (tick / KEYFRAME_INTERVAL - s.horizon / KEYFRAME_INTERVAL) (other_keyframes s.keyframes s.latest)
    ≡ take (min tick s.settled / KEYFRAME_INTERVAL - s.horizon / KEYFRAME_INTERVAL) s.keyframes
left_keyframes s tick is later below =
    let last : tick ≡ min tick s.settled = omega arith in
    by s.latest refl ∙ ap (λ t. take (t / KEYFRAME_INTERVAL - s.horizon / KEYFRAME_INTERVAL) s.keyframes) last
  where
    by : (o : Option World) → s.latest ≡ o
        → take (tick / KEYFRAME_INTERVAL - s.horizon / KEYFRAME_INTERVAL) (other_keyframes s.keyframes o)
        ≡ take (tick / KEYFRAME_INTERVAL - s.horizon / KEYFRAME_INTERVAL) s.keyframes
    by (Some world) at = refl
    by None at =
        let whole = is.none_apart at in
        let all = is.keyframes in
        take_twice (tick / KEYFRAME_INTERVAL - s.horizon / KEYFRAME_INTERVAL) (length s.keyframes - 1) s.keyframes (omega arith)

-- a recent world before the settled tick is the one of its tick also where that is a keyframe's
pub dropped_world : (s : Snapshots) (tick : ℕ) (w : World) → IsSnapshots s → s.horizon ≤ tick → IsRecent s tick w
    → last_world s.base (take (min tick s.settled / KEYFRAME_INTERVAL - s.horizon / KEYFRAME_INTERVAL) s.keyframes)
    (if tick % KEYFRAME_INTERVAL == 0 then None else Some w) ≡ w
unfolding IsKept
dropped_world s tick w is later there = by (tick % KEYFRAME_INTERVAL == 0) refl
  where
    by : (b : Bool) → (tick % KEYFRAME_INTERVAL == 0) ≡ b
        → last_world s.base (take (min tick s.settled / KEYFRAME_INTERVAL - s.horizon / KEYFRAME_INTERVAL) s.keyframes) (if b then None else Some w) ≡ w
    by true at =
        let multiple : tick % KEYFRAME_INTERVAL ≡ 0 = grind (arith, nat_tests) in
        let within = slice_get_within s.recent there.0 w there.2 in
        let place = there.1 in
        let low = is.base in
        let all = is.keyframes in
        let known = is.within in
        let next = dropped_after s tick None 0 in
        let few = length-take (keyframes_left s tick) s.keyframes in
        let left = some_left s.horizon s.settled (length s.recent) tick (omega arith) in
        let same : tick_after_news s.horizon s.settled (length s.recent) tick ≡ tick = omega arith in
        let last = last_kept next (omega arith) (omega arith) (omega arith) in
        is.one tick _ w (subst (λ t. IsKept s t (last_world next.base next.keyframes None)) same (dropped_after_kept s tick None 0 later is _ _ last).0) (inr (inr there))
    by false at = refl

-- it stays recent
pub dropped_apart : (after : Snapshots) (tick : ℕ) (w : World) → after.settled ≡ tick → IsRecent after tick w
    → after.latest ≡ (if tick % KEYFRAME_INTERVAL == 0 then None else Some w) → IfSome after.latest (IsRecent after after.settled)
dropped_apart after tick w at there latest =
    subst (λ o. IfSome o (IsRecent after after.settled)) (sym latest) (by (tick % KEYFRAME_INTERVAL == 0))
  where
    by : (b : Bool) → IfSome (if b then None else Some w) (IsRecent after after.settled)
    by true = tt
    by false = subst (λ t. IsRecent after t w) (sym at) there

-- and stands apart unless it is a keyframe's
pub dropped_none : (horizon tick : ℕ) (w : World) (latest : Option World) → latest ≡ (if tick % KEYFRAME_INTERVAL == 0 then None else Some w)
    → horizon ≤ tick → latest ≡ None → tick ≡ max horizon (tick / KEYFRAME_INTERVAL * KEYFRAME_INTERVAL)
dropped_none horizon tick w latest is later none = by (tick % KEYFRAME_INTERVAL == 0) refl (sym is ∙ none)
  where
    by : (b : Bool) → (tick % KEYFRAME_INTERVAL == 0) ≡ b → ◌≡◌ {A = Option World} (if b then None else Some w) None
        → tick ≡ max horizon (tick / KEYFRAME_INTERVAL * KEYFRAME_INTERVAL)
    by true at nothing =
        let multiple : tick % KEYFRAME_INTERVAL ≡ 0 = grind (arith, nat_tests) in omega arith
    by false at nothing = absurd cc

-- snapshots with these keyframes, this world apart, and these recent changes up to a tick
abbrev pub with_places : Snapshots → List World → Option World → List Changes → ℕ → ℕ → ℕ → Snapshots
with_places s keyframes latest changes settled ring room = record {
  horizon = s.horizon;
  base = s.base;
  keyframes = keyframes;
  latest = latest;
  recent = worlds_after changes (last_world s.base keyframes latest);
  settled = settled;
  ring = ring;
  room = room;
}

-- the world of an earlier recent tick is put back in the place of the settled one
pub dropping_back : (s : Snapshots) (tick : ℕ) (cs left : List Changes) (taken world : World) (keyframes : List World) (latest : Option World) (ring room : ℕ)
    → IsSnapshots s → s.horizon ≤ tick → tick < s.settled → s.settled - tick < length cs → s.recent ≡ worlds_after cs (settled_world s)
    → taken_world s.keyframes s.latest ≡ Some taken
    → keyframes ≡ take (tick / KEYFRAME_INTERVAL - s.horizon / KEYFRAME_INTERVAL) (other_keyframes s.keyframes s.latest)
    → world ≡ world_before_all (drop (length cs - (s.settled - tick)) cs) taken → left ≡ take (length cs - (s.settled - tick)) cs
    → latest ≡ (if tick % KEYFRAME_INTERVAL == 0 then None else Some world) → ring ≡ s.ring
    → IsDropping s (with_places s keyframes latest left tick ring room) tick
dropping_back s tick cs left taken world keyframes latest ring room is later below near recent took kept undid rest place same =
    let later_ticks = s.settled - tick in
    let k = length cs - later_ticks in
    let count = ap length recent ∙ length_worlds cs (settled_world s) in
    let many : count_after_news s.settled (length s.recent) tick ≡ k = omega arith in
    let known = is.within in
    let was : world ≡ world_before_all (drop k cs) (settled_world s) = undid ∙ ap (world_before_all (drop k cs)) (sym (taken_is s.base taken s.keyframes s.latest took)) in
    let at : tick + later_ticks ≡ s.settled = omega arith in
    let there = subst (IsRecent s tick) (sym was) (recent_undone s cs tick later_ticks recent at near) in
    let keyframes_are = kept ∙ left_keyframes s tick is later below in
    let last : last_world s.base keyframes latest ≡ world =
    ap (λ ks. last_world s.base ks latest) keyframes_are
    ∙ ap (last_world s.base (take (min tick s.settled / KEYFRAME_INTERVAL - s.horizon / KEYFRAME_INTERVAL) s.keyframes)) place
    ∙ dropped_world s tick world is later there in
    let worlds : worlds_after left (last_world s.base keyframes latest) ≡ take (count_after_news s.settled (length s.recent) tick) s.recent =
    ap (λ ds. worlds_after ds (last_world s.base keyframes latest)) rest ∙ ap (worlds_after (take k cs)) (last ∙ was)
    ∙ worlds_earlier k cs (settled_world s) ∙ ap (take k) (sym recent) ∙ ap (λ n. take n s.recent) (sym many) in
    let long = ap length worlds ∙ length_recent s tick in
    let before = there.1 in
    let found =
    ap (λ ws. slice_get ws there.0) worlds ∙ slice_get-take (count_after_news s.settled (length s.recent) tick) s.recent there.0 (omega arith) ∙ there.2 in
    let settled = some_left s.horizon s.settled (length s.recent) tick (omega arith) in
    record {
      horizon = refl;
      base = refl;
      keyframes = keyframes_are;
      recent = worlds;
      settled = omega arith;
      ring = same;
      apart = dropped_apart (with_places s keyframes latest left tick ring room) tick world refl (there.0, omega arith, found) place;
      none_apart = dropped_none s.horizon tick world latest place later;
    }

-- where no world of the tick is recent, none stays, and none stands apart
pub dropping_far : (s : Snapshots) (tick settled : ℕ) (world : World) (left : List Changes) (keyframes : List World) (latest : Option World) (ring room : ℕ)
    → IsSnapshots s → s.horizon ≤ tick → tick < s.settled → length s.recent ≤ s.settled - tick
    → keyframes ≡ take (tick / KEYFRAME_INTERVAL - s.horizon / KEYFRAME_INTERVAL) (other_keyframes s.keyframes s.latest)
    → left ≡ [] → latest ≡ None → settled ≡ max s.horizon (tick / KEYFRAME_INTERVAL * KEYFRAME_INTERVAL) → ring ≡ s.ring
    → IsDropping s (with_places s keyframes latest left settled ring room) tick
unfolding worlds_after
dropping_far s tick settled world left keyframes latest ring room is later below far kept none nothing at same =
    let some : count_after_news s.settled (length s.recent) tick ≡ 0 = omega arith in
    let least : tick ≡ min tick s.settled = omega arith in
    let now = at ∙ none_left s.horizon s.settled (length s.recent) tick tick some least in
    let whole = (is_after_news s.horizon s.settled (length s.recent) tick later is.within).whole some in
    record {
      horizon = refl;
      base = refl;
      keyframes = kept ∙ left_keyframes s tick is later below;
      recent = ap (λ ds. worlds_after ds (last_world s.base keyframes latest)) none ∙ ap (λ n. take n s.recent) (sym some);
      settled = now;
      ring = same;
      apart = subst (λ o. IfSome o (IsRecent (with_places s keyframes latest left settled ring room) settled)) (sym nothing) tt;
      none_apart = λ stands. now ∙ whole ∙ ap (λ t. max s.horizon (t / KEYFRAME_INTERVAL * KEYFRAME_INTERVAL)) (sym now);
    }

-- ---- kept worlds by their places

pub recent_kept : (s : Snapshots) (tick : ℕ) (world : World) → IsRecent s tick world → IsKept s tick world
unfolding IsKept
recent_kept s tick world is = inr (inr is)

-- the world of the horizon is kept there
pub base_kept : (s : Snapshots) → IsKept s s.horizon s.base
unfolding IsKept
base_kept s = inl (refl, refl)

-- the keyframe of a multiple of the interval is kept at its tick
pub keyframe_there : (s : Snapshots) (multiple number : ℕ) (world : World) → IsSnapshots s
    → multiple ≡ first_keyframe s.horizon + number → multiple ≤ s.settled / KEYFRAME_INTERVAL
    → world ≡ get_or s.keyframes number world → IsKept s (multiple * KEYFRAME_INTERVAL) world
unfolding IsKept
keyframe_there s multiple number world is same low found =
    let all = is.keyframes in
    inr (inl (number, ap (λ i. i * KEYFRAME_INTERVAL) same, slice_get_read s.keyframes (length s.keyframes) number world refl (omega arith) found))

-- ---- the nearest tick

-- the nearest kept tick by the ring, the keyframes and the horizon
nearest_is : (s : Snapshots) (tick : ℕ) → s.horizon ≤ tick → IsSnapshots s
    → nearest_tick (ticks_of s) tick ≡ tick_after_news s.horizon s.settled (length s.recent) tick
nearest_is s tick later is =
    ap (λ ticks. nearest_tick ticks tick) (ticks_dense s is) ∙ nearest_dense tick s.horizon s.settled (length s.recent) s.ring later is.within

-- at a tick of a recent world
pub nearest_recent : (s : Snapshots) (tick last : ℕ) → s.horizon ≤ tick → IsSnapshots s → last ≡ min tick s.settled → s.settled - last < length s.recent
    → last ≡ nearest_tick (ticks_of s) tick
nearest_recent s tick last later is least near =
    least ∙ sym (some_left s.horizon s.settled (length s.recent) tick (omega arith)) ∙ sym (nearest_is s tick later is)

-- where no recent world is of that tick
nearest_far : (s : Snapshots) (tick last : ℕ) → s.horizon ≤ tick → IsSnapshots s → last ≡ min tick s.settled → length s.recent ≤ s.settled - last
    → max s.horizon (last / KEYFRAME_INTERVAL * KEYFRAME_INTERVAL) ≡ nearest_tick (ticks_of s) tick
nearest_far s tick last later is least far =
    none_left s.horizon s.settled (length s.recent) tick last (omega arith) least ∙ sym (nearest_is s tick later is)

pub nearest_keyframe : (s : Snapshots) (tick last : ℕ) → s.horizon ≤ tick → IsSnapshots s → last ≡ min tick s.settled
    → length s.recent ≤ s.settled - last → s.horizon / KEYFRAME_INTERVAL < last / KEYFRAME_INTERVAL
    → last / KEYFRAME_INTERVAL * KEYFRAME_INTERVAL ≡ nearest_tick (ticks_of s) tick
nearest_keyframe s tick last later is least far above = omega (arith, nearest_far s tick last later is least far)

pub nearest_base : (s : Snapshots) (tick last : ℕ) → s.horizon ≤ tick → IsSnapshots s → last ≡ min tick s.settled
    → length s.recent ≤ s.settled - last → last / KEYFRAME_INTERVAL ≤ s.horizon / KEYFRAME_INTERVAL
    → s.horizon ≡ nearest_tick (ticks_of s) tick
nearest_base s tick last later is least far low = omega (arith, nearest_far s tick last later is least far)
