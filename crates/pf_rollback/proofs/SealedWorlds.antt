-- Snapshots: what is kept after a tick is sealed.
use Rattle.std.proofs.Common.{◌≡◌, ℕ, ◌+◌, ◌-◌, ◌*◌, ◌/◌, ◌<◌, ◌≤◌, ◌⊎◌, inl, inr, Bool, true, false, if◌then◌else◌, nat_le, List, length, drop, min, max, Option, Some, None, IfSome, slice_get, refl, ap, sym, ◌∙◌, subst, arith, length-drop}
use Rattle.std.proofs.lemmas.Bool.Decides.{nat_tests}
use Rattle.std.proofs.lemmas.List.{drop_all}
use Rattle.std.proofs.lemmas.Option.{slice_get_within}
use Rattle.circular_buffer.specs.Buffer.{keep_last}
use Rattle.circular_buffer.proofs.Places.{slice_get-drop, slice_get-some}
use Rattle.pf_commands.specs.declared.name.TheConstants.{MAX_TICK}
use Rattle.pf_step.specs.Changes.{Changes}
use Rattle.pf_step.specs.World.{World}
use Rattle.pf_rollback.specs.declared.snapshots.TheConstants.{KEYFRAME_INTERVAL}
use Rattle.pf_rollback.specs.Kept.{settled_tick, ticks_after_seal}
use Rattle.pf_rollback.specs.Snapshots.{Snapshots, ticks_of, first_keyframe, last_world, settled_world, worlds_after, IsKeyframe, IsKept, IsRecent, IsSnapshots}
use Rattle.pf_rollback.proofs.RecentWorlds.{worlds_last}
use Rattle.pf_rollback.proofs.KeptTicks.{dense_ticks, count_after_seal, dense_later, is_after_seal}
use Rattle.pf_rollback.proofs.KeptWorlds.{same_snapshots, settled_is, settled_whole, ticks_dense}

-- snapshots with a tick as their horizon, and without the worlds up to it
abbrev pub sealed_at : Snapshots → ℕ → World → Option World → ℕ → Snapshots
sealed_at s tick world latest room = record {
  horizon = tick;
  base = world;
  keyframes = drop (min tick s.settled / KEYFRAME_INTERVAL - s.horizon / KEYFRAME_INTERVAL) s.keyframes;
  latest = latest;
  recent = keep_last (s.settled - min tick s.settled) s.recent;
  settled = max s.settled tick;
  ring = s.ring;
  room = room;
}

length_kept : {X : Type 0} (xs : List X) (settled tick : ℕ) → length (keep_last (settled - min tick settled) xs) ≡ count_after_seal settled (length xs) tick
length_kept xs settled tick = omega (arith, length-drop (length xs - (settled - min tick settled)) xs)

-- what is recent after a seal was recent before it
recent_kept : (s : Snapshots) (tick place : ℕ) (world : World) → IsSnapshots s
    → slice_get (keep_last (s.settled - min tick s.settled) s.recent) place ≡ Some world
    → (old : ℕ) × (slice_get s.recent old ≡ Some world)
    × ((t : ℕ) → t + length (keep_last (s.settled - min tick s.settled) s.recent) ≡ max s.settled tick + 1 + place
    → (t + length s.recent ≡ s.settled + 1 + old) × (tick < t))
recent_kept s tick place world is found =
    let m = s.settled - min tick s.settled in
    let d = length s.recent - m in
    let long = length_kept s.recent s.settled tick in
    let within = slice_get_within (keep_last m s.recent) place world found in
    let low = is.within in
    (d + place, sym (slice_get-drop d s.recent place (d + place) refl) ∙ found, λ t at. (omega arith, omega arith))

-- a keyframe after a seal was one before it
keyframe_kept : (s : Snapshots) (tick t : ℕ) (w : World) (number : ℕ) → s.horizon ≤ tick → IsSnapshots s
    → t ≡ (first_keyframe tick + number) * KEYFRAME_INTERVAL
    → slice_get (drop (min tick s.settled / KEYFRAME_INTERVAL - s.horizon / KEYFRAME_INTERVAL) s.keyframes) number ≡ Some w
    → IsKeyframe s t w × (tick < t)
keyframe_kept s tick t w number later is at found =
    let d = min tick s.settled / KEYFRAME_INTERVAL - s.horizon / KEYFRAME_INTERVAL in
    let within = slice_get_within (drop d s.keyframes) number w found in
    let long = length-drop d s.keyframes in
    let all = is.keyframes in
    let low = is.base in
    let same : first_keyframe tick + number ≡ first_keyframe s.horizon + (d + number) = omega arith in (
      (d + number, at ∙ ap (λ i. i * KEYFRAME_INTERVAL) same, sym (slice_get-drop d s.keyframes number (d + number) refl) ∙ found),
      omega arith,
    )

sealed_kept : (s : Snapshots) (tick : ℕ) (world : World) (latest : Option World) (room : ℕ) → s.horizon ≤ tick → IsSnapshots s
    → (t : ℕ) (w : World) → IsKept (sealed_at s tick world latest room) t w → (IsKept s t w × (tick < t)) ⊎ ((t ≡ tick) × (w ≡ world))
unfolding IsKept
sealed_kept s tick world latest room later is t w (inl base) = inr base
sealed_kept s tick world latest room later is t w (inr (inl (number, at, found))) =
    let was = keyframe_kept s tick t w number later is at found in inl (inr (inl was.0), was.1)
sealed_kept s tick world latest room later is t w (inr (inr (place, at, found))) =
    let was = recent_kept s tick place w is found in
    let old = was.2 t at in
    inl (inr (inr (was.0, old.0, was.1)), old.1)

-- at each tick there is one world still
sealed_one : (s : Snapshots) (tick : ℕ) (world : World) (latest : Option World) (room : ℕ) → s.horizon ≤ tick → IsSnapshots s
    → (t : ℕ) (a b : World) → IsKept (sealed_at s tick world latest room) t a → IsKept (sealed_at s tick world latest room) t b → a ≡ b
sealed_one s tick world latest room later is t a b there other =
    by (sealed_kept s tick world latest room later is t a there) (sealed_kept s tick world latest room later is t b other)
  where
    by : (IsKept s t a × (tick < t)) ⊎ ((t ≡ tick) × (a ≡ world)) → (IsKept s t b × (tick < t)) ⊎ ((t ≡ tick) × (b ≡ world)) → a ≡ b
    by (inl x) (inl y) = is.one t a b x.0 y.0
    by (inl x) (inr y) = absurd (omega (arith, x.1, y.0))
    by (inr x) (inl y) = absurd (omega (arith, y.1, x.0))
    by (inr x) (inr y) = x.1 ∙ sym y.1

-- the world of the settled tick stays where it is, unless that is sealed
abbrev pub latest_after_seal : Snapshots → ℕ → Option World
latest_after_seal s tick = if nat_le s.settled tick then None else s.latest

sealed_apart : (s : Snapshots) (tick : ℕ) (world : World) (latest : Option World) (room : ℕ) → s.horizon ≤ tick → IsSnapshots s
    → latest ≡ latest_after_seal s tick → IfSome latest (IsRecent (sealed_at s tick world latest room) (max s.settled tick))
sealed_apart s tick world latest room later is same =
    subst (λ o. IfSome o (IsRecent (sealed_at s tick world latest room) (max s.settled tick))) (sym same) (by (nat_le s.settled tick) refl s.latest refl)
  where
    by : (b : Bool) → nat_le s.settled tick ≡ b → (o : Option World) → s.latest ≡ o
        → IfSome (if b then None else o) (IsRecent (sealed_at s tick world latest room) (max s.settled tick))
    by true all o at = tt
    by false some None at = tt
    by false some (Some w) at =
        let m = s.settled - min tick s.settled in
        let d = length s.recent - m in
        let below : tick < s.settled = grind (arith, nat_tests) in
        let was = subst (λ o. IfSome o (IsRecent s s.settled)) at is.apart in
        let within = slice_get_within s.recent was.0 w was.2 in
        let long = length_kept s.recent s.settled tick in
        let place = length (keep_last m s.recent) - 1 in
        let here = was.1 in
        let old : was.0 ≡ d + place = omega arith in
        (place, omega arith, slice_get-drop d s.recent place was.0 old ∙ was.2)

sealed_none : (s : Snapshots) (tick : ℕ) (latest : Option World) → s.horizon ≤ tick → IsSnapshots s
    → latest ≡ latest_after_seal s tick → latest ≡ None
    → max s.settled tick ≡ max tick (max s.settled tick / KEYFRAME_INTERVAL * KEYFRAME_INTERVAL)
sealed_none s tick latest later is same none = by (nat_le s.settled tick) refl (sym same ∙ none)
  where
    by : (b : Bool) → nat_le s.settled tick ≡ b → ◌≡◌ {A = Option World} (if b then None else s.latest) None
        → max s.settled tick ≡ max tick (max s.settled tick / KEYFRAME_INTERVAL * KEYFRAME_INTERVAL)
    by true all at = let above : s.settled ≤ tick = grind (arith, nat_tests) in omega arith
    by false some at =
        let below : tick < s.settled = grind (arith, nat_tests) in
        let whole = is.none_apart at in
        omega arith

-- the world of a later settled tick stays the last one
pub sealed_world : (s : Snapshots) (tick : ℕ) (world : World) → s.horizon ≤ tick → IsSnapshots s → tick < s.settled
    → last_world world (drop (min tick s.settled / KEYFRAME_INTERVAL - s.horizon / KEYFRAME_INTERVAL) s.keyframes) s.latest ≡ settled_world s
sealed_world s tick world later is below = by s.latest refl
  where
    by : (o : Option World) → s.latest ≡ o
        → last_world world (drop (min tick s.settled / KEYFRAME_INTERVAL - s.horizon / KEYFRAME_INTERVAL) s.keyframes) o ≡ last_world s.base s.keyframes o
    by (Some w) at = refl
    by None at =
        let d = min tick s.settled / KEYFRAME_INTERVAL - s.horizon / KEYFRAME_INTERVAL in
        let left = drop d s.keyframes in
        let whole = is.none_apart at in
        let all = is.keyframes in
        let long = length-drop d s.keyframes in
        let last = slice_get-some s.keyframes (length s.keyframes - 1) (omega arith) in
        let same : length s.keyframes - 1 ≡ d + (length left - 1) = omega arith in
        let found = slice_get-drop d s.keyframes (length left - 1) (length s.keyframes - 1) same ∙ last.1 in
        rw (found, last.1) refl

-- so the last of the recent worlds stay
pub sealed_recent : (s : Snapshots) (tick : ℕ) (world : World) (cs left : List Changes) (keyframes : List World) (latest : Option World)
    → s.horizon ≤ tick → IsSnapshots s → s.recent ≡ worlds_after cs (settled_world s)
    → left ≡ keep_last (s.settled - min tick s.settled) cs
    → keyframes ≡ drop (min tick s.settled / KEYFRAME_INTERVAL - s.horizon / KEYFRAME_INTERVAL) s.keyframes
    → latest ≡ latest_after_seal s tick
    → worlds_after left (last_world world keyframes latest) ≡ keep_last (s.settled - min tick s.settled) s.recent
unfolding worlds_after
sealed_recent s tick world cs left keyframes latest later is recent lasts others same =
    ap (λ ds. worlds_after ds (last_world world keyframes latest)) lasts
    ∙ ap (λ ks. worlds_after (keep_last (s.settled - min tick s.settled) cs) (last_world world ks latest)) others
    ∙ ap (λ o. worlds_after (keep_last (s.settled - min tick s.settled) cs) (last_world world (drop (min tick s.settled / KEYFRAME_INTERVAL - s.horizon / KEYFRAME_INTERVAL) s.keyframes) o)) same
    ∙ by (nat_le s.settled tick) refl
  where
    by : (b : Bool) → nat_le s.settled tick ≡ b
        → worlds_after (keep_last (s.settled - min tick s.settled) cs) (last_world world (drop (min tick s.settled / KEYFRAME_INTERVAL - s.horizon / KEYFRAME_INTERVAL) s.keyframes) (if b then None else s.latest)) ≡ keep_last (s.settled - min tick s.settled) s.recent
    by true at =
        let above : s.settled ≤ tick = grind (arith, nat_tests) in
        rw (drop_all (length cs - (s.settled - min tick s.settled)) cs (omega arith), drop_all (length s.recent - (s.settled - min tick s.settled)) s.recent (omega arith)) refl
    by false at =
        let below : tick < s.settled = grind (arith, nat_tests) in
        ap (worlds_after (keep_last (s.settled - min tick s.settled) cs)) (sealed_world s tick world later is below)
        ∙ worlds_last (s.settled - min tick s.settled) cs (settled_world s) ∙ ap (keep_last (s.settled - min tick s.settled)) (sym recent)

-- what sealing a tick does to snapshots
pub record IsSealing (s after : Snapshots) (tick : ℕ) (world : World) : Type 0 where
  pub horizon : after.horizon ≡ tick
  pub base : after.base ≡ world
  pub keyframes : after.keyframes ≡ drop (min tick s.settled / KEYFRAME_INTERVAL - s.horizon / KEYFRAME_INTERVAL) s.keyframes
  pub latest : after.latest ≡ latest_after_seal s tick
  pub recent : after.recent ≡ keep_last (s.settled - min tick s.settled) s.recent
  pub settled : after.settled ≡ max s.settled tick
  pub ring : after.ring ≡ s.ring

sealing_same : (s after : Snapshots) (tick : ℕ) (world : World) → IsSealing s after tick world → after ≡ sealed_at s tick world after.latest after.room
sealing_same s after tick world is = same_snapshots after _ _ _ _ _ _ _ is.horizon is.base is.keyframes refl is.recent is.settled is.ring

sealed_is : (s after : Snapshots) (tick : ℕ) (world : World) → IsSealing s after tick world → s.horizon ≤ tick → tick ≤ MAX_TICK
    → IsSnapshots s → IsSnapshots (sealed_at s tick world after.latest after.room)
sealed_is s after tick world sealing later limit is =
    let left = is_after_seal tick s.horizon s.settled (length s.recent) later is.within (settled_whole s is) in
    let long = length_kept s.recent s.settled tick in
    let low = is.base in
    let all = is.keyframes in
    let few = is.few in
    let bound = is.limit in
    record {
      base = omega arith;
      keyframes = omega (arith, length-drop (min tick s.settled / KEYFRAME_INTERVAL - s.horizon / KEYFRAME_INTERVAL) s.keyframes);
      ring = is.ring;
      few = omega arith;
      within = let some = left.few in omega arith;
      apart = sealed_apart s tick world after.latest after.room later is sealing.latest;
      none_apart = sealed_none s tick after.latest later is sealing.latest;
      one = sealed_one s tick world after.latest after.room later is;
      limit = omega arith;
    }

pub sealing_is : (s after : Snapshots) (tick : ℕ) (world : World) → IsSealing s after tick world → s.horizon ≤ tick → tick ≤ MAX_TICK
    → IsSnapshots s → IsSnapshots after
sealing_is s after tick world sealing later limit is =
    subst IsSnapshots (sym (sealing_same s after tick world sealing)) (sealed_is s after tick world sealing later limit is)

pub sealing_ticks : (s after : Snapshots) (tick : ℕ) (world : World) → IsSealing s after tick world → s.horizon ≤ tick → tick ≤ MAX_TICK
    → IsSnapshots s → ticks_of after ≡ ticks_after_seal tick (ticks_of s)
sealing_ticks s after tick world sealing later limit is =
    let turned : max s.settled tick ≡ max tick s.settled = omega arith in
    ap ticks_of (sealing_same s after tick world sealing)
    ∙ ticks_dense (sealed_at s tick world after.latest after.room) (sealed_is s after tick world sealing later limit is)
    ∙ ap (λ n. dense_ticks tick (max s.settled tick) n s.ring) (length_kept s.recent s.settled tick)
    ∙ ap (λ last. dense_ticks tick last (count_after_seal s.settled (length s.recent) tick) s.ring) turned
    ∙ sym (dense_later tick s.horizon s.settled (length s.recent) s.ring later is.within)
    ∙ ap (ticks_after_seal tick) (sym (ticks_dense s is))

pub sealing_settled : (s after : Snapshots) (tick : ℕ) (world : World) → IsSealing s after tick world → s.horizon ≤ tick → tick ≤ MAX_TICK
    → IsSnapshots s → settled_tick (ticks_of after) ≡ max tick (settled_tick (ticks_of s))
sealing_settled s after tick world sealing later limit is =
    omega (arith, settled_is after (sealing_is s after tick world sealing later limit is), sealing.settled, settled_is s is)

pub sealing_kept : (s after : Snapshots) (tick : ℕ) (world : World) → IsSealing s after tick world → s.horizon ≤ tick → IsSnapshots s
    → (t : ℕ) (w : World) → IsKept after t w → (IsKept s t w × (tick < t)) ⊎ ((t ≡ tick) × (w ≡ world))
sealing_kept s after tick world sealing later is t w kept =
    sealed_kept s tick world after.latest after.room later is t w (subst (λ x. IsKept x t w) (sealing_same s after tick world sealing) kept)
