-- Kept ticks of which no two recent ones have a gap between them, and which have all keyframes from
-- the horizon to the settled tick: what news, settling and sealing make of them.
use Rattle.std.proofs.Common.{◌≡◌, ℕ, zero, suc, ◌+◌, ◌-◌, ◌*◌, ◌/◌, ◌%◌, ◌<◌, ◌≤◌, ◌⊎◌, inl, inr, Bool, true, false, if◌then◌else◌, List, [], ◌∷◌, ◌++◌, map, filter, drop, min, max, nat_le, nat_lt, ◌==◌, slice_index, refl, ap, sym, ◌∙◌, ⊎_elim, arith}
use Rattle.std.specs.List.{range_with_len}
use Rattle.std.proofs.lemmas.Bool.{cases_lt}
use Rattle.std.proofs.lemmas.Bool.Decides.{nat_tests}
use Rattle.std.proofs.lemmas.List.{map-id}
use Rattle.std.proofs.lemmas.List.FromFn.{length-range_with_len, get_or-range_with_len, length-map-range_with_len, get_or-map-range_with_len}
use Rattle.circular_buffer.specs.Buffer.{keep_last}
use Rattle.pf_rollback.specs.declared.snapshots.TheConstants.{KEYFRAME_INTERVAL}
use Rattle.pf_rollback.specs.Kept.{Ticks, last_tick, settled_tick, up_to, ticks_up_to, nearest_tick, ticks_after_settling, later_than, ticks_after_seal}

-- so many multiples of the interval, from this one on
abbrev multiples : ℕ → ℕ → List ℕ
multiples first count = map (λ i. i * KEYFRAME_INTERVAL) (range_with_len first count)

-- the keyframes after a horizon, up to a tick
abbrev keyframes_between : ℕ → ℕ → List ℕ
keyframes_between horizon last =
    multiples (horizon / KEYFRAME_INTERVAL + 1) (last / KEYFRAME_INTERVAL - horizon / KEYFRAME_INTERVAL)

-- so many recent ticks that end at the settled one, and each keyframe from the horizon up to it
abbrev pub dense_ticks : ℕ → ℕ → ℕ → ℕ → Ticks
dense_ticks horizon settled n ring = record {
  horizon = horizon;
  recent = range_with_len (settled + 1 - n) n;
  keyframes = map (λ i. i * KEYFRAME_INTERVAL)
      (range_with_len (horizon / KEYFRAME_INTERVAL + 1) (settled / KEYFRAME_INTERVAL - horizon / KEYFRAME_INTERVAL));
  ring = ring;
}

-- kept ticks by their two lists
same_lists : (horizon ring : ℕ) (recent other keyframes others : List ℕ) → recent ≡ other → keyframes ≡ others
    → ◌≡◌ {A = Ticks} (record { horizon = horizon; recent = recent; keyframes = keyframes; ring = ring })
    (record { horizon = horizon; recent = other; keyframes = others; ring = ring })
same_lists horizon ring recent other keyframes others a b =
    ap (λ ticks. record { horizon = horizon; recent = ticks; keyframes = keyframes; ring = ring }) a
    ∙ ap (λ ticks. record { horizon = horizon; recent = other; keyframes = ticks; ring = ring }) b

-- ---- lists of ticks

-- of some numbers the first ones pass a test
first_ones : (p : ℕ → Bool) (f : ℕ → ℕ) (a n k : ℕ) → k ≤ n
    → ((j : ℕ) → a ≤ j → j < a + k → p (f j) ≡ true) → ((j : ℕ) → a + k ≤ j → j < a + n → p (f j) ≡ false)
    → filter p (map f (range_with_len a n)) ≡ map f (range_with_len a k)
first_ones p f a zero zero le passing failing = refl
first_ones p f a zero (suc k) le passing failing = absurd (omega arith)
first_ones p f a (suc n) zero le passing failing =
    rw (failing a (omega arith) (omega arith))
    (first_ones p f (a + 1) n zero (omega arith) (λ j low high. absurd (omega arith)) (λ j low high. failing j (omega arith) (omega arith)))
first_ones p f a (suc n) (suc k) le passing failing =
    rw (passing a (omega arith) (omega arith))
    (ap (λ xs. f a ∷ xs)
    (first_ones p f (a + 1) n k (omega arith) (λ j low high. passing j (omega arith) (omega arith)) (λ j low high. failing j (omega arith) (omega arith))))

-- of some numbers the first ones fail a test, and the others pass it
later_ones : (p : ℕ → Bool) (f : ℕ → ℕ) (a n d : ℕ) → d ≤ n
    → ((j : ℕ) → a ≤ j → j < a + d → p (f j) ≡ false) → ((j : ℕ) → a + d ≤ j → j < a + n → p (f j) ≡ true)
    → filter p (map f (range_with_len a n)) ≡ map f (range_with_len (a + d) (n - d))
later_ones p f a zero zero le failing passing = refl
later_ones p f a zero (suc d) le failing passing = absurd (omega arith)
later_ones p f a (suc n) zero le failing passing =
    let rest : filter p (map f (range_with_len (a + 1) n)) ≡ map f (range_with_len (a + 1 + 0) (n - 0)) =
    later_ones p f (a + 1) n zero (omega arith) (λ j low high. absurd (omega arith)) (λ j low high. passing j (omega arith) (omega arith)) in
    let first : a + 1 + 0 ≡ a + 1 = omega arith in
    let count : n - 0 ≡ n = omega arith in
    let here : a + 0 ≡ a = omega arith in
    let all : suc n - 0 ≡ suc n = omega arith in
    rw (passing a (omega arith) (omega arith), here, all)
    (ap (λ xs. f a ∷ xs) (rest ∙ ap (λ b. map f (range_with_len b (n - 0))) first ∙ ap (λ c. map f (range_with_len (a + 1) c)) count))
later_ones p f a (suc n) (suc d) le failing passing =
    let first : a + 1 + d ≡ a + suc d = omega arith in
    let count : n - d ≡ suc n - suc d = omega arith in
    rw (failing a (omega arith) (omega arith))
    (later_ones p f (a + 1) n d (omega arith) (λ j low high. failing j (omega arith) (omega arith)) (λ j low high. passing j (omega arith) (omega arith))
    ∙ ap (λ b. map f (range_with_len b (n - d))) first ∙ ap (λ c. map f (range_with_len (a + suc d) c)) count)

-- the recent ticks up to a tick
recent_up_to : (t settled n : ℕ) → n ≤ settled
    → up_to t (range_with_len (settled + 1 - n) n) ≡ range_with_len (settled + 1 - n) (n - (settled - min t settled))
recent_up_to t settled n few =
    let a = settled + 1 - n in
    let k = n - (settled - min t settled) in
    let p : ℕ → Bool = λ u. nat_le u t in
    ap (filter p) (sym (map-id (range_with_len a n)))
    ∙ first_ones p (λ u. u) a n k (omega arith) (λ j low high. grind (arith, nat_tests)) (λ j low high. grind (arith, nat_tests))
    ∙ map-id (range_with_len a k)

-- the recent ticks after a tick
recent_later : (t settled n : ℕ) → n ≤ settled
    → later_than t (range_with_len (settled + 1 - n) n) ≡ range_with_len (settled + 1 - min n (settled - t)) (min n (settled - t))
recent_later t settled n few =
    let a = settled + 1 - n in
    let k = min n (settled - t) in
    let p : ℕ → Bool = λ u. nat_lt t u in
    let first : a + (n - k) ≡ settled + 1 - k = omega arith in
    let count : n - (n - k) ≡ k = omega arith in
    ap (filter p) (sym (map-id (range_with_len a n)))
    ∙ later_ones p (λ u. u) a n (n - k) (omega arith) (λ j low high. grind (arith, nat_tests)) (λ j low high. grind (arith, nat_tests))
    ∙ map-id (range_with_len (a + (n - k)) (n - (n - k)))
    ∙ ap (λ b. range_with_len b (n - (n - k))) first ∙ ap (range_with_len (settled + 1 - k)) count

-- the keyframes up to a tick
keyframes_up_to : (t horizon settled : ℕ) → horizon ≤ t → horizon ≤ settled
    → up_to t (keyframes_between horizon settled) ≡ keyframes_between horizon (min t settled)
keyframes_up_to t horizon settled after base =
    let h = horizon / KEYFRAME_INTERVAL in
    first_ones (λ u. nat_le u t) (λ i. i * KEYFRAME_INTERVAL) (h + 1) (settled / KEYFRAME_INTERVAL - h) (min t settled / KEYFRAME_INTERVAL - h) (omega arith)
    (λ j low high. grind (arith, nat_tests)) (λ j low high. grind (arith, nat_tests))

-- the keyframes after a tick
keyframes_later : (t horizon settled : ℕ) → horizon ≤ t → horizon ≤ settled
    → later_than t (keyframes_between horizon settled) ≡ keyframes_between t (max t settled)
keyframes_later t horizon settled after base =
    let h = horizon / KEYFRAME_INTERVAL in
    let n = settled / KEYFRAME_INTERVAL - h in
    let d = min t settled / KEYFRAME_INTERVAL - h in
    later_ones (λ u. nat_lt t u) (λ i. i * KEYFRAME_INTERVAL) (h + 1) n d (omega arith)
    (λ j low high. grind (arith, nat_tests)) (λ j low high. grind (arith, nat_tests))
    ∙ ⊎_elim
    (λ (below : t < settled).
    let first : h + 1 + d ≡ t / KEYFRAME_INTERVAL + 1 = omega arith in
    let count : n - d ≡ max t settled / KEYFRAME_INTERVAL - t / KEYFRAME_INTERVAL = omega arith in
    rw (first, count) refl)
    (λ (above : settled ≤ t).
    let none : n - d ≡ 0 = omega arith in
    let same : max t settled / KEYFRAME_INTERVAL - t / KEYFRAME_INTERVAL ≡ 0 = omega arith in
    rw (none, same) refl)
    (cases_lt t settled)

-- one tick more
range_more : (a n j : ℕ) → j ≡ a + n → range_with_len a n ++ j ∷ [] ≡ range_with_len a (suc n)
range_more a zero j is = let same : j ≡ a = omega arith in rw same refl
range_more a (suc n) j is = ap (λ xs. a ∷ xs) (range_more (a + 1) n j (omega arith))

multiples_more : (a n j : ℕ) → j ≡ (a + n) * KEYFRAME_INTERVAL → multiples a n ++ j ∷ [] ≡ multiples a (suc n)
multiples_more a zero j is = let same : j ≡ a * KEYFRAME_INTERVAL = omega arith in rw same refl
multiples_more a (suc n) j is = ap (λ xs. a * KEYFRAME_INTERVAL ∷ xs) (multiples_more (a + 1) n j (omega arith))

last_range : (a n : ℕ) → 0 < n → last_tick (range_with_len a n) ≡ a + n - 1
last_range a n some =
    let at : a + (n - 1) ≡ a + n - 1 = omega arith in
    ap (λ len. slice_index (range_with_len a n) (len - 1)) (length-range_with_len a n)
    ∙ get_or-range_with_len a n (n - 1) 0 (omega arith) ∙ at

last_multiple : (a n : ℕ) → last_tick (multiples a (suc n)) ≡ (a + n) * KEYFRAME_INTERVAL
last_multiple a n =
    ap (λ len. slice_index (multiples a (suc n)) (len - 1)) (length-map-range_with_len (λ i. i * KEYFRAME_INTERVAL) a (suc n))
    ∙ get_or-map-range_with_len (λ i. i * KEYFRAME_INTERVAL) a (suc n) (suc n - 1) (a + n) 0 (omega arith) (omega arith)

-- the last keyframe, or a tick up to the horizon where there is none
last_keyframe : (horizon settled : ℕ) → horizon ≤ settled
    → max horizon (last_tick (keyframes_between horizon settled)) ≡ max horizon (settled / KEYFRAME_INTERVAL * KEYFRAME_INTERVAL)
last_keyframe horizon settled base = by (settled / KEYFRAME_INTERVAL - horizon / KEYFRAME_INTERVAL) refl
  where
    by : (n : ℕ) → settled / KEYFRAME_INTERVAL - horizon / KEYFRAME_INTERVAL ≡ n
        → max horizon (last_tick (multiples (horizon / KEYFRAME_INTERVAL + 1) n)) ≡ max horizon (settled / KEYFRAME_INTERVAL * KEYFRAME_INTERVAL)
    by zero none = omega arith
    by (suc n) some = omega (arith, last_multiple (horizon / KEYFRAME_INTERVAL + 1) n)

-- ---- the settled tick

pub settled_dense : (horizon settled n ring : ℕ) → horizon + n ≤ settled
    → (n ≡ 0 → settled ≡ max horizon (settled / KEYFRAME_INTERVAL * KEYFRAME_INTERVAL))
    → settled_tick (dense_ticks horizon settled n ring) ≡ settled
unfolding settled_tick
settled_dense horizon settled zero ring few whole =
    let multiple : settled ≡ max horizon (settled / KEYFRAME_INTERVAL * KEYFRAME_INTERVAL) = whole refl in
    omega (arith, last_keyframe horizon settled (omega arith))
settled_dense horizon settled (suc n) ring few whole =
    omega (arith, last_keyframe horizon settled (omega arith), last_range (settled + 1 - suc n) (suc n) (omega arith))

-- ---- news

-- how many recent ticks are left
abbrev pub count_after_news : ℕ → ℕ → ℕ → ℕ
count_after_news settled n t = n - (settled - min t settled)

-- the settled tick after news of a tick
abbrev pub tick_after_news : ℕ → ℕ → ℕ → ℕ → ℕ
tick_after_news horizon settled n t =
    let last = min t settled in
    if count_after_news settled n t == 0 then max horizon (last / KEYFRAME_INTERVAL * KEYFRAME_INTERVAL) else last

pub dense_up_to : (t horizon settled n ring : ℕ) → horizon ≤ t → horizon + n ≤ settled
    → ticks_up_to t (dense_ticks horizon settled n ring)
    ≡ dense_ticks horizon (tick_after_news horizon settled n t) (count_after_news settled n t) ring
unfolding ticks_up_to
dense_up_to t horizon settled n ring after few =
    same_lists horizon ring _ _ _ _ (recent_up_to t settled n (omega arith)) (keyframes_up_to t horizon settled after (omega arith))
    ∙ by (count_after_news settled n t == 0) refl
  where
    by : (b : Bool) → (count_after_news settled n t == 0) ≡ b
        → ◌≡◌ {A = Ticks} (record {
          horizon = horizon;
          recent = range_with_len (settled + 1 - n) (count_after_news settled n t);
          keyframes = keyframes_between horizon (min t settled);
          ring = ring;
        }) (dense_ticks horizon (if b then max horizon (min t settled / KEYFRAME_INTERVAL * KEYFRAME_INTERVAL) else min t settled) (count_after_news settled n t) ring)
    by true all =
        let h = horizon / KEYFRAME_INTERVAL in
        let last = min t settled / KEYFRAME_INTERVAL * KEYFRAME_INTERVAL in
        let none : count_after_news settled n t ≡ 0 = grind (arith, nat_tests) in
        let same : min t settled / KEYFRAME_INTERVAL - h ≡ max horizon last / KEYFRAME_INTERVAL - h = omega arith in
        rw none (same_lists horizon ring [] [] _ _ refl (ap (multiples (h + 1)) same))
    by false some =
        let k = count_after_news settled n t in
        let first : settled + 1 - n ≡ min t settled + 1 - k = grind (arith, nat_tests) in
        same_lists horizon ring _ _ _ _ (ap (λ a. range_with_len a k) first) refl

-- what holds of the ticks that are left
pub record IsAfterNews (horizon settled n t last count : ℕ) : Type 0 where
  pub few : horizon + count ≤ last
  pub whole : count ≡ 0 → last ≡ max horizon (last / KEYFRAME_INTERVAL * KEYFRAME_INTERVAL)
  pub below : last ≤ t
  pub lower : last ≤ settled
  pub near : min t settled < last + KEYFRAME_INTERVAL

pub is_after_news : (horizon settled n t : ℕ) → horizon ≤ t → horizon + n ≤ settled
    → IsAfterNews horizon settled n t (tick_after_news horizon settled n t) (count_after_news settled n t)
is_after_news horizon settled n t after few = by (count_after_news settled n t == 0) refl
  where
    by : (b : Bool) → (count_after_news settled n t == 0) ≡ b
        → IsAfterNews horizon settled n t
        (if b then max horizon (min t settled / KEYFRAME_INTERVAL * KEYFRAME_INTERVAL) else min t settled) (count_after_news settled n t)
    by true all = record {
      few = grind (arith, nat_tests);
      whole = λ none. omega arith;
      below = omega arith;
      lower = omega arith;
      near = omega arith;
    }
    by false some = record {
      few = grind (arith, nat_tests);
      whole = λ none. grind (arith, nat_tests);
      below = omega arith;
      lower = omega arith;
      near = omega arith;
    }

pub nearest_dense : (t horizon settled n ring : ℕ) → horizon ≤ t → horizon + n ≤ settled
    → nearest_tick (dense_ticks horizon settled n ring) t ≡ tick_after_news horizon settled n t
nearest_dense t horizon settled n ring later few =
    let after = is_after_news horizon settled n t later few in
    ap settled_tick (dense_up_to t horizon settled n ring later few)
    ∙ settled_dense horizon (tick_after_news horizon settled n t) (count_after_news settled n t) ring after.few after.whole

-- ---- settling

last_ones : (a n ring : ℕ) → 0 < ring → n ≤ ring
    → keep_last ring (range_with_len a (suc n)) ≡ range_with_len (a + suc n - min (suc n) ring) (min (suc n) ring)
last_ones a n ring some few =
    ap (λ len. drop (len - ring) (range_with_len a (suc n))) (length-range_with_len a (suc n))
    ∙ ⊎_elim
    (λ (room : n < ring).
    let none : suc n - ring ≡ 0 = omega arith in
    let all : min (suc n) ring ≡ suc n = omega arith in
    let first : a + suc n - suc n ≡ a = omega arith in
    rw (none, all, first) refl)
    (λ (full : ring ≤ n).
    let one : suc n - ring ≡ 1 = omega arith in
    let all : min (suc n) ring ≡ n = omega arith in
    let first : a + suc n - n ≡ a + 1 = omega arith in
    rw (one, all, first) refl)
    (cases_lt n ring)

keyframes_more : (horizon settled : ℕ) → horizon ≤ settled
    → (if (settled + 1) % KEYFRAME_INTERVAL == 0
    then keyframes_between horizon settled ++ (settled + 1) ∷ [] else keyframes_between horizon settled)
    ≡ keyframes_between horizon (settled + 1)
keyframes_more horizon settled base = by ((settled + 1) % KEYFRAME_INTERVAL == 0) refl
  where
    by : (b : Bool) → ((settled + 1) % KEYFRAME_INTERVAL == 0) ≡ b
        → (if b then keyframes_between horizon settled ++ (settled + 1) ∷ [] else keyframes_between horizon settled)
        ≡ keyframes_between horizon (settled + 1)
    by true at =
        let h = horizon / KEYFRAME_INTERVAL in
        let whole : (settled + 1) % KEYFRAME_INTERVAL ≡ 0 = grind (arith, nat_tests) in
        let next : suc (settled / KEYFRAME_INTERVAL - h) ≡ (settled + 1) / KEYFRAME_INTERVAL - h = omega arith in
        multiples_more (h + 1) (settled / KEYFRAME_INTERVAL - h) (settled + 1) (omega arith) ∙ ap (multiples (h + 1)) next
    by false between =
        let h = horizon / KEYFRAME_INTERVAL in
        let part : 0 < (settled + 1) % KEYFRAME_INTERVAL = grind (arith, nat_tests) in
        let same : settled / KEYFRAME_INTERVAL - h ≡ (settled + 1) / KEYFRAME_INTERVAL - h = omega arith in
        ap (multiples (h + 1)) same

pub dense_more : (horizon settled n ring : ℕ) → 0 < ring → n ≤ ring → horizon + n ≤ settled
    → ticks_after_settling (dense_ticks horizon settled n ring) (settled + 1) ≡ dense_ticks horizon (settled + 1) (min (suc n) ring) ring
unfolding ticks_after_settling
dense_more horizon settled n ring some few within =
    let a = settled + 1 - n in
    let m = min (suc n) ring in
    let first : a + suc n - m ≡ settled + 1 + 1 - m = omega arith in
    same_lists horizon ring _ _ _ _
    (ap (keep_last ring) (range_more a n (settled + 1) (omega arith)) ∙ last_ones a n ring some few ∙ ap (λ b. range_with_len b m) first)
    (keyframes_more horizon settled (omega arith))

-- ---- sealing

-- how many recent ticks are left after a tick is sealed
abbrev pub count_after_seal : ℕ → ℕ → ℕ → ℕ
count_after_seal settled n t = min n (settled - t)

pub dense_later : (t horizon settled n ring : ℕ) → horizon ≤ t → horizon + n ≤ settled
    → ticks_after_seal t (dense_ticks horizon settled n ring) ≡ dense_ticks t (max t settled) (count_after_seal settled n t) ring
unfolding ticks_after_seal
dense_later t horizon settled n ring after few =
    same_lists t ring _ _ _ _ (recent_later t settled n (omega arith) ∙ by (cases_lt t settled)) (keyframes_later t horizon settled after (omega arith))
  where
    by : (t < settled) ⊎ (settled ≤ t) → range_with_len (settled + 1 - count_after_seal settled n t) (count_after_seal settled n t)
        ≡ range_with_len (max t settled + 1 - count_after_seal settled n t) (count_after_seal settled n t)
    by (inl below) =
        let same : settled ≡ max t settled = omega arith in
        ap (λ last. range_with_len (last + 1 - count_after_seal settled n t) (count_after_seal settled n t)) same
    by (inr above) = let none : count_after_seal settled n t ≡ 0 = omega arith in rw none refl

-- what holds of the ticks that are left
pub record IsAfterSeal (t last count : ℕ) : Type 0 where
  pub few : t + count ≤ last
  pub whole : count ≡ 0 → last ≡ max t (last / KEYFRAME_INTERVAL * KEYFRAME_INTERVAL)

pub is_after_seal : (t horizon settled n : ℕ) → horizon ≤ t → horizon + n ≤ settled
    → (n ≡ 0 → settled ≡ max horizon (settled / KEYFRAME_INTERVAL * KEYFRAME_INTERVAL))
    → IsAfterSeal t (max t settled) (count_after_seal settled n t)
is_after_seal t horizon settled n after few whole = record {
  few = omega arith;
  whole = λ none. by (cases_lt 0 n) none;
}
  where
    by : (0 < n) ⊎ (n ≤ 0) → count_after_seal settled n t ≡ 0 → max t settled ≡ max t (max t settled / KEYFRAME_INTERVAL * KEYFRAME_INTERVAL)
    by (inl some) none = omega arith
    by (inr empty) none = let multiple : settled ≡ max horizon (settled / KEYFRAME_INTERVAL * KEYFRAME_INTERVAL) = whole (omega arith) in omega arith
