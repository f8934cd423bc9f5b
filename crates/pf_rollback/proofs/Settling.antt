-- What the definitions of kept ticks mean, for any kept ticks.
use Rattle.std.proofs.Common.{◌≡◌, ℕ, zero, suc, ◌+◌, ◌-◌, ◌%◌, ◌<◌, ◌≤◌, ◌⊎◌, inl, inr, Bool, true, false, cond, if◌then◌else◌, List, [], ◌∷◌, ◌++◌, length, max, nat_le, nat_lt, ◌==◌, slice_index, refl, ap, ◌∙◌, subst, ⊎_elim, arith, ◌↔◌, length-append, length-drop}
use Rattle.std.specs.Prelude.{Contains}
use Rattle.std.proofs.lemmas.Bool.Decides.{nat_tests}
use Rattle.std.proofs.lemmas.List.{get_or-drop}
use Rattle.std.proofs.lemmas.List.Elements.{Contains-append_right, Contains-append_cases, Contains-push_cases}
use Rattle.std.proofs.Math.Seq.{get_or-append_seam}
use Rattle.circular_buffer.specs.Buffer.{keep_last}
use Rattle.pf_rollback.specs.declared.snapshots.TheConstants.{KEYFRAME_INTERVAL}
use Rattle.pf_rollback.specs.Kept.{Ticks, last_tick, settled_tick, up_to, later_than, nearest_tick, ticks_up_to, ticks_after_more, ticks_after_settling}
use Rattle.pf_commands.proofs.News.{first_of}

-- ---- ticks up to a tick

contained_cases : (t : ℕ) (ts : List ℕ) (u : ℕ) → Contains (t ∷ ts) u → (t ≡ u) ⊎ Contains ts u
contained_cases t ts u has =
    ⊎_elim (λ first. ⊎_elim (λ none. absurd (omega (arith, none.1))) (λ e. inl e) (Contains-push_cases [] t u first)) (λ later. inr later)
    (Contains-append_cases (t ∷ []) ts u has)

kept_up_to : (ts : List ℕ) (last u : ℕ) → Contains (up_to last ts) u → Contains ts u × (u ≤ last)
kept_up_to [] last u has = absurd (omega (arith, has.1))
kept_up_to (t ∷ ts) last u has = by (nat_le t last) refl has (kept_up_to ts last u)
  where
    by : (b : Bool) → nat_le t last ≡ b → Contains (cond b (t ∷ up_to last ts) (up_to last ts)) u
        → (Contains (up_to last ts) u → Contains ts u × (u ≤ last)) → Contains (t ∷ ts) u × (u ≤ last)
    by true low has rest =
        let le : t ≤ last = grind (arith, nat_tests) in
        ⊎_elim
        (λ (same : t ≡ u). (subst (λ x. Contains (t ∷ ts) x) same (first_of t ts), omega arith))
        (λ later. let there = rest later in (Contains-append_right (t ∷ []) ts u there.0, there.1))
        (contained_cases t (up_to last ts) u has)
    by false high has rest = let there = rest has in (Contains-append_right (t ∷ []) ts u there.0, there.1)

up_to_kept : (ts : List ℕ) (last u : ℕ) → Contains ts u → u ≤ last → Contains (up_to last ts) u
up_to_kept [] last u has low = absurd (omega (arith, has.1))
up_to_kept (t ∷ ts) last u has low = by (nat_le t last) refl (contained_cases t ts u has) (λ later. up_to_kept ts last u later low)
  where
    by : (b : Bool) → nat_le t last ≡ b → (t ≡ u) ⊎ Contains ts u → (Contains ts u → Contains (up_to last ts) u)
        → Contains (cond b (t ∷ up_to last ts) (up_to last ts)) u
    by true le (inl same) rest = subst (λ x. Contains (t ∷ up_to last ts) x) same (first_of t (up_to last ts))
    by true le (inr later) rest = Contains-append_right (t ∷ []) (up_to last ts) u (rest later)
    by false gt (inl same) rest = absurd (let above : last < t = grind (arith, nat_tests) in omega arith)
    by false gt (inr later) rest = rest later

pub Contains-up_to : (ticks : List ℕ) (last tick : ℕ) → Contains (up_to last ticks) tick ↔ (Contains ticks tick × (tick ≤ last))
Contains-up_to ticks last tick = (kept_up_to ticks last tick, λ is. up_to_kept ticks last tick is.0 is.1)

-- ---- ticks after a tick

kept_later : (ts : List ℕ) (tick u : ℕ) → Contains (later_than tick ts) u → Contains ts u × (tick < u)
kept_later [] tick u has = absurd (omega (arith, has.1))
kept_later (t ∷ ts) tick u has = by (nat_lt tick t) refl has (kept_later ts tick u)
  where
    by : (b : Bool) → nat_lt tick t ≡ b → Contains (cond b (t ∷ later_than tick ts) (later_than tick ts)) u
        → (Contains (later_than tick ts) u → Contains ts u × (tick < u)) → Contains (t ∷ ts) u × (tick < u)
    by true high has rest =
        let lt : tick < t = grind (arith, nat_tests) in
        ⊎_elim
        (λ (same : t ≡ u). (subst (λ x. Contains (t ∷ ts) x) same (first_of t ts), omega arith))
        (λ later. let there = rest later in (Contains-append_right (t ∷ []) ts u there.0, there.1))
        (contained_cases t (later_than tick ts) u has)
    by false low has rest = let there = rest has in (Contains-append_right (t ∷ []) ts u there.0, there.1)

later_kept : (ts : List ℕ) (tick u : ℕ) → Contains ts u → tick < u → Contains (later_than tick ts) u
later_kept [] tick u has high = absurd (omega (arith, has.1))
later_kept (t ∷ ts) tick u has high = by (nat_lt tick t) refl (contained_cases t ts u has) (λ later. later_kept ts tick u later high)
  where
    by : (b : Bool) → nat_lt tick t ≡ b → (t ≡ u) ⊎ Contains ts u → (Contains ts u → Contains (later_than tick ts) u)
        → Contains (cond b (t ∷ later_than tick ts) (later_than tick ts)) u
    by true lt (inl same) rest = subst (λ x. Contains (t ∷ later_than tick ts) x) same (first_of t (later_than tick ts))
    by true lt (inr later) rest = Contains-append_right (t ∷ []) (later_than tick ts) u (rest later)
    by false le (inl same) rest = absurd (let below : t ≤ tick = grind (arith, nat_tests) in omega arith)
    by false le (inr later) rest = rest later

pub Contains-later_than : (ticks : List ℕ) (tick later : ℕ) → Contains (later_than tick ticks) later ↔ (Contains ticks later × (tick < later))
Contains-later_than ticks tick later = (kept_later ticks tick later, λ is. later_kept ticks tick later is.0 is.1)

-- no tick is nearest to another one before the horizon
pub nearest-from_horizon : (k : Ticks) (tick : ℕ) → k.horizon ≤ nearest_tick k tick
unfolding settled_tick ticks_up_to
nearest-from_horizon k tick = omega arith

-- ---- settling

last-push : (ts : List ℕ) (t : ℕ) → last_tick (ts ++ t ∷ []) ≡ t
last-push ts t =
    let long : length (ts ++ t ∷ []) - 1 ≡ length ts = omega (arith, length-append ts (t ∷ [])) in
    ap (slice_index (ts ++ t ∷ [])) long ∙ get_or-append_seam ts t [] 0

last-kept : (ts : List ℕ) (ring : ℕ) → 0 < ring → 0 < length ts → last_tick (keep_last ring ts) ≡ last_tick ts
last-kept ts ring some full =
    let d = length ts - ring in
    let at : d + (length (keep_last ring ts) - 1) ≡ length ts - 1 = omega (arith, length-drop d ts) in
    get_or-drop d ts (length (keep_last ring ts) - 1) 0 ∙ ap (slice_index ts) at

settled-settling : (k : Ticks) → 0 < k.ring → settled_tick (ticks_after_settling k (settled_tick k + 1)) ≡ settled_tick k + 1
unfolding settled_tick ticks_after_settling
settled-settling k some =
    let tick = settled_tick k + 1 in
    let recent : last_tick (keep_last k.ring (k.recent ++ tick ∷ [])) ≡ tick =
    last-kept (k.recent ++ tick ∷ []) k.ring some (omega (arith, length-append k.recent (tick ∷ []))) ∙ last-push k.recent tick in
    by (tick % KEYFRAME_INTERVAL == 0) recent
  where
    by : (b : Bool) → last_tick (keep_last k.ring (k.recent ++ (settled_tick k + 1) ∷ [])) ≡ settled_tick k + 1
        → max k.horizon (max (last_tick (keep_last k.ring (k.recent ++ (settled_tick k + 1) ∷ [])))
        (last_tick (if b then k.keyframes ++ (settled_tick k + 1) ∷ [] else k.keyframes))) ≡ settled_tick k + 1
    by true recent = omega (arith, recent, last-push k.keyframes (settled_tick k + 1))
    by false recent = omega (arith, recent)

ring-after_more : (k : Ticks) (more : ℕ) → (ticks_after_more k more).ring ≡ k.ring
unfolding ticks_after_more ticks_after_settling
ring-after_more k zero = refl
ring-after_more k (suc more) = ring-after_more k more

pub settled-after_more : (k : Ticks) (more : ℕ) → 0 < k.ring → settled_tick (ticks_after_more k more) ≡ settled_tick k + more
unfolding ticks_after_more
settled-after_more k zero some = let same : settled_tick k ≡ settled_tick k + 0 = omega arith in same
settled-after_more k (suc more) some =
    let before = settled-after_more k more some in
    let one = settled-settling (ticks_after_more k more) (omega (arith, ring-after_more k more)) in
    omega (arith, before, one)
