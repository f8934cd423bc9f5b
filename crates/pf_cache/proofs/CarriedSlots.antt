-- Slots that are carried over to other pairs, in the order of their pairs.
use Rattle.std.proofs.Common.{◌≡◌, ◌<◌, ◌≤◌, ◌+◌, ◌==◌, ◌&&◌, ◌∷◌, ◌++◌, [], ℕ, false, Some, None, List, length, map, take, get_or, ap, ap₂, sym, subst, ◌∙◌, append_assoc, append-nil, true≢false, arith}
use Rattle.std.proofs.lemmas.Bool.Decides.{Decides-eqb}
use Rattle.std.proofs.lemmas.List.{map_more}
use Rattle.std.proofs.lemmas.List.Concat.{flat_map-append}
use Rattle.std.proofs.lemmas.List.Elements.{All-get_or}
use Rattle.std.specs.List.{flat_map}
use Rattle.std.specs.Prelude.{All, Option, drop}
use Rattle.pf_shapes.specs.Pair.{IsPairOf, Pair}
use Rattle.pf_shapes.specs.declared.scene.TheConstants.{MAX_BODIES}
use Rattle.pf_manifold.specs.Key.{IsRising}
use Rattle.pf_manifold.specs.Touches.{Touch}
use Rattle.pf_cache.specs.Ranked.{element_at}
use Rattle.pf_cache.specs.Slots.{Slot, carried_slot, pair_rank, slot_touches, touches_if}
use Rattle.pf_cache.proofs.PairRanks.{same_test}
use Rattle.pf_cache.proofs.RankedLists.{found_other}
use Rattle.pf_cache.proofs.Walk as walk

-- the rank of the pair of a slot
abbrev pub slot_rank : Slot → ℕ
slot_rank s = pair_rank s.pair

-- a pair has no slot, where that of another stands
pub none_there : (old : List Slot) (place : ℕ) (p : Pair) (s : Slot) → place < length old → s ≡ get_or old place s
    → IsRising 0 (map slot_rank old) → All (λ (x : Slot). IsPairOf MAX_BODIES x.pair) old → IsPairOf MAX_BODIES p
    → All (λ (x : Slot). pair_rank p ≤ pair_rank x.pair) (drop place old)
    → ((s.pair.a == p.a) && (s.pair.b == p.b)) ≡ false
    → element_at slot_rank (pair_rank p) (drop place old) ≡ None
none_there old place p s within s_is rising bodies hp reached other =
    let here : IsPairOf MAX_BODIES s.pair =
    subst (λ (x : Slot). IsPairOf MAX_BODIES x.pair) (sym s_is) (All-get_or (λ (x : Slot). IsPairOf MAX_BODIES x.pair) old place s within bodies) in
    found_other slot_rank Some None old place (pair_rank p) s within rising reached
    (λ same.
    true≢false (sym ((Decides-eqb (pair_rank s.pair) (pair_rank p)).1 (ap slot_rank s_is ∙ same)) ∙ sym (same_test s.pair p here hp) ∙ other))

-- the slot of a pair, in a list of slots from this place on
abbrev pub slot_from : List Slot → Pair → ℕ → Option Slot
slot_from slots p place = element_at slot_rank (pair_rank p) (drop place slots)

-- from this place on a pair has the slot that it has from the start
abbrev pub ReadsFrom : List Slot → ℕ → Pair → Type 0
ReadsFrom slots place p = slot_from slots p place ≡ slot_from slots p 0

-- a step of the walk: the pair p at i. The slots from `place` to `end` are passed by
module _ (old : List Slot) (pairs : List Pair) (i place end : ℕ) (p : Pair) (within : i < length pairs) (p_is : p ≡ get_or pairs i p)
    (same : All (ReadsFrom old place) (drop i pairs))
    (passed : (n : ℕ) → pair_rank p ≤ n → element_at slot_rank n (drop end old) ≡ element_at slot_rank n (drop place old)) where
  pub made_more : (slots after : List Slot) → slots ≡ map (carried_slot old) (take i pairs)
      → after ≡ slots ++ carried_slot (drop end old) p ∷ []
      → after ≡ map (carried_slot old) (take (i + 1) pairs)
  made_more slots after done pushed =
      let here = get_or pairs i p in
      let own : slot_from old here end ≡ slot_from old here 0 =
      walk.reads_here pair_rank (slot_from old) pairs i place end p within
      (λ x high. passed (pair_rank x) (subst (λ q. pair_rank q ≤ pair_rank x) (sym p_is) high)) same in
      pushed ∙ ap₂ (λ xs q. xs ++ carried_slot (drop end old) q ∷ []) done p_is
      ∙ (λ k. map (carried_slot old) (take i pairs) ++ record { pair = here; touches = touches_if (own k) } ∷ [])
      ∙ sym (map_more (carried_slot old) pairs i p within)

  pub behind_more : (next : ℕ)
      → ((n : ℕ) → pair_rank p < n → element_at slot_rank n (drop next old) ≡ element_at slot_rank n (drop end old))
      → IsRising 0 (map pair_rank pairs)
      → All (ReadsFrom old next) (drop (i + 1) pairs)
  behind_more next later rising =
      walk.reads_behind pair_rank (slot_from old) pairs i place next p within
      (λ x high.
      let above : pair_rank p < pair_rank x = subst (λ q. pair_rank q < pair_rank x) (sym p_is) high in
      later (pair_rank x) above ∙ passed (pair_rank x) (omega (arith, above)))
      same rising

-- the contact points of one more slot stand before those that are left
pub points_more : (slots after : List Slot) (s : Slot) (left ended before all : List Touch) → after ≡ slots ++ s ∷ []
    → slot_touches s ++ left ≡ ended → ended ≡ before → flat_map slot_touches slots ++ before ≡ all
    → flat_map slot_touches after ++ left ≡ all
points_more slots after s left ended before all pushed own passed done =
    let listed = flat_map slot_touches slots in
    let added : flat_map slot_touches after ≡ listed ++ slot_touches s =
    ap (flat_map slot_touches) pushed ∙ flat_map-append slot_touches slots (s ∷ [])
    ∙ ap (λ ts. listed ++ ts) (append-nil (slot_touches s)) in
    ap (λ ts. ts ++ left) added ∙ append_assoc listed (slot_touches s) left ∙ ap (λ ts. listed ++ ts) (own ∙ passed) ∙ done
