-- Contact points of slots with their places among all.
use Rattle.std.proofs.Common.{◌≡◌, ◌<◌, ◌+◌, ◌∷◌, ◌++◌, [], ℕ, zero, suc, Bool, Option, Some, None, List, length, map, take, filter, get_or, ap, sym, ◌∙◌, refl, arith, append-nil}
use Rattle.std.proofs.lemmas.List.{length-append, take_more}
use Rattle.std.proofs.lemmas.List.Concat.{flat_map-append}
use Rattle.std.proofs.lemmas.List.Elements.{All-cons, All-head, All-nil, All-tail, filter-append}
use Rattle.std.specs.List.{enumerate_from, flat_map}
use Rattle.std.specs.Prelude.{All, unwrap_or}
use Rattle.pf_shapes.specs.Pair.{IsPairOf, Pair}
use Rattle.pf_manifold.specs.ContactPoint.{ContactPoint}
use Rattle.pf_manifold.specs.Manifold.{points_of}
use Rattle.pf_manifold.specs.Touches.{IsTouchOf, Touch, touch_of}
use Rattle.pf_manifold.specs.declared.manifold.Manifold.{Manifold}
use Rattle.pf_cache.specs.Points.{flagged_points, is_flagged}
use Rattle.pf_cache.specs.Slots.{Slot, manifold_touches, slot_touches}

-- ---- two lists

pub All-front : {X : Type 0} (P : X → Type 0) (xs ys : List X) → All P (xs ++ ys) → All P xs
All-front P [] ys all = All-nil P
All-front P (x ∷ xs) ys all =
    All-cons P x xs (All-head P x (xs ++ ys) all) (All-front P xs ys (All-tail P x (xs ++ ys) all))

pub All-back : {X : Type 0} (P : X → Type 0) (xs ys : List X) → All P (xs ++ ys) → All P ys
All-back P [] ys all = all
All-back P (x ∷ xs) ys all = All-back P xs ys (All-tail P x (xs ++ ys) all)

front_nil : (xs ys : List Touch) → (xs ++ ys) ≡ [] → xs ≡ []
front_nil [] ys none = refl
front_nil (x ∷ xs) ys none = absurd (omega (arith, ap length none))

back_nil : (xs ys : List Touch) → (xs ++ ys) ≡ [] → ys ≡ []
back_nil [] ys none = none
back_nil (x ∷ xs) ys none = absurd (omega (arith, ap length none))

-- ---- slots

-- a pair that has a contact point is one of the bodies
pub has_bodies : (n : ℕ) (p : Pair) (o : Option Manifold) → All (IsTouchOf n) (unwrap_or (manifold_touches p o) [])
    → 0 < length (unwrap_or (manifold_touches p o) []) → IsPairOf n p
has_bodies n p None all some = absurd (omega (arith, some))
has_bodies n p (Some m) all some = by (points_of m) all some
  where
    by : (cs : List ContactPoint) → All (IsTouchOf n) (map (touch_of p) cs) → 0 < length (map (touch_of p) cs) → IsPairOf n p
    by [] all some = absurd (omega (arith, some))
    by (x ∷ cs) all some = All-head (IsTouchOf n) (touch_of p x) (map (touch_of p) cs) all

-- places of two lists
pub enumerate-append : (place : ℕ) (xs ys : List Touch) → enumerate_from place (xs ++ ys) ≡ enumerate_from place xs ++ enumerate_from (place + length xs) ys
enumerate-append place [] ys = ap (λ n. enumerate_from n ys) (omega arith)
enumerate-append place (x ∷ xs) ys =
    let next : (place + 1) + length xs ≡ place + suc (length xs) = omega arith in
    ap (λ l. (place, x) ∷ l) (enumerate-append (place + 1) xs ys ∙ ap (λ n. enumerate_from (place + 1) xs ++ enumerate_from n ys) next)

-- one slot more
module _ (flags : List Bool) (slots : List Slot) (i : ℕ) (d s : Slot) (below : i < length slots) (s_is : s ≡ get_or slots i d) where
  more : flat_map slot_touches (take (i + 1) slots) ≡ flat_map slot_touches (take i slots) ++ slot_touches s
  more =
      ap (flat_map slot_touches) (take_more slots i d below) ∙ flat_map-append slot_touches (take i slots) (get_or slots i d ∷ [])
      ∙ ap (λ l. flat_map slot_touches (take i slots) ++ l) (append-nil (slot_touches (get_or slots i d)) ∙ ap slot_touches (sym s_is))

  pub place_next : (place : ℕ) → place ≡ length (flat_map slot_touches (take i slots))
      → place + length (slot_touches s) ≡ length (flat_map slot_touches (take (i + 1) slots))
  place_next place e =
      let sum = ap length more ∙ length-append (flat_map slot_touches (take i slots)) (slot_touches s) in omega (arith, sum, e)

  pub points_next : (place : ℕ) (points after : List (ℕ × Touch)) → place ≡ length (flat_map slot_touches (take i slots))
      → points ≡ flagged_points flags (flat_map slot_touches (take i slots))
      → after ≡ points ++ filter (λ (m : ℕ × Touch). is_flagged flags m.1) (enumerate_from place (slot_touches s))
      → after ≡ flagged_points flags (flat_map slot_touches (take (i + 1) slots))
  points_next place points after place_is done pushed =
      let front = flat_map slot_touches (take i slots) in
      let t : ℕ × Touch → Bool = λ m. is_flagged flags m.1 in
      let from : place ≡ 0 + length front = omega (arith, place_is) in
      pushed ∙ (λ k. done k ++ filter t (enumerate_from (from k) (slot_touches s)))
      ∙ sym (ap (λ ts. filter t (enumerate_from 0 ts)) more ∙ ap (filter t) (enumerate-append 0 front (slot_touches s))
      ∙ filter-append t (enumerate_from 0 front) (enumerate_from (0 + length front) (slot_touches s)))

-- the contact points of one of the slots
pub of_all : (P : Touch → Type 0) (slots : List Slot) (i : ℕ) (d : Slot) → i < length slots → All P (flat_map slot_touches slots)
    → All P (slot_touches (get_or slots i d))
of_all P [] i d below all = absurd (omega (arith, below))
of_all P (s ∷ slots) zero d below all = All-front P (slot_touches s) (flat_map slot_touches slots) all
of_all P (s ∷ slots) (suc i) d below all = of_all P slots i d (omega (arith, below)) (All-back P (slot_touches s) (flat_map slot_touches slots) all)

-- where no slot has contact points, this one has none
pub none_of_all : (slots : List Slot) (i : ℕ) (d : Slot) → i < length slots → flat_map slot_touches slots ≡ [] → slot_touches (get_or slots i d) ≡ []
none_of_all [] i d below none = absurd (omega (arith, below))
none_of_all (s ∷ slots) zero d below none = front_nil (slot_touches s) (flat_map slot_touches slots) none
none_of_all (s ∷ slots) (suc i) d below none =
    none_of_all slots i d (omega (arith, below)) (back_nil (slot_touches s) (flat_map slot_touches slots) none)

pub none_before : (slots : List Slot) (i : ℕ) → flat_map slot_touches slots ≡ [] → length (flat_map slot_touches (take i slots)) ≡ 0
none_before [] zero none = refl
none_before [] (suc i) none = refl
none_before (s ∷ slots) zero none = refl
none_before (s ∷ slots) (suc i) none =
    rw (front_nil (slot_touches s) (flat_map slot_touches slots) none) (none_before slots i (back_nil (slot_touches s) (flat_map slot_touches slots) none))
