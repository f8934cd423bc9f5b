-- The contact points of pairs stand one after the other.
use Rattle.std.proofs.Common.{◌≡◌, ◌≤◌, ℕ, ◌+◌, ◌-◌, ◌==◌, ◌&&◌, Bool, true, false, Option, Some, None, List, [], ◌∷◌, ◌++◌, length, map, take, drop, refl, sym, ap, ◌∙◌, ⊎_elim, ltb-true, eqb-true, arith}
use Rattle.std.specs.List.{AllByRecursion, flat_map, prefix_len}
use Rattle.std.specs.Prelude.{IfSome, slice_get, if◌then◌else◌}
use Rattle.std.proofs.lemmas.Bool.Decides.{Decides-eqb}
use Rattle.std.proofs.lemmas.Bool.{and_parts, or_cases}
use Rattle.std.proofs.lemmas.List.{drop-drop, length-map}
use Rattle.std.proofs.Math.Seq.{drop-append_seam}
use Rattle.pf_shapes.specs.Pair.{IsAscending, Pair, is_before}
use Rattle.pf_manifold.specs.Collide.{collide}
use Rattle.pf_manifold.specs.ContactPoint.{ContactPoint}
use Rattle.pf_manifold.specs.PlacedShape.{PlacedShape}
use Rattle.pf_manifold.specs.Touches.{Touch, touch_of, touches_between}
use Rattle.pf_cache.specs.Manifolds.{points_of_pair}
use Rattle.pf_cache.specs.Slots.{is_of_pair}
use Rattle.pf_cache.specs.Stale.{AreNextPoints}

-- ---- points of one pair, and after them those of later ones

-- a pair passes its own test
pub own : (p : Pair) → ((p.a == p.a) && (p.b == p.b)) ≡ true
own p = rw ((Decides-eqb p.a p.a).1 refl, (Decides-eqb p.b p.b).1 refl) refl

-- the points of a later pair are not of this one
other : (p q : Pair) → is_before p q ≡ true → ((q.a == p.a) && (q.b == p.b)) ≡ false
other p q before = by ((q.a == p.a) && (q.b == p.b)) refl
  where
    by : (t : Bool) → ((q.a == p.a) && (q.b == p.b)) ≡ t → t ≡ false
    by false e = refl
    by true e =
        let parts = and_parts _ _ e in
        let first = eqb-true q.a p.a parts.0 in
        let second = eqb-true q.b p.b parts.1 in
        absurd (⊎_elim (λ x. let less = ltb-true p.a q.a x in omega (arith, less, first))
        (λ y.
        let both = and_parts _ _ y in
        let less = ltb-true p.b q.b both.1 in
        omega (arith, less, second))
        (or_cases _ _ before))

own_first : (p : Pair) (cs : List ContactPoint) (rest : List Touch)
    → prefix_len (is_of_pair p) (map (touch_of p) cs ++ rest) ≡ length cs + prefix_len (is_of_pair p) rest
own_first p [] rest = omega arith
own_first p (x ∷ cs) rest =
    let before = own_first p cs rest in
    rw (own p) (omega (arith, before))

module _ (shapes : List PlacedShape) (p : Pair) where
  none_between : (q : Pair) (o m : Option PlacedShape) (rest : List Touch) → is_before p q ≡ true
      → prefix_len (is_of_pair p) rest ≡ 0 → prefix_len (is_of_pair p) (touches_between q o m ++ rest) ≡ 0
  none_between q (Some a) (Some b) rest before none = by (collide a b)
    where
      by : (cs : List ContactPoint) → prefix_len (is_of_pair p) (map (touch_of q) cs ++ rest) ≡ 0
      by [] = none
      by (x ∷ cs) = rw (other p q before) refl
  none_between q (Some a) None rest before none = none
  none_between q None m rest before none = none

  none_later : (ps : List Pair) → AllByRecursion (λ q. is_before p q ≡ true) ps
      → prefix_len (is_of_pair p) (flat_map (points_of_pair shapes) ps) ≡ 0
  none_later [] later = refl
  none_later (q ∷ ps) later =
      none_between q (slice_get shapes q.a) (slice_get shapes q.b) (flat_map (points_of_pair shapes) ps) later.0
      (none_later ps later.1)

  between_first : (o m : Option PlacedShape) (rest : List Touch) → prefix_len (is_of_pair p) rest ≡ 0
      → prefix_len (is_of_pair p) (touches_between p o m ++ rest) ≡ length (touches_between p o m)
  between_first (Some a) (Some b) rest none =
      let cs = collide a b in
      let first = own_first p cs rest in
      let long = length-map cs (touch_of p) in
      omega (arith, first, none, long)
  between_first (Some a) None rest none = none
  between_first None m rest none = none

  -- so many are of the first pair
  first_points : (ps : List Pair) → AllByRecursion (λ q. is_before p q ≡ true) ps
      → prefix_len (is_of_pair p) (points_of_pair shapes p ++ flat_map (points_of_pair shapes) ps)
      ≡ length (points_of_pair shapes p)
  first_points ps later = between_first (slice_get shapes p.a) (slice_get shapes p.b) _ (none_later ps later)

take_front : {X : Type 0} (xs ys : List X) → take (length xs) (xs ++ ys) ≡ xs
take_front [] ys = refl
take_front (x ∷ xs) ys = ap (λ l. x ∷ l) (take_front xs ys)

-- the points of the pair p stand from `start` on, and after them those of later pairs
module _ (shapes : List PlacedShape) (touches : List Touch) (start : ℕ) (p : Pair) (later : List Pair) (up : IsAscending (p ∷ later))
    (are : AreNextPoints shapes touches start (p ∷ later)) (len : ℕ) (len_is : len ≡ prefix_len (is_of_pair p) (drop start touches)) where
  many : len ≡ length (points_of_pair shapes p)
  many = len_is ∙ ap (prefix_len (is_of_pair p)) are.points ∙ first_points shapes p later up.0

  pub taken_points : take ((start + len) - start) (drop start touches) ≡ points_of_pair shapes p
  taken_points =
      let count : (start + len) - start ≡ length (points_of_pair shapes p) = omega (arith, many) in
      (λ k. take (count k) (are.points k)) ∙ take_front (points_of_pair shapes p) (flat_map (points_of_pair shapes) later)

  pub points_behind : start + len ≤ length touches → AreNextPoints shapes touches (start + len) later
  points_behind within = record {
    within = within;
    points =
        sym (drop-drop len start touches) ∙ (λ k. drop (many k) (are.points k))
        ∙ drop-append_seam (points_of_pair shapes p) (flat_map (points_of_pair shapes) later);
  }

-- what holds of a value, if there is one
pub if_some : {T : Type 0} {P Q : T → Type 0} (o : Option T) → ((t : T) → P t → Q t) → IfSome o P → IfSome o Q
if_some None f h = tt
if_some (Some t) f h = f t h

pub both_if_some : {T : Type 0} {P Q R : T → Type 0} (o : Option T) → ((t : T) → P t → Q t → R t) → IfSome o P → IfSome o Q → IfSome o R
both_if_some None f h g = tt
both_if_some (Some t) f h g = f t h g

-- at the start
pub first_points_are : (shapes : List PlacedShape) (touches : List Touch) (pairs : List Pair) → touches ≡ flat_map (points_of_pair shapes) pairs
    → AreNextPoints shapes touches 0 pairs
first_points_are shapes touches pairs are = record { within = omega arith; points = are }

-- the points of this pair are the next ones, if it may touch
abbrev pub Next : List PlacedShape → List Touch → ℕ → Pair → Bool → Type 0
Next shapes touches start p overlap = (later : List Pair) × IsAscending (p ∷ later) × AreNextPoints shapes touches start (if overlap then p ∷ later else later)

-- those of later pairs follow
abbrev pub Follow : List PlacedShape → List Touch → ℕ → ℕ → Pair → Bool → Type 0
Follow shapes touches start end p overlap =
    (later : List Pair) → IsAscending (p ∷ later) → AreNextPoints shapes touches start (if overlap then p ∷ later else later)
    → AreNextPoints shapes touches end later
