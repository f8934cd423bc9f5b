-- Enlarged bounds contain the bounds, so bodies that may touch are among the candidates.
use Rattle.std.proofs.Common.{◌≡◌, ℕ, zero, suc, ◌+◌, ◌<◌, ◌≤ℤ◌, ℤ, Bool, true, false, cond, not, ◌&&◌, ◌||◌, List, [], ◌∷◌, ◌++◌, length, All, map, nat_lt, refl, sym, ap, ◌∙◌, subst, arith, ◌≤◌, ⊎_elim}
use Rattle.std.proofs.lemmas.Bool.{and_parts, cases_lt}
use Rattle.std.proofs.lemmas.List.{get_or_append_left}
use Rattle.std.proofs.Math.Seq.{get_or-append_seam}
use Rattle.std.proofs.lemmas.Bool.Decides.{nat_tests}
use Rattle.std.proofs.lemmas.Int.{ints}
use Rattle.std.proofs.lemmas.List.Elements.{All-get_or, All-from_get_or, filter-append}
use Rattle.std.specs.List.{range_with_len, filter, flat_map}
use Rattle.pf_shapes.specs.Bounds.{Bounds, IsOrdered, overlaps, ranges_overlap}
use Rattle.pf_shapes.specs.Pair.{Pair}
use Rattle.pf_broad.specs.Pairs.{no_bounds, bounds_at, may_touch, is_pair, pair, pair_may_touch, partners_of, pairs_of, pairs}
use Rattle.pf_shapes.specs.declared.scene.TheConstants.{MAX_BODIES}
use Rattle.pf_broad.specs.Enlarged.{contains, contains_range, AreCandidates, AreEnlarged}

-- bounds that contain ordered ones are ordered
contains-IsOrdered : (a b : Bounds) → contains a b ≡ true → IsOrdered b → IsOrdered a
unfolding contains
contains-IsOrdered a b within ordered =
    let axes = (and_parts (not a.is_static || b.is_static) _ within).1 in
    let both = and_parts (contains_range a.low.x a.high.x b.low.x b.high.x) (contains_range a.low.y a.high.y b.low.y b.high.y) axes in
    record { x = ends_in_order a.low.x a.high.x b.low.x b.high.x both.0 ordered.x; y = ends_in_order a.low.y a.high.y b.low.y b.high.y both.1 ordered.y }
  where
    ends_in_order : (low high lo hi : ℤ) → contains_range low high lo hi ≡ true → lo ≤ℤ hi → low ≤ℤ high
    ends_in_order low high lo hi is order = grind (arith, ints, nat_tests)

pub enlarged_bounds-IsOrdered : (enlarged bounds : List Bounds) → AreEnlarged enlarged bounds → All IsOrdered bounds → All IsOrdered enlarged
enlarged_bounds-IsOrdered enlarged bounds is ordered =
    All-from_get_or IsOrdered enlarged no_bounds (λ k below.
    let within : k < length bounds = omega (arith, is.as_many) in
    contains-IsOrdered (bounds_at enlarged k) (bounds_at bounds k) (is.each k within) (All-get_or IsOrdered bounds k no_bounds within ordered))

-- not both are static, so not both enlarged ones are
not_both : (a a' b b' : Bool) → (not a || a') ≡ true → (not b || b') ≡ true → not (a' && b') ≡ true → not (a && b) ≡ true
not_both false a' b b' p q r = refl
not_both true a' false b' p q r = refl
not_both true false true b' p q r = p
not_both true true true false p q r = q
not_both true true true true p q r = r

within-overlap : (low high lo hi l h l' h' : ℤ) → contains_range low high l h ≡ true → contains_range lo hi l' h' ≡ true
    → ranges_overlap l h l' h' ≡ true → ranges_overlap low high lo hi ≡ true
within-overlap low high lo hi l h l' h' p q r = grind (arith, ints, nat_tests)

-- bodies that may touch may do so by their enlarged bounds
contains-may_touch : (a b a' b' : Bounds) → contains a a' ≡ true → contains b b' ≡ true → may_touch a' b' ≡ true → may_touch a b ≡ true
unfolding contains may_touch overlaps
contains-may_touch a b a' b' p q touch =
    let pa = and_parts (not a.is_static || a'.is_static) _ p in
    let pb = and_parts (not b.is_static || b'.is_static) _ q in
    let axes_a = and_parts (contains_range a.low.x a.high.x a'.low.x a'.high.x) (contains_range a.low.y a.high.y a'.low.y a'.high.y) pa.1 in
    let axes_b = and_parts (contains_range b.low.x b.high.x b'.low.x b'.high.x) (contains_range b.low.y b.high.y b'.low.y b'.high.y) pb.1 in
    let parts = and_parts (not (a'.is_static && b'.is_static)) _ touch in
    let axes = and_parts (ranges_overlap a'.low.x a'.high.x b'.low.x b'.high.x) (ranges_overlap a'.low.y a'.high.y b'.low.y b'.high.y) parts.1 in
    let static = not_both a.is_static a'.is_static b.is_static b'.is_static pa.0 pb.0 parts.0 in
    let x = within-overlap a.low.x a.high.x b.low.x b.high.x a'.low.x a'.high.x b'.low.x b'.high.x axes_a.0 axes_b.0 axes.0 in
    let y = within-overlap a.low.y a.high.y b.low.y b.high.y a'.low.y a'.high.y b'.low.y b'.high.y axes_a.1 axes_b.1 axes.1 in
    rw (static, x, y) refl

test_again : (less l m : Bool) → (m ≡ true → l ≡ true) → ((less && l) && m) ≡ (less && m)
test_again false l m h = refl
test_again true l true h = rw (h refl) refl
test_again true true false h = refl
test_again true false false h = refl

-- of two bodies by their enlarged bounds, and then by their bounds
again-is_pair : (enlarged bounds : List Bounds) → AreEnlarged enlarged bounds → (i j : ℕ) → i < length enlarged → j < length enlarged
    → (is_pair enlarged i j && may_touch (bounds_at bounds i) (bounds_at bounds j)) ≡ is_pair bounds i j
again-is_pair enlarged bounds is i j hi hj =
    test_again (nat_lt i j) (may_touch (bounds_at enlarged i) (bounds_at enlarged j)) (may_touch (bounds_at bounds i) (bounds_at bounds j))
    (contains-may_touch (bounds_at enlarged i) (bounds_at enlarged j) (bounds_at bounds i) (bounds_at bounds j)
    (is.each i (omega (arith, is.as_many))) (is.each j (omega (arith, is.as_many))))

pub filter-flat_map : {X Y : Type 0} (t : Y → Bool) (f : X → List Y) (xs : List X) → filter t (flat_map f xs) ≡ flat_map (λ x. filter t (f x)) xs
filter-flat_map t f [] = refl
filter-flat_map t f (x ∷ xs) = filter-append t (f x) (flat_map f xs) ∙ ap (λ l. filter t (f x) ++ l) (filter-flat_map t f xs)

pub filter-map : (t : Pair → Bool) (i : ℕ) (xs : List ℕ) → filter t (map (pair i) xs) ≡ map (pair i) (filter (λ j. t (pair i j)) xs)
filter-map t i [] = refl
filter-map t i (x ∷ xs) =
    elim (t (pair i x)) as (λ b. cond b (pair i x ∷ filter t (map (pair i) xs)) (filter t (map (pair i) xs))
    ≡ map (pair i) (cond b (x ∷ filter (λ j. t (pair i j)) xs) (filter (λ j. t (pair i j)) xs))) [
      | true ↦ ap (λ l. pair i x ∷ l) (filter-map t i xs)
      | false ↦ filter-map t i xs
    ]

filter-cons : (u : ℕ → Bool) (v w : Bool) (x : ℕ) (ys zs : List ℕ) → (v && u x) ≡ w → filter u ys ≡ zs
    → filter u (cond v (x ∷ ys) ys) ≡ cond w (x ∷ zs) zs
filter-cons u true w x ys zs e h = ap (λ l. cond (u x) (x ∷ l) l) h ∙ ap (λ b. cond b (x ∷ zs) zs) e
filter-cons u false w x ys zs e h = h ∙ ap (λ b. cond b (x ∷ zs) zs) e

-- a filter of a filter of a range
filter-filter : (u v w : ℕ → Bool) (a n : ℕ) → ((k : ℕ) → k < a + n → (v k && u k) ≡ w k)
    → filter u (filter v (range_with_len a n)) ≡ filter w (range_with_len a n)
filter-filter u v w a zero h = refl
filter-filter u v w a (suc n) h =
    filter-cons u (v a) (w a) a (filter v (range_with_len (a + 1) n)) (filter w (range_with_len (a + 1) n)) (h a (omega arith))
    (filter-filter u v w (a + 1) n (λ k l. h k (omega arith)))

pub flat_map-same : {X : Type 0} (f g : ℕ → List X) (a n : ℕ) → ((k : ℕ) → k < a + n → f k ≡ g k)
    → flat_map f (range_with_len a n) ≡ flat_map g (range_with_len a n)
flat_map-same f g a zero h = refl
flat_map-same f g a (suc n) h =
    ap (λ l. l ++ flat_map f (range_with_len (a + 1) n)) (h a (omega arith))
    ∙ ap (λ l. g a ++ l) (flat_map-same f g (a + 1) n (λ k l. h k (omega arith)))

-- the candidates that may touch are the pairs
pub pairs-of-candidates : (enlarged bounds : List Bounds) → AreEnlarged enlarged bounds
    → filter (pair_may_touch bounds) (pairs enlarged) ≡ pairs bounds
pairs-of-candidates enlarged bounds is =
    let t = pair_may_touch bounds in
    filter-flat_map t (pairs_of enlarged) (range_with_len 0 (length enlarged))
    ∙ flat_map-same (λ i. filter t (pairs_of enlarged i)) (pairs_of bounds) 0 (length enlarged) (λ i below.
    filter-map t i (partners_of enlarged i)
    ∙ ap (map (pair i)) (filter-filter (λ j. t (pair i j)) (is_pair enlarged i) (is_pair bounds i) 0 (length enlarged)
    (λ j less. again-is_pair enlarged bounds is i j (omega arith) (omega arith))
    ∙ ap (λ n. filter (is_pair bounds i) (range_with_len 0 n)) is.as_many))
    ∙ ap (λ n. flat_map (pairs_of bounds) (range_with_len 0 n)) is.as_many

-- one more at the end of bounds: what holds of each so far and of it holds of each
pub append-each : (P : ℕ → Bounds → Type 0) (xs : List Bounds) (y : Bounds) (i : ℕ) → length xs ≡ i → P i y
    → ((k : ℕ) → k < i → P k (bounds_at xs k)) → (k : ℕ) → k < i + 1 → P k (bounds_at (xs ++ y ∷ []) k)
append-each P xs y i count here before k below =
    ⊎_elim
    (λ (less : k < i). let e = get_or_append_left xs (y ∷ []) no_bounds k (omega (arith, less)) in subst (P k) (sym e) (before k less))
    (λ (end : i ≤ k).
    let same : k ≡ length xs = omega arith in
    let at_end : k ≡ i = omega arith in
    let e = get_or-append_seam xs y [] no_bounds in
    let Q : ℕ → Type 0 = λ m. P m (bounds_at (xs ++ y ∷ []) m) in
    let R : ℕ → Type 0 = λ m. P m y in
    subst Q (sym same) (subst (P (length xs)) (sym e) (subst R (sym count) here)))
    (cases_lt k i)

-- enlarged bounds and their pairs are sound
pub candidates_of : (enlarged bounds : List Bounds) (candidates : List Pair) → AreEnlarged enlarged bounds → All IsOrdered bounds
    → length bounds ≤ MAX_BODIES → candidates ≡ pairs enlarged → AreCandidates enlarged candidates
candidates_of enlarged bounds candidates is ordered few all =
    record { few = omega (arith, is.as_many, few); ordered = enlarged_bounds-IsOrdered enlarged bounds is ordered; pairs = all }
