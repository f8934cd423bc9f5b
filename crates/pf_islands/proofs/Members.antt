-- Chosen numbers of a range: the members of groups, and the labels of those that are simulated.
use Rattle.std.proofs.Common.{◌≡◌, ◌≢◌, ◌∙◌, ℕ, zero, suc, ◌+◌, ◌<◌, ◌≤◌, ◌==◌, Bool, true, false, cond, List, [], ◌∷◌, ◌++◌, Some, length, filter, map, set, refl, sym, ap, ap₂, arith, slice_get}
use Rattle.std.proofs.lemmas.Bool.{ne_eqb, true≢false}
use Rattle.std.proofs.lemmas.Bool.Decides.{Decides-eqb}
use Rattle.std.proofs.lemmas.List.FromFn.{length-range_with_len}
use Rattle.std.proofs.lemmas.List.Sums.{count_by-le-length, length-filter}
use Rattle.std.specs.List.{range_with_len}
use Rattle.std.specs.Prelude.{◌&&◌, ◌||◌, if◌then◌else◌}
use Rattle.pf_manifold.specs.Key.{IsRising}
use Rattle.pf_manifold.proofs.Rising.{rising-weaken}
use Rattle.pf_islands.specs.Island.{has_number, place_of}

-- ---- chosen elements

-- a chosen number is one of the list, and passes
pub has_filter : (p : ℕ → Bool) (xs : List ℕ) (i : ℕ)
    → has_number (filter p xs) i ≡ (has_number xs i && p i)
has_filter p [] i = refl
has_filter p (x ∷ xs) i = by (p x) refl (x == i) refl (has_filter p xs i)
  where
    by : (c : Bool) → p x ≡ c → (e : Bool) → (x == i) ≡ e
        → has_number (filter p xs) i ≡ (has_number xs i && p i)
        → has_number (cond c (x ∷ filter p xs) (filter p xs)) i ≡ ((e || has_number xs i) && p i)
    by true chosen true same rest =
        ap (λ t. t || has_number (filter p xs) i) same
        ∙ sym (ap p (sym ((Decides-eqb x i).0 same)) ∙ chosen)
    by true chosen false other rest = ap (λ t. t || has_number (filter p xs) i) other ∙ rest
    by false chosen true same rest =
        let not_chosen : p i ≡ false = ap p (sym ((Decides-eqb x i).0 same)) ∙ chosen in
        rest ∙ ap (λ t. has_number xs i && t) not_chosen ∙ and_false (has_number xs i)
        ∙ sym not_chosen
      where
        and_false : (t : Bool) → (t && false) ≡ false
        and_false true = refl
        and_false false = refl
    by false chosen false other rest = rest

-- chosen numbers still rise
pub filter_rises : (p : ℕ → Bool) (least : ℕ) (xs : List ℕ) → IsRising least xs → IsRising least (filter p xs)
filter_rises p least [] h = tt
filter_rises p least (x ∷ xs) h = by (p x) (filter_rises p (suc x) xs h.1)
  where
    by : (c : Bool) → IsRising (suc x) (filter p xs) → IsRising least (cond c (x ∷ filter p xs) (filter p xs))
    by true rest = (h.0, rest)
    by false rest = rising-weaken least (suc x) (filter p xs) (omega (arith, h.0)) rest

-- ---- a range

-- it has its numbers
pub has_range : (start count i : ℕ) → start ≤ i → i < start + count
    → has_number (range_with_len start count) i ≡ true
has_range start zero i low high = absurd (omega (arith, low, high))
has_range start (suc count) i low high = by (start == i) refl (λ other. has_range (start + 1) count i other (omega (arith, high)))
  where
    by : (e : Bool) → (start == i) ≡ e
        → (start + 1 ≤ i → has_number (range_with_len (start + 1) count) i ≡ true)
        → (e || has_number (range_with_len (start + 1) count) i) ≡ true
    by true e rest = refl
    by false e rest =
        let apart : start ≢ i = λ same. true≢false (sym ((Decides-eqb start i).1 same) ∙ e) in
        rest (omega (arith, low, apart))

pub range_rises : (start count : ℕ) → IsRising start (range_with_len start count)
range_rises start zero = tt
range_rises start (suc count) =
    (omega arith, rising-weaken (suc start) (start + 1) (range_with_len (start + 1) count) (omega arith) (range_rises (start + 1) count))

-- a chosen number stands behind as many as are chosen of those before it
pub chosen_at : (p : ℕ → Bool) (start count k : ℕ) → k < count → p (start + k) ≡ true
    → slice_get (filter p (range_with_len start count)) (length (filter p (range_with_len start k))) ≡ Some (start + k)
chosen_at p start zero k within chosen = absurd (omega (arith, within))
chosen_at p start (suc count) zero within chosen =
    let here : start + 0 ≡ start = omega arith in
    ap (λ e. slice_get (cond e (start ∷ filter p (range_with_len (start + 1) count)) (filter p (range_with_len (start + 1) count))) 0)
    (sym (ap p here) ∙ chosen)
    ∙ ap Some (sym here)
chosen_at p start (suc count) (suc k) within chosen =
    by (p start) (chosen_at p (start + 1) count k (omega (arith, within)) (ap p next ∙ chosen))
  where
    next : start + 1 + k ≡ start + suc k
    next = omega arith

    by : (e : Bool)
        → slice_get (filter p (range_with_len (start + 1) count)) (length (filter p (range_with_len (start + 1) k))) ≡ Some (start + 1 + k)
        → slice_get (cond e (start ∷ filter p (range_with_len (start + 1) count)) (filter p (range_with_len (start + 1) count)))
        (length (cond e (start ∷ filter p (range_with_len (start + 1) k)) (filter p (range_with_len (start + 1) k))))
        ≡ Some (start + suc k)
    by true rest = rest ∙ ap Some next
    by false rest = rest ∙ ap Some next

-- which is its place among them
pub chosen_place : (p : ℕ → Bool) (start count k : ℕ) → k < count → p (start + k) ≡ true
    → place_of (filter p (range_with_len start count)) (start + k) ≡ length (filter p (range_with_len start k))
chosen_place p start zero k within chosen = absurd (omega (arith, within))
chosen_place p start (suc count) zero within chosen =
    let here : start + 0 ≡ start = omega arith in
    ap (λ e. place_of (cond e (start ∷ filter p (range_with_len (start + 1) count)) (filter p (range_with_len (start + 1) count))) (start + 0))
    (sym (ap p here) ∙ chosen)
    ∙ ap (λ e. if e then 0 else suc (place_of (filter p (range_with_len (start + 1) count)) (start + 0)))
    ((Decides-eqb start (start + 0)).1 (sym here))
chosen_place p start (suc count) (suc k) within chosen =
    by (p start) (chosen_place p (start + 1) count k (omega (arith, within)) (ap p next ∙ chosen))
  where
    next : start + 1 + k ≡ start + suc k
    next = omega arith

    rest_of : ℕ → List ℕ
    rest_of n = filter p (range_with_len (start + 1) n)

    by : (e : Bool) → place_of (rest_of count) (start + 1 + k) ≡ length (rest_of k)
        → place_of (cond e (start ∷ rest_of count) (rest_of count)) (start + suc k)
        ≡ length (cond e (start ∷ rest_of k) (rest_of k))
    by true rest =
        ap (λ t. if t then 0 else suc (place_of (rest_of count) (start + suc k))) (ne_eqb start (start + suc k) (omega arith))
        ∙ ap suc (ap (place_of (rest_of count)) (sym next) ∙ rest)
    by false rest = ap (place_of (rest_of count)) (sym next) ∙ rest

-- one number more at the end
pub range_more : (p : ℕ → Bool) (start count : ℕ)
    → filter p (range_with_len start (count + 1))
    ≡ filter p (range_with_len start count) ++ cond (p (start + count)) ((start + count) ∷ []) []
range_more p start zero =
    let here : start + 0 ≡ start = omega arith in
    let one : 0 + 1 ≡ 1 = omega arith in
    ap (λ n. filter p (range_with_len start n)) one
    ∙ ap (λ m. cond (p m) (m ∷ []) []) (sym here)
range_more p start (suc count) =
    ap (λ n. filter p (range_with_len start n)) more
    ∙ by (p start) (range_more p (start + 1) count ∙ ap (λ m. filter p (range_with_len (start + 1) count) ++ cond (p m) (m ∷ []) []) next)
  where
    more : suc count + 1 ≡ suc (count + 1)
    more = omega arith

    next : start + 1 + count ≡ start + suc count
    next = omega arith

    last : List ℕ
    last = cond (p (start + suc count)) ((start + suc count) ∷ []) []

    by : (e : Bool)
        → filter p (range_with_len (start + 1) (count + 1)) ≡ filter p (range_with_len (start + 1) count) ++ last
        → cond e (start ∷ filter p (range_with_len (start + 1) (count + 1))) (filter p (range_with_len (start + 1) (count + 1)))
        ≡ cond e (start ∷ filter p (range_with_len (start + 1) count)) (filter p (range_with_len (start + 1) count)) ++ last
    by true rest = ap (λ ns. start ∷ ns) rest
    by false rest = rest

-- at most as many are chosen as there are
pub few_chosen : (p : ℕ → Bool) (count : ℕ) → length (filter p (range_with_len 0 count)) ≤ count
few_chosen p count =
    let many = length-filter p (range_with_len 0 count) in
    let few = count_by-le-length p (range_with_len 0 count) in
    let long = length-range_with_len 0 count in
    omega (arith, many, few, long)

-- ---- mapped numbers

-- functions that differ at one number alone, which stands at a place
pub set_mapped : {X : Type 0} (f g : ℕ → X) (least : ℕ) (numbers : List ℕ) (place number : ℕ) (x : X)
    → IsRising least numbers → slice_get numbers place ≡ Some number → x ≡ g number
    → ((m : ℕ) → m ≢ number → f m ≡ g m) → set (map f numbers) place x ≡ map g numbers
set_mapped f g least [] place number x rising here is same = absurd cc
set_mapped f g least (n ∷ numbers) zero number x rising here is same =
    let at : n ≡ number = cc in
    ap₂ (λ y ys. y ∷ ys) (is ∙ ap g (sym at)) (above (suc n) numbers rising.1 (omega (arith, at)))
  where
    above : (low : ℕ) (ns : List ℕ) → IsRising low ns → number < low → map f ns ≡ map g ns
    above low [] h below = refl
    above low (m ∷ ns) h below =
        ap₂ (λ y ys. y ∷ ys) (same m (λ e. omega (arith, e, h.0, below))) (above (suc m) ns h.1 (omega (arith, h.0, below)))
set_mapped f g least (n ∷ numbers) (suc place) number x rising here is same =
    ap₂ (λ y ys. y ∷ ys) (same n (λ e. omega (arith, e, higher (suc n) numbers place rising.1 here)))
    (set_mapped f g (suc n) numbers place number x rising.1 here is same)
  where
    higher : (low : ℕ) (ns : List ℕ) (i : ℕ) → IsRising low ns → slice_get ns i ≡ Some number → low ≤ number
    higher low [] i h there = absurd cc
    higher low (m ∷ ns) zero h there = let e : m ≡ number = cc in omega (arith, e, h.0)
    higher low (m ∷ ns) (suc i) h there = let up = higher (suc m) ns i h.1 there in omega (arith, up, h.0)
