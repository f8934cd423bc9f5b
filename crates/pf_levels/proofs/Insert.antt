-- A place more in one of the levels.
use Rattle.std.proofs.Common.{◌≡◌, ◌≢◌, ◌∙◌, ℕ, zero, suc, ◌+◌, ◌<◌, ◌≤◌, Some, List, [], ◌∷◌, ◌++◌, length, set, get_or, append_assoc, length-set, inl, inr, refl, sym, ap, ap₂, subst, arith}
use Rattle.std.proofs.lemmas.List.{get_or-set_same}
use Rattle.std.proofs.lemmas.List.Elements.{All-append, All-cons, All-head, All-nil, All-set, All-tail}
use Rattle.std.specs.List.{concat, range_with_len}
use Rattle.std.specs.Prelude.{All, ◌⊎◌, slice_get}
use Rattle.pf_rows.specs.declared.row.Side.{Side}
use Rattle.pf_rows.specs.declared.row.Side.TheVariants.{Dynamic, Static}
use Rattle.pf_rows.specs.Row.{AreApart, IsSide}
use Rattle.pf_levels.specs.Levels.{IsLevel, IsReordering, KeepsOrder, RowPair, ShareNoBody, ShareNoBodyAt}
use Rattle.pf_levels.proofs.Places.{All-left, All-reordering, All-right}
use Rattle.pf_levels.specs.SoFar.{AreBelow, AreLevelsUpTo, EachBelow, IsBelow, next_level, with_both, with_next, with_place}

-- ---- lists

-- the places before a new one, and those behind it
front_of : List (List ℕ) → ℕ → List ℕ
front_of [] number = []
front_of (level ∷ levels) zero = level
front_of (level ∷ levels) (suc number) = level ++ front_of levels number

back_of : List (List ℕ) → ℕ → List ℕ
back_of [] number = []
back_of (level ∷ levels) zero = concat levels
back_of (level ∷ levels) (suc number) = back_of levels number

concat_parts : (levels : List (List ℕ)) (number : ℕ) → concat levels ≡ front_of levels number ++ back_of levels number
unfolding front_of back_of
concat_parts [] number = refl
concat_parts (level ∷ levels) zero = refl
concat_parts (level ∷ levels) (suc number) =
    ap (λ rest. level ++ rest) (concat_parts levels number)
    ∙ sym (append_assoc level (front_of levels number) (back_of levels number))

concat_with : (levels : List (List ℕ)) (number k : ℕ) → number < length levels
    → concat (with_place levels number k) ≡ front_of levels number ++ k ∷ back_of levels number
unfolding front_of back_of
concat_with [] number k within = let no : ⊥ = omega (arith, within) in absurd no
concat_with (level ∷ levels) zero k within = append_assoc level (k ∷ []) (concat levels)
concat_with (level ∷ levels) (suc number) k within =
    ap (λ rest. level ++ rest) (concat_with levels number k (omega (arith, within)))
    ∙ sym (append_assoc level (front_of levels number) (k ∷ back_of levels number))

-- ---- all rows

-- an element of two lists is in the first or in the second
pub found : (front back f b : List ℕ) (p : ℕ) → front ++ back ≡ f ++ p ∷ b
    → ((m : List ℕ) × (f ≡ front ++ m) × (back ≡ m ++ p ∷ b)) ⊎ ((m : List ℕ) × (front ≡ f ++ p ∷ m) × (b ≡ m ++ back))
found [] back f b p is = inl (f, refl, is)
found (x ∷ front) back [] b p is =
    let head : x ≡ p = cc in
    let tail : b ≡ front ++ back = cc in
    inr (front, ap (λ y. y ∷ front) head, tail)
found (x ∷ front) back (y ∷ f) b p is = by (found front back f b p tail)
  where
    head : x ≡ y
    head = cc

    tail : front ++ back ≡ f ++ p ∷ b
    tail = cc

    by : ((m : List ℕ) × (f ≡ front ++ m) × (back ≡ m ++ p ∷ b)) ⊎ ((m : List ℕ) × (front ≡ f ++ p ∷ m) × (b ≡ m ++ back))
        → ((m : List ℕ) × (y ∷ f ≡ x ∷ front ++ m) × (back ≡ m ++ p ∷ b)) ⊎ ((m : List ℕ) × (x ∷ front ≡ y ∷ f ++ p ∷ m) × (b ≡ m ++ back))
    by (inl (m, before, behind)) = inl (m, ap₂ (λ z zs. z ∷ zs) (sym head) before, behind)
    by (inr (m, before, behind)) = inr (m, ap₂ (λ z zs. z ∷ zs) head before, behind)

-- a place more, anywhere
reordering_with : (places front back : List ℕ) (k : ℕ) → IsReordering places (front ++ back)
    → IsReordering (places ++ k ∷ []) (front ++ k ∷ back)
reordering_with [] front back k is = (front, back, refl, is)
reordering_with (p ∷ places) front back k (f, b, is, rest) =
    by (found front back f b p is) (λ fs bs h. reordering_with places fs bs k h)
  where
    by : ((m : List ℕ) × (f ≡ front ++ m) × (back ≡ m ++ p ∷ b)) ⊎ ((m : List ℕ) × (front ≡ f ++ p ∷ m) × (b ≡ m ++ back))
        → ((fs bs : List ℕ) → IsReordering places (fs ++ bs) → IsReordering (places ++ k ∷ []) (fs ++ k ∷ bs))
        → IsReordering (p ∷ places ++ k ∷ []) (front ++ k ∷ back)
    by (inl (m, before, behind)) again =
        let here : IsReordering places (front ++ (m ++ b)) =
        subst (IsReordering places) (ap (λ fs. fs ++ b) before ∙ append_assoc front m b) rest in (
          front ++ k ∷ m,
          b,
          ap (λ bs. front ++ k ∷ bs) behind ∙ sym (append_assoc front (k ∷ m) (p ∷ b)),
          subst (IsReordering (places ++ k ∷ [])) (sym (append_assoc front (k ∷ m) b)) (again front (m ++ b) here),
        )
    by (inr (m, before, behind)) again =
        let here : IsReordering places ((f ++ m) ++ back) =
        subst (IsReordering places) (ap (λ bs. f ++ bs) behind ∙ sym (append_assoc f m back)) rest in (
          f,
          m ++ k ∷ back,
          ap (λ fs. fs ++ k ∷ back) before ∙ append_assoc f (p ∷ m) (k ∷ back),
          subst (IsReordering (places ++ k ∷ [])) (append_assoc f m (k ∷ back)) (again (f ++ m) back here),
        )

-- the places of a range are below its end
pub range_below : (n a : ℕ) → All (λ q. q < a + n) (range_with_len a n)
range_below zero a = All-nil (λ q. q < a + 0)
range_below (suc n) a =
    All-cons (λ q. q < a + suc n) a (range_with_len (a + 1) n) (omega arith)
    (subst (λ e. All (λ q. q < e) (range_with_len (a + 1) n)) (omega arith) (range_below n (a + 1)))

pub range_more : (n a : ℕ) → range_with_len a (suc n) ≡ range_with_len a n ++ (a + n) ∷ []
range_more zero a = ap (λ x. x ∷ []) (omega arith)
range_more (suc n) a =
    ap (λ rest. a ∷ rest) (range_more n (a + 1) ∙ ap (λ x. range_with_len (a + 1) n ++ x ∷ []) (omega arith))

module _ (pairs : List RowPair) where
  -- ---- the order of each body's rows

  keeps_with : (front back : List ℕ) (k : ℕ) → KeepsOrder pairs (front ++ back) → All (λ q. q < k) front
      → All (λ q. ShareNoBodyAt pairs q k) back → KeepsOrder pairs (front ++ k ∷ back)
  keeps_with [] back k keeps below apart = (weaker back apart, keeps)
    where
      weaker : (qs : List ℕ) → All (λ q. ShareNoBodyAt pairs q k) qs → All (λ q. q < k → ShareNoBodyAt pairs q k) qs
      weaker [] all = All-nil (λ q. q < k → ShareNoBodyAt pairs q k)
      weaker (q ∷ qs) all =
          All-cons (λ x. x < k → ShareNoBodyAt pairs x k) q qs (λ less. All-head (λ x. ShareNoBodyAt pairs x k) q qs all)
          (weaker qs (All-tail (λ x. ShareNoBodyAt pairs x k) q qs all))
  keeps_with (p ∷ front) back k keeps below apart =
      let P : ℕ → Type 0 = λ x. x < p → ShareNoBodyAt pairs x p in
      let before = All-head (λ x. x < k) p front below in (
        All-append P front (k ∷ back) (All-left P front back keeps.0)
            (All-cons P k back (λ less. let no : ⊥ = omega (arith, less, before) in absurd no) (All-right P front back keeps.0)),
        keeps_with front back k keeps.1 (All-tail (λ x. x < k) p front below) apart,
      )

  -- ---- rows that are apart

  level_with : (level : List ℕ) (k : ℕ) → IsLevel pairs level → All (λ q. q < k) level → All (λ q. ShareNoBodyAt pairs q k) level
      → IsLevel pairs (level ++ k ∷ [])
  level_with [] k is below apart = (All-nil (λ q. (k ≢ q) × ShareNoBodyAt pairs k q), tt)
  level_with (p ∷ level) k is below apart =
      let P : ℕ → Type 0 = λ x. (p ≢ x) × ShareNoBodyAt pairs p x in
      let less = All-head (λ x. x < k) p level below in (
        All-append P level (k ∷ []) is.0 (All-cons P k [] (omega (arith, less), All-head (λ x. ShareNoBodyAt pairs x k) p level apart) (All-nil P)),
        level_with level k is.1 (All-tail (λ x. x < k) p level below) (All-tail (λ x. ShareNoBodyAt pairs x k) p level apart),
      )

  module _ (next : List ℕ) (k : ℕ) where
    -- rows of a level, as a row that may go to it sees them
    each_apart : (number : ℕ) (level : List ℕ) → All (AreBelow pairs next number) level
        → ((q : ℕ) → AreBelow pairs next number q → ShareNoBodyAt pairs q k) → All (λ q. ShareNoBodyAt pairs q k) level
    each_apart number [] all far = All-nil (λ q. ShareNoBodyAt pairs q k)
    each_apart number (q ∷ level) all far =
        All-cons (λ x. ShareNoBodyAt pairs x k) q level (far q (All-head (AreBelow pairs next number) q level all))
        (each_apart number level (All-tail (AreBelow pairs next number) q level all) far)

    all_apart : (number : ℕ) (levels : List (List ℕ)) → EachBelow pairs next number levels
        → ((h q : ℕ) → number ≤ h → AreBelow pairs next h q → ShareNoBodyAt pairs q k) → All (λ q. ShareNoBodyAt pairs q k) (concat levels)
    all_apart number [] below far = All-nil (λ q. ShareNoBodyAt pairs q k)
    all_apart number (level ∷ levels) below far =
        All-append (λ q. ShareNoBodyAt pairs q k) level (concat levels)
        (each_apart number level below.0 (λ q h. far number q (omega arith) h))
        (all_apart (suc number) levels below.1 (λ h q more. far h q (omega (arith, more))))

    back_apart : (number g : ℕ) (levels : List (List ℕ)) → EachBelow pairs next number levels
        → ((h q : ℕ) → number + g ≤ h → AreBelow pairs next h q → ShareNoBodyAt pairs q k) → All (λ q. ShareNoBodyAt pairs q k) (back_of levels g)
    unfolding back_of
    back_apart number g [] below far = All-nil (λ q. ShareNoBodyAt pairs q k)
    back_apart number zero (level ∷ levels) below far =
        all_apart (suc number) levels below.1 (λ h q more. far h q (omega (arith, more)))
    back_apart number (suc g) (level ∷ levels) below far =
        back_apart (suc number) g levels below.1 (λ h q more. far h q (omega (arith, more)))

    pub levels_with : (number g : ℕ) (levels : List (List ℕ)) → All (IsLevel pairs) levels → EachBelow pairs next number levels
        → All (λ q. q < k) (concat levels)
        → ((h q : ℕ) → number + g ≤ h → AreBelow pairs next h q → ShareNoBodyAt pairs q k) → All (IsLevel pairs) (with_place levels g k)
    levels_with number g [] apart below less far = All-nil (IsLevel pairs)
    levels_with number zero (level ∷ levels) apart below less far =
        All-cons (IsLevel pairs) (level ++ k ∷ []) levels
        (level_with level k (All-head (IsLevel pairs) level levels apart) (All-left (λ q. q < k) level (concat levels) less)
        (each_apart number level below.0 (λ q h. far number q (omega arith) h)))
        (All-tail (IsLevel pairs) level levels apart)
    levels_with number (suc g) (level ∷ levels) apart below less far =
        All-cons (IsLevel pairs) level (with_place levels g k) (All-head (IsLevel pairs) level levels apart)
        (levels_with (suc number) g levels (All-tail (IsLevel pairs) level levels apart) below.1
        (All-right (λ q. q < k) level (concat levels) less) (λ h q more. far h q (omega (arith, more))))

    -- a row that shares a body with the next row lies in a level before the next row's
    pub far_apart : (g : ℕ) (pair : RowPair) → slice_get pairs k ≡ Some pair → next_level next pair.first ≤ g → next_level next pair.second ≤ g
        → (h q : ℕ) → g ≤ h → AreBelow pairs next h q → ShareNoBodyAt pairs q k
    far_apart g pair at first second h q above below a b at_q at_k =
        let same : b ≡ pair = cc in
        let sides = below a at_q in
        subst (ShareNoBody a) (sym same) (record {
          firsts = other a.first pair.first sides.0 first;
          first_second = other a.first pair.second sides.0 second;
          second_first = other a.second pair.first sides.1 first;
          seconds = other a.second pair.second sides.1 second;
        })
      where
        other : (s t : Side) → IsBelow next h s → next_level next t ≤ g → AreApart s t
        other Static t low top = other_static t
          where
            other_static : (u : Side) → AreApart Static u
            other_static Static = tt
            other_static (Dynamic n) = tt
        other (Dynamic m) Static low top = tt
        other (Dynamic m) (Dynamic n) low top = λ is.
            let here : h < get_or next n 0 = subst (λ x. h < get_or next x 0) is low in
            let no : ⊥ = omega (arith, here, top, above) in absurd no

-- ---- the next levels of bodies

-- where a number becomes greater, none becomes less
raised : (next : List ℕ) (n m v : ℕ) → get_or next n 0 ≤ v → get_or next m 0 ≤ get_or (set next n v) m 0
raised [] n m v h = omega arith
raised (x ∷ next) zero zero v h = h
raised (x ∷ next) zero (suc m) v h = omega arith
raised (x ∷ next) (suc n) zero v h = omega arith
raised (x ∷ next) (suc n) (suc m) v h = raised next n m v h

-- and none is above it that was not
topped : (next : List ℕ) (n m v : ℕ) → get_or next m 0 ≤ v → get_or (set next n v) m 0 ≤ v
topped [] n m v h = h
topped (x ∷ next) zero zero v h = omega arith
topped (x ∷ next) zero (suc m) v h = h
topped (x ∷ next) (suc n) zero v h = h
topped (x ∷ next) (suc n) (suc m) v h = topped next n m v h

side_raised : (next : List ℕ) (side : Side) (v m : ℕ) → next_level next side ≤ v → get_or next m 0 ≤ get_or (with_next next side v) m 0
side_raised next Static v m h = omega arith
side_raised next (Dynamic n) v m h = raised next n m v h

side_topped : (next : List ℕ) (side other : Side) (v : ℕ) → next_level next other ≤ v → next_level (with_next next side v) other ≤ v
side_topped next Static other v h = h
side_topped next (Dynamic n) Static v h = h
side_topped next (Dynamic n) (Dynamic m) v h = topped next n m v h

pub next_length : (next : List ℕ) (side : Side) (v : ℕ) → length (with_next next side v) ≡ length next
next_length next Static v = refl
next_length next (Dynamic n) v = length-set next n v

-- the body on a side is below its next level
own_below : (next : List ℕ) (side : Side) (g : ℕ) → IsSide (length next) side → IsBelow (with_next next side (suc g)) g side
own_below next Static g within = tt
own_below next (Dynamic n) g within = let same = get_or-set_same next n (suc g) 0 within in omega (arith, same)

still_below : (next then : List ℕ) → ((m : ℕ) → get_or next m 0 ≤ get_or then m 0) → (g : ℕ) (side : Side) → IsBelow next g side → IsBelow then g side
still_below next then more g Static below = tt
still_below next then more g (Dynamic n) below = let up = more n in omega (arith, up, below)

All-next : (most : ℕ) (next : List ℕ) (side : Side) (v : ℕ) → v ≤ most → All (λ x. x ≤ most) next
    → All (λ x. x ≤ most) (with_next next side v)
All-next most next Static v h all = all
All-next most next (Dynamic n) v h all = All-set (λ x. x ≤ most) next n v h all

pub with_length : (levels : List (List ℕ)) (g k : ℕ) → length (with_place levels g k) ≡ length levels
with_length [] g k = refl
with_length (level ∷ levels) zero k = refl
with_length (level ∷ levels) (suc g) k = ap suc (with_length levels g k)

module _ (pairs : List RowPair) where
  each_still : (next then : List ℕ) → ((m : ℕ) → get_or next m 0 ≤ get_or then m 0) → (number : ℕ) (levels : List (List ℕ))
      → EachBelow pairs next number levels → EachBelow pairs then number levels
  each_still next then more number [] below = tt
  each_still next then more number (level ∷ levels) below =
      (all level below.0, each_still next then more (suc number) levels below.1)
    where
      all : (ps : List ℕ) → All (AreBelow pairs next number) ps → All (AreBelow pairs then number) ps
      all [] h = All-nil (AreBelow pairs then number)
      all (p ∷ ps) h =
          All-cons (AreBelow pairs then number) p ps
          (λ pair at. let sides = All-head (AreBelow pairs next number) p ps h pair at in
          (still_below next then more number pair.first sides.0, still_below next then more number pair.second sides.1))
          (all ps (All-tail (AreBelow pairs next number) p ps h))

  each_with : (next : List ℕ) (k number g : ℕ) (levels : List (List ℕ)) → EachBelow pairs next number levels
      → AreBelow pairs next (number + g) k → EachBelow pairs next number (with_place levels g k)
  each_with next k number g [] below here = tt
  each_with next k number zero (level ∷ levels) below here =
      let now : AreBelow pairs next number k = subst (λ n. AreBelow pairs next n k) (omega arith) here in
      (All-append (AreBelow pairs next number) level (k ∷ []) below.0 (All-cons (AreBelow pairs next number) k [] now (All-nil (AreBelow pairs next number))), below.1)
  each_with next k number (suc g) (level ∷ levels) below here =
      (below.0, each_with next k (suc number) g levels below.1 (subst (λ n. AreBelow pairs next n k) (omega arith) here))

  -- a row more, in a level that both its bodies may go to
  pub row_more : (next : List ℕ) (k g : ℕ) (levels : List (List ℕ)) (pair : RowPair) → AreLevelsUpTo pairs k next levels
      → slice_get pairs k ≡ Some pair → IsSide (length next) pair.first → IsSide (length next) pair.second
      → next_level next pair.first ≤ g → next_level next pair.second ≤ g → g < length levels
      → AreLevelsUpTo pairs (suc k) (with_both next pair (suc g)) (with_place levels g k)
  row_more next k g levels pair so_far at one two first second within = record {
    all =
        subst (λ places. IsReordering places (concat (with_place levels g k))) (sym (range_more k 0))
        (subst (λ e. IsReordering (range_with_len 0 k ++ e ∷ []) (concat (with_place levels g k))) (sym from_zero)
        (subst (IsReordering (range_with_len 0 k ++ k ∷ [])) (sym with_k) (reordering_with (range_with_len 0 k) front back k parts_all)));
    keeps = subst (KeepsOrder pairs) (sym with_k) (keeps_with pairs front back k parts_keep (All-left (λ q. q < k) front back parts_less) far);
    apart = levels_with pairs next k 0 g levels so_far.apart so_far.below less (λ h q more. far_apart pairs next k g pair at first second h q (omega (arith, more)));
    below =
        each_with then k 0 g levels (each_still next then up 0 levels so_far.below)
        (subst (λ n. AreBelow pairs then n k) (sym plus_zero) own);
    within =
        subst (λ n. All (λ x. x ≤ n) then) (sym (with_length levels g k))
        (All-next (length levels) half pair.second (suc g) (omega (arith, within))
        (All-next (length levels) next pair.first (suc g) (omega (arith, within)) so_far.within));
  }
    where
      front : List ℕ
      front = front_of levels g

      back : List ℕ
      back = back_of levels g

      plus_zero : 0 + g ≡ g
      plus_zero = omega arith

      from_zero : 0 + k ≡ k
      from_zero = omega arith

      with_k : concat (with_place levels g k) ≡ front ++ k ∷ back
      with_k = concat_with levels g k within

      less : All (λ q. q < k) (concat levels)
      less = All-reordering (λ q. q < k) (range_with_len 0 k) (concat levels) so_far.all
          (subst (λ e. All (λ q. q < e) (range_with_len 0 k)) from_zero (range_below k 0))

      parts_all : IsReordering (range_with_len 0 k) (front ++ back)
      parts_all = subst (IsReordering (range_with_len 0 k)) (concat_parts levels g) so_far.all

      parts_keep : KeepsOrder pairs (front ++ back)
      parts_keep = subst (KeepsOrder pairs) (concat_parts levels g) so_far.keeps

      parts_less : All (λ q. q < k) (front ++ back)
      parts_less = subst (All (λ q. q < k)) (concat_parts levels g) less

      far : All (λ q. ShareNoBodyAt pairs q k) back
      far = back_apart pairs next k 0 g levels so_far.below (λ h q more. far_apart pairs next k g pair at first second h q (omega (arith, more)))

      half : List ℕ
      half = with_next next pair.first (suc g)

      then : List ℕ
      then = with_both next pair (suc g)

      up_half : (m : ℕ) → get_or half m 0 ≤ get_or then m 0
      up_half m = side_raised half pair.second (suc g) m (side_topped next pair.first pair.second (suc g) (omega (arith, second)))

      up : (m : ℕ) → get_or next m 0 ≤ get_or then m 0
      up m = let a = side_raised next pair.first (suc g) m (omega (arith, first)) in let b = up_half m in omega (arith, a, b)

      own : AreBelow pairs then g k
      own c at_k =
          let same : pair ≡ c = cc in
          subst (λ (x : RowPair). IsBelow then g x.first × IsBelow then g x.second) same (
            still_below half then up_half g pair.first (own_below next pair.first g one),
            own_below half pair.second g (subst (λ n. IsSide n pair.second) (sym (next_length next pair.first (suc g))) two),
          )
