-- Walks along the slots that pass a test: those between two of them are passed over.
use Rattle.std.proofs.Common.{◌≡◌, ◌≤◌, ◌<◌, ◌+◌, ◌∷◌, ◌++◌, [], ℕ, zero, suc, Bool, true, false, List, length, drop, get_or, ap, sym, subst, ◌∙◌, refl, arith, append-nil}
use Rattle.std.proofs.lemmas.List.{append_assoc, drop_more, length-append}
use Rattle.std.proofs.lemmas.List.Concat.{flat_map-append}
use Rattle.std.proofs.lemmas.List.Elements.{All-cons, All-head, All-nil, All-tail}
use Rattle.std.proofs.Math.Seq.{get_or-append_seam}
use Rattle.std.specs.List.{flat_map}
use Rattle.std.specs.Prelude.{All, if◌then◌else◌}
use Rattle.pf_cache.specs.declared.slot.SlotPlace.{SlotPlace}
use Rattle.pf_cache.specs.Slots.{Slot, slot_places, slot_touches}

-- ---- the next of some slots that passes

-- what stands before and after it
pub record Next (test : Slot → Bool) (slots : List Slot) (place skipped : ℕ) (l : SlotPlace) (places : List SlotPlace) : Type 0 where
  pub before : List Slot
  pub slot : Slot
  pub behind : List Slot
  pub whole : slots ≡ before ++ slot ∷ behind
  pub place_is : l.place ≡ place + length before
  pub skipped_is : l.skipped ≡ skipped + length (flat_map slot_touches before)
  pub others : All (λ s. test s ≡ false) before
  pub passes : test slot ≡ true
  pub left : places ≡ slot_places test (l.place + 1) 0 behind

pub next : (test : Slot → Bool) (slots : List Slot) (place skipped : ℕ) (l : SlotPlace) (places : List SlotPlace)
    → l ∷ places ≡ slot_places test place skipped slots → Next test slots place skipped l places
next test [] place skipped l places e = absurd (omega (arith, ap length e))
next test (s ∷ slots) place skipped l places e =
    by (test s) refl e (λ h. next test slots (place + 1) (skipped + length (slot_touches s)) l places h)
  where
    by : (b : Bool) → test s ≡ b
        → l ∷ places ≡ (if b then record { place = place; skipped = skipped } ∷ slot_places test (place + 1) 0 slots
        else slot_places test (place + 1) (skipped + length (slot_touches s)) slots)
        → (l ∷ places ≡ slot_places test (place + 1) (skipped + length (slot_touches s)) slots
        → Next test slots (place + 1) (skipped + length (slot_touches s)) l places)
        → Next test (s ∷ slots) place skipped l places
    by true h e later =
        let same : l ≡ record { place = place; skipped = skipped } = cc in
        let rest : places ≡ slot_places test (place + 1) 0 slots = cc in
        record {
          before = [];
          slot = s;
          behind = slots;
          whole = refl;
          place_is = let p = ap (λ (x : SlotPlace). x.place) same in omega (arith, p);
          skipped_is = let p = ap (λ (x : SlotPlace). x.skipped) same in omega (arith, p);
          others = All-nil (λ x. test x ≡ false);
          passes = h;
          left = rest ∙ ap (λ n. slot_places test (n + 1) 0 slots) (sym (ap (λ (x : SlotPlace). x.place) same));
        }
    by false h e later =
        let n = later e in
        record {
          before = s ∷ n.before;
          slot = n.slot;
          behind = n.behind;
          whole = ap (λ l. s ∷ l) n.whole;
          place_is = let p = n.place_is in omega (arith, p);
          skipped_is =
              let p = n.skipped_is in
              let long = length-append (slot_touches s) (flat_map slot_touches n.before) in
              omega (arith, p, long);
          others = All-cons (λ x. test x ≡ false) s n.before h n.others;
          passes = n.passes;
          left = n.left;
        }

-- where none is left, none of the slots passes
pub none_left : (test : Slot → Bool) (slots : List Slot) (place skipped : ℕ) → [] ≡ slot_places test place skipped slots
    → All (λ s. test s ≡ false) slots
none_left test [] place skipped e = All-nil (λ x. test x ≡ false)
none_left test (s ∷ slots) place skipped e =
    by (test s) refl e (λ h. none_left test slots (place + 1) (skipped + length (slot_touches s)) h)
  where
    by : (b : Bool) → test s ≡ b
        → [] ≡ (if b then record { place = place; skipped = skipped } ∷ slot_places test (place + 1) 0 slots
        else slot_places test (place + 1) (skipped + length (slot_touches s)) slots)
        → ([] ≡ slot_places test (place + 1) (skipped + length (slot_touches s)) slots → All (λ x. test x ≡ false) slots)
        → All (λ x. test x ≡ false) (s ∷ slots)
    by true h e later = absurd (omega (arith, ap length e))
    by false h e later = All-cons (λ x. test x ≡ false) s slots h (later e)

-- ---- a walk

-- the slots before the next that passes, and those from there on
pub record Walked (test : Slot → Bool) (places : List SlotPlace) (slots : List Slot) (i : ℕ) : Type 0 where
  pub front : List Slot
  pub rest : List Slot
  pub whole : slots ≡ front ++ rest
  pub left : drop i places ≡ slot_places test (length front) 0 rest

-- at the start
abbrev pub started : (test : Slot → Bool) (places : List SlotPlace) (slots : List Slot) → places ≡ slot_places test 0 0 slots → Walked test places slots 0
started watched places slots are = record { front = []; rest = slots; whole = refl; left = are }

-- the next slot of a walk, at the place l; those between fail the test
pub record AtNext (test : Slot → Bool) (places : List SlotPlace) (slots : List Slot) (i : ℕ) (front rest : List Slot) (l : SlotPlace) : Type 0 where
  pub others : List Slot
  pub slot : Slot
  pub behind : List Slot
  pub rest_is : rest ≡ others ++ slot ∷ behind
  pub whole : slots ≡ (front ++ others) ++ slot ∷ behind
  pub place_is : l.place ≡ length (front ++ others)
  pub skipped_is : l.skipped ≡ length (flat_map slot_touches others)
  pub fail : All (λ s. test s ≡ false) others
  pub passes : test slot ≡ true
  pub left : drop (i + 1) places ≡ slot_places test (l.place + 1) 0 behind

module _ (test : Slot → Bool) (places : List SlotPlace) (slots : List Slot) (i : ℕ) (w : Walked test places slots i) where
  -- where the places are read from a list
  pub at_next : (read : List SlotPlace) (d : SlotPlace) → read ≡ places → i < length read → AtNext test places slots i w.front w.rest (get_or read i d)
  at_next read d value below =
      let l = get_or read i d in
      let n = next test w.rest (length w.front) 0 l (drop (i + 1) places)
      (ap (λ r. l ∷ drop (i + 1) r) (sym value) ∙ sym (drop_more read i d below) ∙ ap (drop i) value ∙ w.left) in
      record {
        others = n.before;
        slot = n.slot;
        behind = n.behind;
        rest_is = n.whole;
        whole = w.whole ∙ ap (λ l. w.front ++ l) n.whole ∙ sym (append_assoc w.front n.before (n.slot ∷ n.behind));
        place_is =
            let at = n.place_is in
            let long = length-append w.front n.before in
            omega (arith, at, long);
        skipped_is = let p = n.skipped_is in omega (arith, p);
        fail = n.others;
        passes = n.passes;
        left = n.left;
      }

  module _ (l : SlotPlace) (at : AtNext test places slots i w.front w.rest l) where
    abbrev pub walked_next : Walked test places slots (i + 1)
    walked_next = record {
      front = (w.front ++ at.others) ++ at.slot ∷ [];
      rest = at.behind;
      whole = at.whole ∙ sym (append_assoc (w.front ++ at.others) (at.slot ∷ []) at.behind);
      left =
          let long = length-append (w.front ++ at.others) (at.slot ∷ []) in
          let place_is = at.place_is in
          let end : l.place + 1 ≡ length ((w.front ++ at.others) ++ at.slot ∷ []) = omega (arith, place_is, long) in
          at.left ∙ ap (λ n. slot_places test n 0 at.behind) end;
    }

    -- the slot there
    pub slot_next : (e : Slot) → get_or slots l.place e ≡ at.slot
    slot_next e = (λ k. get_or (at.whole k) (at.place_is k) e) ∙ get_or-append_seam (w.front ++ at.others) at.slot at.behind e

    pub within_next : l.place < length slots
    within_next =
        let place_is = at.place_is in
        let whole = ap length at.whole in
        let long = length-append (w.front ++ at.others) (at.slot ∷ at.behind) in
        omega (arith, place_is, whole, long)

  -- none is left in the end
  pub others_left : (read : List SlotPlace) → read ≡ places → length read ≤ i → All (λ s. test s ≡ false) w.rest
  others_left read value over =
      none_left test w.rest (length w.front) 0 (sym (none_behind places i (subst (λ r. length r ≤ i) value over)) ∙ w.left)
    where
      none_behind : (xs : List SlotPlace) (n : ℕ) → length xs ≤ n → drop n xs ≡ []
      none_behind [] zero h = refl
      none_behind [] (suc n) h = refl
      none_behind (x ∷ xs) zero h = absurd (omega (arith, h))
      none_behind (x ∷ xs) (suc n) h = none_behind xs n (omega (arith, h))

-- what is read where there is no place
abbrev pub no_place : SlotPlace
no_place = record { place = 0; skipped = 0 }

-- ---- a list of places that grows

module _ (test : Slot → Bool) where
  -- how many contact points stand behind the last slot that passes
  abbrev pub skipped_behind : ℕ → List Slot → ℕ
  skipped_behind skipped [] = skipped
  skipped_behind skipped (s ∷ slots) =
      if test s then skipped_behind 0 slots else skipped_behind (skipped + length (slot_touches s)) slots

  places_append : (place skipped : ℕ) (front rest : List Slot) → slot_places test place skipped (front ++ rest)
      ≡ slot_places test place skipped front ++ slot_places test (place + length front) (skipped_behind skipped front) rest
  places_append place skipped [] rest = ap (λ n. slot_places test n skipped rest) (omega arith)
  places_append place skipped (s ∷ front) rest =
      by (test s) (places_append (place + 1) 0 front rest) (places_append (place + 1) (skipped + length (slot_touches s)) front rest)
    where
      end : (place + 1) + length front ≡ place + length (s ∷ front)
      end = omega arith

      by : (b : Bool)
          → slot_places test (place + 1) 0 (front ++ rest) ≡ slot_places test (place + 1) 0 front ++ slot_places test ((place + 1) + length front) (skipped_behind 0 front) rest
          → slot_places test (place + 1) (skipped + length (slot_touches s)) (front ++ rest)
          ≡ slot_places test (place + 1) (skipped + length (slot_touches s)) front
          ++ slot_places test ((place + 1) + length front) (skipped_behind (skipped + length (slot_touches s)) front) rest
          → (if b then record { place = place; skipped = skipped } ∷ slot_places test (place + 1) 0 (front ++ rest)
          else slot_places test (place + 1) (skipped + length (slot_touches s)) (front ++ rest))
          ≡ (if b then record { place = place; skipped = skipped } ∷ slot_places test (place + 1) 0 front
          else slot_places test (place + 1) (skipped + length (slot_touches s)) front)
          ++ slot_places test (place + length (s ∷ front)) (if b then skipped_behind 0 front else skipped_behind (skipped + length (slot_touches s)) front) rest
      by true here there = ap (λ l. record { place = place; skipped = skipped } ∷ l) (here ∙ ap (λ n. slot_places test (place + 1) 0 front ++ slot_places test n (skipped_behind 0 front) rest) end)
      by false here there = there ∙ ap (λ n. slot_places test (place + 1) (skipped + length (slot_touches s)) front ++ slot_places test n (skipped_behind (skipped + length (slot_touches s)) front) rest) end

  skipped_append : (skipped : ℕ) (front rest : List Slot) → skipped_behind skipped (front ++ rest) ≡ skipped_behind (skipped_behind skipped front) rest
  skipped_append skipped [] rest = refl
  skipped_append skipped (s ∷ front) rest = by (test s) (skipped_append 0 front rest) (skipped_append (skipped + length (slot_touches s)) front rest)
    where
      by : (b : Bool) → skipped_behind 0 (front ++ rest) ≡ skipped_behind (skipped_behind 0 front) rest
          → skipped_behind (skipped + length (slot_touches s)) (front ++ rest) ≡ skipped_behind (skipped_behind (skipped + length (slot_touches s)) front) rest
          → (if b then skipped_behind 0 (front ++ rest) else skipped_behind (skipped + length (slot_touches s)) (front ++ rest))
          ≡ skipped_behind (if b then skipped_behind 0 front else skipped_behind (skipped + length (slot_touches s)) front) rest
      by true here there = here
      by false here there = there

  skipped_over : (skipped : ℕ) (others : List Slot) → All (λ s. test s ≡ false) others
      → skipped_behind skipped others ≡ skipped + length (flat_map slot_touches others)
  skipped_over skipped [] fail = omega arith
  skipped_over skipped (s ∷ others) fail =
      let long = length-append (slot_touches s) (flat_map slot_touches others) in
      let later = skipped_over (skipped + length (slot_touches s)) others (All-tail (λ x. test x ≡ false) s others fail) in
      rw (All-head (λ x. test x ≡ false) s others fail) (omega (arith, later, long))

  -- they are among those of all slots
  pub skipped_within : (skipped : ℕ) (slots : List Slot) → skipped_behind skipped slots ≤ skipped + length (flat_map slot_touches slots)
  skipped_within skipped [] = omega arith
  skipped_within skipped (s ∷ slots) =
      by (test s) (skipped_within 0 slots) (skipped_within (skipped + length (slot_touches s)) slots) (length-append (slot_touches s) (flat_map slot_touches slots))
    where
      by : (b : Bool) → skipped_behind 0 slots ≤ 0 + length (flat_map slot_touches slots)
          → skipped_behind (skipped + length (slot_touches s)) slots ≤ (skipped + length (slot_touches s)) + length (flat_map slot_touches slots)
          → length (slot_touches s ++ flat_map slot_touches slots) ≡ length (slot_touches s) + length (flat_map slot_touches slots)
          → (if b then skipped_behind 0 slots else skipped_behind (skipped + length (slot_touches s)) slots)
          ≤ skipped + length (slot_touches s ++ flat_map slot_touches slots)
      by true here there long = omega (arith, here, long)
      by false here there long = omega (arith, there, long)

  none_passes : (place skipped : ℕ) (others : List Slot) → All (λ s. test s ≡ false) others → slot_places test place skipped others ≡ []
  none_passes place skipped [] fail = refl
  none_passes place skipped (s ∷ others) fail =
      rw (All-head (λ x. test x ≡ false) s others fail)
      (none_passes (place + 1) (skipped + length (slot_touches s)) others (All-tail (λ x. test x ≡ false) s others fail))

  -- slots that do not pass add no place
  pub same_places : (front others : List Slot) → All (λ s. test s ≡ false) others
      → slot_places test 0 0 (front ++ others) ≡ slot_places test 0 0 front
  same_places front others fail =
      places_append 0 0 front others
      ∙ ap (λ l. slot_places test 0 0 front ++ l) (none_passes (0 + length front) (skipped_behind 0 front) others fail)
      ∙ append-nil (slot_places test 0 0 front)

  pub more_skipped : (front others : List Slot) → All (λ s. test s ≡ false) others
      → skipped_behind 0 (front ++ others) ≡ skipped_behind 0 front + length (flat_map slot_touches others)
  more_skipped front others fail = skipped_append 0 front others ∙ skipped_over (skipped_behind 0 front) others fail

  -- a slot more
  module _ (front : List Slot) (s : Slot) where
    pub place_passes : test s ≡ true → slot_places test 0 0 (front ++ s ∷ [])
        ≡ slot_places test 0 0 front ++ record { place = length front; skipped = skipped_behind 0 front } ∷ []
    place_passes h =
        places_append 0 0 front (s ∷ [])
        ∙ ap (λ l. slot_places test 0 0 front ++ l) (here (0 + length front) (length front) (omega arith))
      where
        here : (n m : ℕ) → n ≡ m
            → slot_places test n (skipped_behind 0 front) (s ∷ []) ≡ record { place = m; skipped = skipped_behind 0 front } ∷ []
        here n m e = rw h (ap (λ x. record { place = x; skipped = skipped_behind 0 front } ∷ []) e)

    pub place_fails : test s ≡ false → slot_places test 0 0 (front ++ s ∷ []) ≡ slot_places test 0 0 front
    place_fails h = same_places front (s ∷ []) (All-cons (λ x. test x ≡ false) s [] h (All-nil (λ x. test x ≡ false)))

    pub skipped_passes : test s ≡ true → skipped_behind 0 (front ++ s ∷ []) ≡ 0
    skipped_passes h = skipped_append 0 front (s ∷ []) ∙ rw h refl

    pub skipped_fails : test s ≡ false → skipped_behind 0 (front ++ s ∷ []) ≡ skipped_behind 0 front + length (slot_touches s)
    skipped_fails h = skipped_append 0 front (s ∷ []) ∙ rw h refl

-- how many points there are
pub count_more : (front others : List Slot) (n m : ℕ) → n ≡ length (flat_map slot_touches front) → m ≡ length (flat_map slot_touches others)
    → n + m ≡ length (flat_map slot_touches (front ++ others))
count_more front others n m n_is m_is =
    let sum = ap length (flat_map-append slot_touches front others) ∙ length-append (flat_map slot_touches front) (flat_map slot_touches others) in
    omega (arith, sum, n_is, m_is)

pub count_one : (s : Slot) → length (slot_touches s) ≡ length (flat_map slot_touches (s ∷ []))
count_one s = ap length (sym (append-nil (slot_touches s)))

pub none_before : (slots front rest : List Slot) → slots ≡ front ++ rest → flat_map slot_touches slots ≡ [] → length (flat_map slot_touches front) ≡ 0
none_before slots front rest whole none =
    let sum = ap (λ l. length (flat_map slot_touches l)) whole ∙ ap length (flat_map-append slot_touches front rest)
    ∙ length-append (flat_map slot_touches front) (flat_map slot_touches rest) in
    let zero_is = ap length none in
    omega (arith, sum, zero_is)
