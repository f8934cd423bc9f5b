-- Contacts of the keys after splices.
use Rattle.std.proofs.Common.{◌≡◌, ◌∙◌, ℕ, suc, ◌+◌, ◌-◌, ◌≤◌, ◌<◌, ◌==◌, Bool, true, false, List, [], ◌∷◌, ◌++◌, append_assoc, append-nil, drop, get_or, length, length-append, length-drop, length-take, map, take, take_all, refl, sym, ap, ap₂, subst, arith}
use Rattle.std.proofs.lemmas.Bool.Decides.{Decides-eqb}
use Rattle.std.proofs.lemmas.List.{drop-drop, drop-map, drop_all, drop_more, length-map, map-append, take-append-drop, take-map}
use Rattle.std.proofs.lemmas.List.Elements.{All-cons, All-head, All-nil, All-tail}
use Rattle.std.proofs.lemmas.List.Sums.{sum_by-cons, sum_by-drop_more, sum_by-take-drop}
use Rattle.std.proofs.lemmas.Simd.{map-map}
use Rattle.std.proofs.Math.Seq.{take-add}
use Rattle.std.specs.Prelude.{All, sum_by, if◌then◌else◌}
use Rattle.pf_manifold.specs.Key.{IsKey, IsRising, Key, rank}
use Rattle.pf_manifold.proofs.Rising.{rising-all, rising-drop, rising-weaken}
use Rattle.pf_rows.specs.Impulses.{no_impulses}
use Rattle.pf_cache.specs.declared.key_splices.KeySplice.{KeySplice}
use Rattle.pf_cache.specs.Contact.{AreContacts, AreKeys, Contact, contact_of_key, contacts_of_keys, impulses_at}
use Rattle.pf_cache.specs.KeySplices.{keys_after, spanned_count}
use Rattle.pf_cache.proofs.Places.{found_here, other_rank}
use Rattle.pf_cache.proofs.PlacedPoints.{All-front, All-back}

abbrev rank_of : Contact → ℕ
rank_of c = rank c.key

abbrev pub keys_of : List Contact → List Key
keys_of contacts = map (λ (c : Contact). c.key) contacts

-- ---- parts of a list

pub all_unmap : {X Y : Type 0} (P : Y → Type 0) (f : X → Y) (xs : List X) → All P (map f xs) → All (λ x. P (f x)) xs
all_unmap P f [] each = All-nil (λ x. P (f x))
all_unmap P f (x ∷ xs) each =
    All-cons (λ y. P (f y)) x xs (All-head P (f x) (map f xs) each) (all_unmap P f xs (All-tail P (f x) (map f xs) each))

module _ {X : Type 0} (f : X → ℕ) where
  rising_front : (least : ℕ) (xs ys : List X) → IsRising least (map f (xs ++ ys)) → IsRising least (map f xs)
  rising_front least [] ys h = tt
  rising_front least (x ∷ xs) ys h = (h.0, rising_front (suc (f x)) xs ys h.1)

  rising_back : (xs ys : List X) → IsRising 0 (map f (xs ++ ys)) → IsRising 0 (map f ys)
  rising_back [] ys h = h
  rising_back (x ∷ xs) ys h = rising_back xs ys (rising-weaken 0 (suc (f x)) (map f (xs ++ ys)) (omega arith) h.1)

  -- elements are below those behind them
  rising_parts : (least : ℕ) (xs ys : List X) → IsRising least (map f (xs ++ ys)) → All (λ x. All (λ y. f x < f y) ys) xs
  rising_parts least [] ys h = All-nil (λ x. All (λ y. f x < f y) ys)
  rising_parts least (x ∷ xs) ys h =
      All-cons (λ z. All (λ y. f z < f y) ys) x xs
      (λ k e w. let high = All-back (λ y. suc (f x) ≤ f y) xs ys (rising-all f (suc (f x)) (xs ++ ys) h.1) k e w in omega (arith, high))
      (rising_parts (suc (f x)) xs ys h.1)

pub front_are_keys : (keys others : List Key) → AreKeys (keys ++ others) → AreKeys keys
front_are_keys keys others order = record {
  rising = rising_front rank 0 keys others order.rising;
  each = All-front IsKey keys others order.each;
}

pub back_are_keys : (keys others : List Key) → AreKeys (keys ++ others) → AreKeys others
back_are_keys keys others order = record {
  rising = rising_back rank keys others order.rising;
  each = All-back IsKey keys others order.each;
}

pub front_are_contacts : (k : ℕ) (contacts : List Contact) → AreContacts contacts → AreContacts (take k contacts)
front_are_contacts k contacts order =
    let parts = sym (take-append-drop k contacts) in record {
      rising = rising_front rank_of 0 (take k contacts) (drop k contacts) (subst (λ cs. IsRising 0 (map rank_of cs)) parts order.rising);
      keys = All-front (λ c. IsKey c.key) (take k contacts) (drop k contacts) (subst (All (λ c. IsKey c.key)) parts order.keys);
    }

-- ---- impulses in a part of the contacts

-- contacts of lower ranks have no part
skipped : (n : ℕ) (front back : List Contact) → All (λ c. rank c.key < n) front
    → impulses_at n (front ++ back) ≡ impulses_at n back
skipped n [] back low = refl
skipped n (c ∷ front) back low =
    other_rank n c (front ++ back) (All-head (λ x. rank x.key < n) c front low)
    ∙ skipped n front back (All-tail (λ x. rank x.key < n) c front low)

-- nor have those of higher ranks
none : (n : ℕ) (contacts : List Contact) → All (λ c. n < rank c.key) contacts → impulses_at n contacts ≡ no_impulses
none n [] high = refl
none n (c ∷ contacts) high = by (rank c.key == n) refl (none n contacts (All-tail (λ x. n < rank x.key) c contacts high))
  where
    by : (t : Bool) → (rank c.key == n) ≡ t → impulses_at n contacts ≡ no_impulses
        → (if t then c.impulses else impulses_at n contacts) ≡ no_impulses
    by true e rest =
        let same : rank c.key ≡ n = (Decides-eqb (rank c.key) n).0 e in
        let above : n < rank c.key = All-head (λ x. n < rank x.key) c contacts high in
        absurd (omega (arith, same, above))
    by false e rest = rest

cut : (n : ℕ) (front back : List Contact) → All (λ c. n < rank c.key) back
    → impulses_at n (front ++ back) ≡ impulses_at n front
cut n [] back high = none n back high
cut n (c ∷ front) back high = ap (λ p. if rank c.key == n then c.impulses else p) (cut n front back high)

-- each contact is found by its key
found : (least : ℕ) (contacts : List Contact) → IsRising least (map rank_of contacts)
    → All (λ c. impulses_at (rank c.key) contacts ≡ c.impulses) contacts
found least [] h = All-nil (λ c. impulses_at (rank c.key) [] ≡ c.impulses)
found least (x ∷ contacts) h =
    All-cons (λ c. impulses_at (rank c.key) (x ∷ contacts) ≡ c.impulses) x contacts
    (found_here (x ∷ contacts) 0 (rank x.key) x (omega arith) refl)
    (λ k e w.
    let above = rising-all rank_of (suc (rank x.key)) contacts h.1 k e w in
    other_rank (rank (get_or contacts k e).key) x contacts (omega (arith, above)) ∙ found (suc (rank x.key)) contacts h.1 k e w)

-- contacts of keys that have the same impulses in two lists
same_made : (contacts others : List Contact) (keys : List Key)
    → All (λ k. impulses_at (rank k) contacts ≡ impulses_at (rank k) others) keys
    → map (contact_of_key contacts) keys ≡ map (contact_of_key others) keys
same_made contacts others [] same = refl
same_made contacts others (k ∷ keys) same =
    ap₂ (λ x xs. x ∷ xs)
    (ap (λ p. record { key = k; impulses = p }) (All-head (λ y. impulses_at (rank y) contacts ≡ impulses_at (rank y) others) k keys same))
    (same_made contacts others keys (All-tail (λ y. impulses_at (rank y) contacts ≡ impulses_at (rank y) others) k keys same))

-- contacts that are found stay as they are
stay : (contacts some : List Contact) → All (λ c. impulses_at (rank c.key) contacts ≡ c.impulses) some
    → map (contact_of_key contacts) (keys_of some) ≡ some
stay contacts [] same = refl
stay contacts (c ∷ some) same =
    ap₂ (λ x xs. x ∷ xs)
    (ap (λ p. record { key = c.key; impulses = p }) (All-head (λ x. impulses_at (rank x.key) contacts ≡ x.impulses) c some same))
    (stay contacts some (All-tail (λ x. impulses_at (rank x.key) contacts ≡ x.impulses) c some same))

-- all contacts stay where all keys do
pub all_stay : (contacts : List Contact) → AreKeys (keys_of contacts) → contacts_of_keys contacts (keys_of contacts) ≡ contacts
unfolding contacts_of_keys
all_stay contacts order =
    stay contacts contacts
    (found 0 contacts (subst (IsRising 0) (map-map rank (λ (c : Contact). c.key) contacts) order.rising))

-- ---- old contacts in three parts: others come in place of the first, those of the second stay

module _ (front kept back : List Contact) (c : Contact) (added others : List Key)
    (rises : IsRising 0 (map rank_of (front ++ ((c ∷ kept) ++ back))))
    (keys_rise : IsRising 0 (map rank (added ++ ((c.key ∷ keys_of kept) ++ others)))) where
  abbrev whole : List Contact
  whole = front ++ ((c ∷ kept) ++ back)

  -- keys that are added are found among the first contacts alone
  added_made : map (contact_of_key whole) added ≡ map (contact_of_key front) added
  added_made =
      same_made whole front added
      (λ k e w.
      let key = get_or added k e in
      let below : rank key < rank c.key =
      All-head (λ y. rank key < rank y) c.key (keys_of kept ++ others)
      (rising_parts rank 0 added ((c.key ∷ keys_of kept) ++ others) keys_rise k e w) in
      let behind = rising-all rank_of (suc (rank c.key)) (kept ++ back) (rising_back rank_of front ((c ∷ kept) ++ back) rises).1 in
      cut (rank key) front ((c ∷ kept) ++ back)
      (All-cons (λ x. rank key < rank x.key) c (kept ++ back) below
      (λ j d v. let high = behind j d v in omega (arith, high, below))))

  kept_made : map (contact_of_key whole) (keys_of (c ∷ kept)) ≡ c ∷ kept
  kept_made =
      stay whole (c ∷ kept)
      (All-front (λ x. impulses_at (rank x.key) whole ≡ x.impulses) (c ∷ kept) back
      (All-back (λ x. impulses_at (rank x.key) whole ≡ x.impulses) front ((c ∷ kept) ++ back) (found 0 whole rises)))

  -- later keys are found among the last contacts
  others_made : map (contact_of_key whole) others ≡ map (contact_of_key back) others
  others_made =
      same_made whole back others
      (λ k e w.
      let key = get_or others k e in
      let low : All (λ x. rank x.key < rank key) (c ∷ kept) =
      all_unmap (λ x. rank x < rank key) (λ (x : Contact). x.key) (c ∷ kept)
      (λ j d v.
      rising_parts rank 0 (c.key ∷ keys_of kept) others (rising_back rank added ((c.key ∷ keys_of kept) ++ others) keys_rise) j d v k e w) in
      let first : rank c.key < rank key = All-head (λ x. rank x.key < rank key) c kept low in
      skipped (rank key) front ((c ∷ kept) ++ back)
      (λ j d v.
      let under = All-head (λ y. rank_of (get_or front j d) < rank y.key) c (kept ++ back) (rising_parts rank_of 0 front ((c ∷ kept) ++ back) rises j d v) in
      omega (arith, under, first))
      ∙ skipped (rank key) (c ∷ kept) back low)

  pieces : map (contact_of_key whole) (added ++ ((c.key ∷ keys_of kept) ++ others))
      ≡ map (contact_of_key front) added ++ ((c ∷ kept) ++ map (contact_of_key back) others)
  pieces =
      map-append (contact_of_key whole) added ((c.key ∷ keys_of kept) ++ others)
      ∙ ap₂ (λ xs ys. xs ++ ys) added_made
      (map-append (contact_of_key whole) (c.key ∷ keys_of kept) others ∙ ap₂ (λ xs ys. xs ++ ys) kept_made others_made)

-- with some that stay
made_parts : (front kept back : List Contact) (added others : List Key) → 0 < length kept
    → IsRising 0 (map rank_of (front ++ (kept ++ back))) → IsRising 0 (map rank (added ++ (keys_of kept ++ others)))
    → contacts_of_keys (front ++ (kept ++ back)) (added ++ (keys_of kept ++ others))
    ≡ contacts_of_keys front added ++ (kept ++ contacts_of_keys back others)
unfolding contacts_of_keys
made_parts front [] back added others some rises keys_rise = absurd (omega (arith, some))
made_parts front (c ∷ kept) back added others some rises keys_rise = pieces front kept back c added others rises keys_rise

-- the last ones
made_last : (front kept : List Contact) (added : List Key)
    → IsRising 0 (map rank_of (front ++ kept)) → IsRising 0 (map rank (added ++ keys_of kept))
    → contacts_of_keys (front ++ kept) (added ++ keys_of kept) ≡ contacts_of_keys front added ++ kept
unfolding contacts_of_keys
made_last front [] added rises keys_rise =
    ap₂ (λ cs ks. map (contact_of_key cs) ks) (append-nil front) (append-nil added) ∙ sym (append-nil (map (contact_of_key front) added))
made_last front (c ∷ kept) added rises keys_rise =
    let same = sym (append-nil (c ∷ kept)) in
    let same_keys = sym (append-nil (c.key ∷ keys_of kept)) in
    ap₂ (λ cs ks. map (contact_of_key (front ++ cs)) (added ++ ks)) same same_keys
    ∙ pieces front kept [] c added []
    (subst (λ cs. IsRising 0 (map rank_of (front ++ cs))) same rises)
    (subst (λ ks. IsRising 0 (map rank (added ++ ks))) same_keys keys_rise)
    ∙ ap (λ cs. map (contact_of_key front) added ++ cs) (append-nil (c ∷ kept))

-- ---- the walk along splices

-- the keys that are to come where old keys from `end` on were not looked at, and of those that are
-- added the ones from `last` on; those from `done` on still have no contact
abbrev pub coming_keys : List Contact → List Key → List KeySplice → ℕ → ℕ → ℕ → List Key
coming_keys old added splices end done last =
    take (last - done) (drop done added) ++ keys_after splices (drop last added) (drop end (keys_of old))

-- what stands before the splices that are left: these contacts are made, and those of coming keys
-- have to be found among the old ones from `from` on
pub record Walked (old : List Contact) (keys : List Key) (all made : List Contact) (size capacity : ℕ)
    (splices : List KeySplice) (from end done last : ℕ) : Type 0 where
  pub from_end : from ≤ end
  pub done_last : done ≤ last
  pub within : end + spanned_count splices ≤ length old
  pub added : last + sum_by (λ (e : KeySplice). e.added) splices ≡ length keys
  pub coming : AreKeys (coming_keys old keys splices end done last)
  pub made_all : made ++ contacts_of_keys (drop from old) (coming_keys old keys splices end done last) ≡ all
  pub room : size + length (coming_keys old keys splices end done last) ≤ capacity

module _ (old : List Contact) (keys : List Key) where
  -- what the next splice brings, behind keys that still have no contact
  after_one : (e : KeySplice) (splices : List KeySplice) (end last next more : ℕ) → next ≡ end + e.kept → more ≡ last + e.added
      → keys_after (e ∷ splices) (drop last keys) (drop end (keys_of old))
      ≡ keys_of (take (next - end) (drop end old)) ++ coming_keys old keys splices (next + e.dropped) last more
  unfolding keys_after
  after_one e splices end last next more next_is more_is =
      let kept : e.kept ≡ next - end = omega (arith, next_is) in
      let added : e.added ≡ more - last = omega (arith, more_is) in
      let there : end + (e.kept + e.dropped) ≡ next + e.dropped = omega (arith, next_is) in
      let staying : take e.kept (drop end (keys_of old)) ≡ keys_of (take (next - end) (drop end old)) =
      ap₂ (λ n ks. take n ks) kept (drop-map (λ (c : Contact). c.key) end old)
      ∙ take-map (λ (c : Contact). c.key) (next - end) (drop end old) in
      let keys_left : drop e.added (drop last keys) ≡ drop more keys = drop-drop e.added last keys ∙ ap (λ n. drop n keys) (sym more_is) in
      let old_left : drop (e.kept + e.dropped) (drop end (keys_of old)) ≡ drop (next + e.dropped) (keys_of old) =
      drop-drop (e.kept + e.dropped) end (keys_of old) ∙ ap (λ n. drop n (keys_of old)) there in
      ap₂ (λ xs ys. xs ++ ys) staying
      (ap₂ (λ xs ys. xs ++ ys) (ap (λ n. take n (drop last keys)) added)
      (ap₂ (keys_after splices) keys_left old_left))

  -- splices with no key that stays between them count as one
  coming_joined : (e : KeySplice) (splices : List KeySplice) (end done last next more : ℕ) → e.kept ≡ 0 → next ≡ end + e.kept
      → more ≡ last + e.added → done ≤ last
      → coming_keys old keys (e ∷ splices) end done last ≡ coming_keys old keys splices (next + e.dropped) done more
  coming_joined e splices end done last next more none_kept next_is more_is order =
      let none_there : next - end ≡ 0 = omega (arith, next_is, none_kept) in
      let both : (last - done) + (more - last) ≡ more - done = omega (arith, more_is, order) in
      let there : done + (last - done) ≡ last = omega (arith, order) in
      let others = keys_after splices (drop more keys) (drop (next + e.dropped) (keys_of old)) in
      let first = take (last - done) (drop done keys) in
      let second = take (more - last) (drop last keys) in
      let joined : first ++ second ≡ take (more - done) (drop done keys) =
      ap (λ ks. first ++ take (more - last) ks) (sym (drop-drop (last - done) done keys ∙ ap (λ n. drop n keys) there))
      ∙ sym (take-add (last - done) (more - last) (drop done keys))
      ∙ ap (λ n. take n (drop done keys)) both in
      ap (λ ks. first ++ ks)
      (after_one e splices end last next more next_is more_is
      ∙ ap (λ n. keys_of (take n (drop end old)) ++ (second ++ others)) none_there)
      ∙ sym (append_assoc first second others) ∙ ap (λ ks. ks ++ others) joined

  module _ (all made : List Contact) (size capacity : ℕ) (e : KeySplice) (splices : List KeySplice) (from end done last next more : ℕ)
      (walked : Walked old keys all made size capacity (e ∷ splices) from end done last)
      (next_is : next ≡ end + e.kept) (more_is : more ≡ last + e.added) where
    spanned : (end + (e.kept + e.dropped)) + spanned_count splices ≤ length old
    spanned = omega (arith, walked.within, sum_by-cons (λ (x : KeySplice). x.kept + x.dropped) e splices)

    all_added : (last + e.added) + sum_by (λ (x : KeySplice). x.added) splices ≡ length keys
    all_added = omega (arith, walked.added, sum_by-cons (λ (x : KeySplice). x.added) e splices)

    -- a splice that keeps nothing is joined with those before
    pub joined_step : e.kept ≡ 0 → Walked old keys all made size capacity splices from (next + e.dropped) done more
    joined_step none_kept =
        let same = coming_joined e splices end done last next more none_kept next_is more_is walked.done_last in record {
          from_end = omega (arith, walked.from_end, next_is);
          done_last = omega (arith, walked.done_last, more_is);
          within = omega (arith, spanned, next_is);
          added = omega (arith, all_added, more_is);
          coming = subst AreKeys same walked.coming;
          made_all = ap (λ ks. made ++ contacts_of_keys (drop from old) ks) (sym same) ∙ walked.made_all;
          room = omega (arith, walked.room, ap length same);
        }

    -- a splice that keeps some: the contacts before them are made
    abbrev run_keys : List Key
    run_keys = take (last - done) (drop done keys)

    abbrev run_dropped : List Contact
    run_dropped = take (end - from) (drop from old)

    abbrev run_kept : List Contact
    run_kept = take (next - end) (drop end old)

    abbrev run_others : List Key
    run_others = coming_keys old keys splices (next + e.dropped) last more

    run_parts : coming_keys old keys (e ∷ splices) end done last ≡ run_keys ++ (keys_of run_kept ++ run_others)
    run_parts = ap (λ ks. run_keys ++ ks) (after_one e splices end last next more next_is more_is)

    run_coming : AreKeys (run_keys ++ (keys_of run_kept ++ run_others))
    run_coming = subst AreKeys run_parts walked.coming

    pub run_are_keys : AreKeys run_keys
    run_are_keys = front_are_keys run_keys (keys_of run_kept ++ run_others) run_coming

    run_old : drop from old ≡ run_dropped ++ (run_kept ++ drop next old)
    run_old =
        let there : from + (end - from) ≡ end = omega (arith, walked.from_end) in
        let behind : end + (next - end) ≡ next = omega (arith, next_is) in
        sym (take-append-drop (end - from) (drop from old))
        ∙ ap (λ cs. run_dropped ++ cs)
        (drop-drop (end - from) from old ∙ ap (λ n. drop n old) there
        ∙ sym (take-append-drop (next - end) (drop end old))
        ∙ ap (λ cs. run_kept ++ cs) (drop-drop (next - end) end old ∙ ap (λ n. drop n old) behind))

    run_count : length run_kept ≡ e.kept
    run_count = omega (arith, length-take (next - end) (drop end old), length-drop end old, spanned, next_is)

    run_size : length (coming_keys old keys (e ∷ splices) end done last) ≡ (length run_keys + length run_kept) + length run_others
    run_size =
        omega (
          arith,
          ap length run_parts,
          length-append run_keys (keys_of run_kept ++ run_others),
          length-append (keys_of run_kept) run_others,
          length-map run_kept (λ (c : Contact). c.key),
        )

    pub run_room : size + (length run_keys + length run_kept) ≤ capacity
    run_room = omega (arith, walked.room, run_size)

    pub run_step : (now : List Contact) (size_now capacity_now : ℕ) → AreContacts old → 0 < e.kept
        → now ≡ made ++ (contacts_of_keys run_dropped run_keys ++ run_kept)
        → size_now ≡ size + (length run_keys + length run_kept) → capacity ≤ capacity_now
        → Walked old keys all now size_now capacity_now splices next (next + e.dropped) last more
    run_step now size_now capacity_now order some now_is size_is large = record {
      from_end = omega arith;
      done_last = omega (arith, more_is);
      within = omega (arith, spanned, next_is);
      added = omega (arith, all_added, more_is);
      coming = back_are_keys (keys_of run_kept) run_others (back_are_keys run_keys (keys_of run_kept ++ run_others) run_coming);
      made_all =
          let head = contacts_of_keys run_dropped run_keys in
          let others = contacts_of_keys (drop next old) run_others in
          ap (λ cs. cs ++ others) now_is ∙ append_assoc made (head ++ run_kept) others
          ∙ ap (λ cs. made ++ cs)
          (append_assoc head run_kept others
          ∙ sym (made_parts run_dropped run_kept (drop next old) run_keys run_others (omega (arith, run_count, some))
          (subst (λ cs. IsRising 0 (map rank_of cs)) run_old (rising-drop rank_of from old order.rising)) run_coming.rising)
          ∙ ap₂ contacts_of_keys (sym run_old) (sym run_parts))
          ∙ walked.made_all;
      room = omega (arith, walked.room, run_size, size_is, large);
    }

  -- after the last splice
  module _ (all made : List Contact) (size capacity from end done last : ℕ)
      (walked : Walked old keys all made size capacity [] from end done last) where
    abbrev last_keys : List Key
    last_keys = take (length keys - done) (drop done keys)

    abbrev last_dropped : List Contact
    last_dropped = take (end - from) (drop from old)

    abbrev last_kept : List Contact
    last_kept = take (length old - end) (drop end old)

    last_parts : coming_keys old keys [] end done last ≡ last_keys ++ keys_of last_kept
    unfolding keys_after
    last_parts =
        let all_keys : last - done ≡ length keys - done = omega (arith, walked.added) in
        ap₂ (λ xs ys. xs ++ ys) (ap (λ n. take n (drop done keys)) all_keys)
        (drop-map (λ (c : Contact). c.key) end old
        ∙ ap keys_of (sym (take_all (length old - end) (drop end old) (omega (arith, length-drop end old)))))

    last_coming : AreKeys (last_keys ++ keys_of last_kept)
    last_coming = subst AreKeys last_parts walked.coming

    pub last_are_keys : AreKeys last_keys
    last_are_keys = front_are_keys last_keys (keys_of last_kept) last_coming

    pub last_room : size + (length last_keys + length last_kept) ≤ capacity
    last_room =
        omega (arith, walked.room, ap length last_parts, length-append last_keys (keys_of last_kept), length-map last_kept (λ (c : Contact). c.key))

    last_old : drop from old ≡ last_dropped ++ last_kept
    last_old =
        let there : from + (end - from) ≡ end = omega (arith, walked.from_end) in
        sym (take-append-drop (end - from) (drop from old))
        ∙ ap (λ cs. last_dropped ++ cs)
        (drop-drop (end - from) from old ∙ ap (λ n. drop n old) there
        ∙ sym (take_all (length old - end) (drop end old) (omega (arith, length-drop end old))))

    pub last_step : (now : List Contact) → AreContacts old
        → now ≡ made ++ (contacts_of_keys last_dropped last_keys ++ last_kept) → now ≡ all
    last_step now order now_is =
        now_is
        ∙ ap (λ cs. made ++ cs)
        (sym (made_last last_dropped last_kept last_keys
        (subst (λ cs. IsRising 0 (map rank_of cs)) last_old (rising-drop rank_of from old order.rising)) last_coming.rising)
        ∙ ap₂ contacts_of_keys (sym last_old) (sym last_parts))
        ∙ walked.made_all

  -- before the first splice
  pub walk_starts : (front : List Contact) (size capacity : ℕ) (splices : List KeySplice) → spanned_count splices ≤ length old
      → sum_by (λ (e : KeySplice). e.added) splices ≡ length keys → AreKeys (keys_after splices keys (keys_of old))
      → size + length (keys_after splices keys (keys_of old)) ≤ capacity
      → Walked old keys (front ++ contacts_of_keys old (keys_after splices keys (keys_of old))) front size capacity splices 0 0 0 0
  walk_starts front size capacity splices within added coming room = record {
    from_end = omega arith;
    done_last = omega arith;
    within = omega (arith, within);
    added = omega (arith, added);
    coming = coming;
    made_all = refl;
    room = room;
  }

-- the first of the splices that are left
pub at_splice : (old : List Contact) (keys : List Key) (all made : List Contact) (size capacity : ℕ) (splices : List KeySplice)
    (i from end done last : ℕ) (d : KeySplice) → i < length splices
    → Walked old keys all made size capacity (drop i splices) from end done last
    → Walked old keys all made size capacity (get_or splices i d ∷ drop (i + 1) splices) from end done last
at_splice old keys all made size capacity splices i from end done last d inside walked =
    subst (λ es. Walked old keys all made size capacity es from end done last) (drop_more splices i d inside) walked

-- none is left
pub at_end : (old : List Contact) (keys : List Key) (all made : List Contact) (size capacity : ℕ) (splices : List KeySplice)
    (i from end done last : ℕ) → length splices ≤ i
    → Walked old keys all made size capacity (drop i splices) from end done last
    → Walked old keys all made size capacity [] from end done last
at_end old keys all made size capacity splices i from end done last over walked =
    subst (λ es. Walked old keys all made size capacity es from end done last) (drop_all i splices over) walked

-- ---- how many

-- what splices drop is within what they span
pub dropped_within : (splices : List KeySplice) → sum_by (λ (e : KeySplice). e.dropped) splices ≤ spanned_count splices
dropped_within [] = omega arith
dropped_within (e ∷ splices) =
    omega (arith, dropped_within splices, sum_by-cons (λ (x : KeySplice). x.dropped) e splices, sum_by-cons (λ (x : KeySplice). x.kept + x.dropped) e splices)

pub dropped_more : (splices : List KeySplice) (i : ℕ) (d : KeySplice) → i < length splices
    → sum_by (λ (e : KeySplice). e.dropped) (take i splices) + (get_or splices i d).dropped ≤ spanned_count splices
dropped_more splices i d inside =
    let split = sum_by-take-drop (λ (e : KeySplice). e.dropped) splices i in
    let one = sum_by-drop_more (λ (e : KeySplice). e.dropped) splices i d inside in
    omega (arith, dropped_within splices, split, one)

-- how many keys there are after splices
pub count_after : (splices : List KeySplice) (added keys : List Key) → spanned_count splices ≤ length keys
    → sum_by (λ (e : KeySplice). e.added) splices ≡ length added
    → length (keys_after splices added keys) + sum_by (λ (e : KeySplice). e.dropped) splices ≡ length keys + length added
unfolding keys_after
count_after [] added keys within all = omega (arith, all)
count_after (e ∷ splices) added keys within all =
    let left = drop (e.kept + e.dropped) keys in
    let left_added = drop e.added added in
    let span = sum_by-cons (λ (x : KeySplice). x.kept + x.dropped) e splices in
    let adds = sum_by-cons (λ (x : KeySplice). x.added) e splices in
    let drops = sum_by-cons (λ (x : KeySplice). x.dropped) e splices in
    let size_left = length-drop (e.kept + e.dropped) keys in
    let size_left_added = length-drop e.added added in
    let behind = count_after splices left_added left (omega (arith, within, span, size_left)) (omega (arith, all, adds, size_left_added)) in
    let first = length-append (take e.kept keys) (take e.added added ++ keys_after splices left_added left) in
    let second = length-append (take e.added added) (keys_after splices left_added left) in
    let stay_size : length (take e.kept keys) ≡ e.kept = omega (arith, length-take e.kept keys, within, span) in
    let add_size : length (take e.added added) ≡ e.added = omega (arith, length-take e.added added, all, adds) in
    omega (arith, behind, first, second, stay_size, add_size, size_left, size_left_added, within, span, all, adds, drops)

-- the room that is needed for them
pub room_after : (old : List Contact) (splices : List KeySplice) (added : List Key) (total dropped : ℕ) → total ≡ length old
    → dropped ≡ sum_by (λ (e : KeySplice). e.dropped) splices → spanned_count splices ≤ length old
    → sum_by (λ (e : KeySplice). e.added) splices ≡ length added
    → length (keys_after splices added (keys_of old)) ≡ (total - dropped) + length added
room_after old splices added total dropped total_is dropped_is within all =
    let size = length-map old (λ (c : Contact). c.key) in
    let count = count_after splices added (keys_of old) (omega (arith, within, size)) all in
    omega (arith, count, size, total_is, dropped_is, within, dropped_within splices)

-- without splices all stay
none_after : (added keys : List Key) → keys_after [] added keys ≡ keys
unfolding keys_after
none_after added keys = refl

pub none_spliced : (old : List Contact) (splices : List KeySplice) (added : List Key) → splices ≡ []
    → AreKeys (keys_after splices added (keys_of old)) → contacts_of_keys old (keys_after splices added (keys_of old)) ≡ old
none_spliced old splices added none order =
    let same = ap (λ es. keys_after es added (keys_of old)) none ∙ none_after added (keys_of old) in
    ap (contacts_of_keys old) same ∙ all_stay old (subst AreKeys same order)

-- one splice in place of all keys
pub all_spliced : (old : List Contact) (keys : List Key) (count : ℕ) → count ≡ length old
    → keys_after (record { kept = 0; dropped = count; added = length keys } ∷ []) keys (keys_of old) ≡ keys
unfolding keys_after
all_spliced old keys count all =
    ap₂ (λ xs ys. xs ++ ys) (take_all (length keys) keys (omega arith))
    (drop_all (0 + count) (keys_of old) (omega (arith, all, length-map old (λ (c : Contact). c.key))))
    ∙ append-nil keys
