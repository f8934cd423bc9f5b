-- The slots of bodies, as the next tick finds them.
use Rattle.std.proofs.Common.{◌≡◌, ◌≤◌, ◌<◌, ◌==◌, ◌∷◌, ◌++◌, [], ℕ, suc, Bool, true, false, cond, not, ◌&&◌, ◌||◌, Option, Some, None, List, length, map, filter, get_or, ap, sym, subst, ◌∙◌, refl, true≢false, arith}
use Rattle.std.proofs.lemmas.Bool.{or_parts}
use Rattle.std.proofs.lemmas.Bool.Decides.{Decides-eqb}
use Rattle.std.proofs.lemmas.List.{get_or_default, same_lists}
use Rattle.std.proofs.lemmas.List.Elements.{All-head, All-map, All-nil, All-tail, All-weaker}
use Rattle.std.proofs.lemmas.List.Sums.{length-filter}
use Rattle.std.specs.List.{count_by, flat_map}
use Rattle.std.specs.Prelude.{All, is_some, slice_get, unwrap_or, if◌then◌else◌}
use Rattle.pf_shapes.specs.Body.{BodyState}
use Rattle.pf_shapes.specs.Bounds.{Bounds}
use Rattle.pf_shapes.specs.Fixture.{Fixture}
use Rattle.pf_shapes.specs.Pair.{IsPairOf, Pair}
use Rattle.pf_shapes.specs.declared.scene.TheConstants.{MAX_BODIES}
use Rattle.pf_broad.specs.Enlarged.{AreEnlarged}
use Rattle.pf_broad.specs.Pairs.{all_bounds, may_touch, no_bounds, pair_may_touch, pairs}
use Rattle.pf_broad.specs.Partners.{has_body}
use Rattle.pf_broad.proofs.Ascending.{ascending}
use Rattle.pf_broad.proofs.Enlarging.{pairs-of-candidates}
use Rattle.pf_broad.proofs.Exact.{has_pair-may_touch}
use Rattle.pf_broad.proofs.Within.{length-all_bounds, pairs-IsPairOf}
use Rattle.pf_manifold.specs.Key.{AreTouches, IsRising}
use Rattle.pf_manifold.proofs.KeyOrder.{touches_in_order}
use Rattle.pf_manifold.specs.PlacedShape.{PlacedShape}
use Rattle.pf_manifold.specs.Collide.{collide}
use Rattle.pf_manifold.specs.Touches.{Touch, touch_of, touches_between}
use Rattle.pf_cache.specs.Live.{HasOwnTouches}
use Rattle.pf_cache.specs.Ranked.{element_at}
use Rattle.pf_cache.specs.Manifolds.{Manifolds, computed_count, is_reusable, is_unmoved, lists_pair, manifolds_of, placed_shapes, points_of_pair}
use Rattle.pf_cache.specs.Slots.{AreSlots, HasFewTouches, IsFreshUnlessLive, HasSoundPoints, Slot, are_unmoved, carried_slot, is_of_pair, needs_points, overlapping, pair_rank, slot_of, slot_touches, touches_if, unmoved_flags}
use Rattle.pf_cache.proofs.Bounded.{length-placed_shapes}
use Rattle.pf_cache.proofs.FewTouches.{few_of_shapes}
use Rattle.pf_cache.proofs.Filling.{own}
use Rattle.pf_cache.proofs.PairRanks.{pairs_rise, same_rank, same_test}
use Rattle.pf_cache.proofs.Reusable.{Decides-pair, listed}
use Rattle.pf_cache.proofs.Standing.{same_at}
use Rattle.pf_cache.proofs.Unmoved.{flag_at, flag_stays, unmoved_points}
use Rattle.pf_cache.proofs.Unmoved as unmoved_bodies
use Rattle.pf_cache.proofs.Updating.{map-again, map_same}
use Rattle.pf_broad.proofs.Partnering.{and-false}

module _ (bounds : List Bounds) (shapes : List PlacedShape) where
  -- ---- what slots hold

  pub overlapping_are : (ps : List Pair) → overlapping (map (slot_of bounds shapes) ps) ≡ filter (pair_may_touch bounds) ps
  overlapping_are [] = refl
  overlapping_are (p ∷ ps) = by (pair_may_touch bounds p) (overlapping_are ps)
    where
      by : (b : Bool) → overlapping (map (slot_of bounds shapes) ps) ≡ filter (pair_may_touch bounds) ps
          → map (λ (s : Slot). s.pair) (cond (is_some (if b then Some (points_of_pair shapes p) else None))
          (record { pair = p; touches = if b then Some (points_of_pair shapes p) else None } ∷ filter (λ (s : Slot). is_some s.touches) (map (slot_of bounds shapes) ps))
          (filter (λ (s : Slot). is_some s.touches) (map (slot_of bounds shapes) ps)))
          ≡ cond b (p ∷ filter (pair_may_touch bounds) ps) (filter (pair_may_touch bounds) ps)
      by true rest = ap (λ l. p ∷ l) rest
      by false rest = rest

  pub touches_are : (ps : List Pair) → flat_map slot_touches (map (slot_of bounds shapes) ps) ≡ flat_map (points_of_pair shapes) (filter (pair_may_touch bounds) ps)
  touches_are [] = refl
  touches_are (p ∷ ps) = by (pair_may_touch bounds p) (touches_are ps)
    where
      by : (b : Bool) → flat_map slot_touches (map (slot_of bounds shapes) ps) ≡ flat_map (points_of_pair shapes) (filter (pair_may_touch bounds) ps)
          → slot_touches (record { pair = p; touches = if b then Some (points_of_pair shapes p) else None }) ++ flat_map slot_touches (map (slot_of bounds shapes) ps)
          ≡ flat_map (points_of_pair shapes) (cond b (p ∷ filter (pair_may_touch bounds) ps) (filter (pair_may_touch bounds) ps))
      by true rest = ap (λ l. points_of_pair shapes p ++ l) rest
      by false rest = rest

  -- ---- which are found

  -- the slot of a pair
  found : (p : Pair) (ps : List Pair) → IsPairOf MAX_BODIES p → All (IsPairOf MAX_BODIES) ps
      → element_at (λ (s : Slot). pair_rank s.pair) (pair_rank p) (map (slot_of bounds shapes) ps)
      ≡ (if lists_pair ps p then Some (slot_of bounds shapes p) else None)
  found p [] hp all = refl
  found p (q ∷ ps) hp all =
      by (pair_rank q == pair_rank p) refl (found p ps hp (All-tail (IsPairOf MAX_BODIES) q ps all))
    where
      test : ((q.a == p.a) && (q.b == p.b)) ≡ (pair_rank q == pair_rank p)
      test = same_test q p (All-head (IsPairOf MAX_BODIES) q ps all) hp

      by : (t : Bool) → (pair_rank q == pair_rank p) ≡ t
          → element_at (λ (s : Slot). pair_rank s.pair) (pair_rank p) (map (slot_of bounds shapes) ps) ≡ (if lists_pair ps p then Some (slot_of bounds shapes p) else None)
          → (if t then Some (slot_of bounds shapes q) else element_at (λ (s : Slot). pair_rank s.pair) (pair_rank p) (map (slot_of bounds shapes) ps))
          ≡ (if (((q.a == p.a) && (q.b == p.b)) || lists_pair ps p) then Some (slot_of bounds shapes p) else None)
      by true e rest =
          rw (test ∙ e) (ap (λ r. Some (slot_of bounds shapes r)) (same_rank q p (All-head (IsPairOf MAX_BODIES) q ps all) hp ((Decides-eqb _ _).0 e)))
      by false e rest = rw (test ∙ e) rest

  -- so a pair carries over the contact points that it had, if it was a candidate whose bounds overlapped
  abbrev pub old_touches : List Pair → Pair → Option (List Touch)
  old_touches ps p =
      if lists_pair ps p then (if pair_may_touch bounds p then Some (points_of_pair shapes p) else None) else None

  carried : (p : Pair) (ps : List Pair) → IsPairOf MAX_BODIES p → All (IsPairOf MAX_BODIES) ps
      → (carried_slot (map (slot_of bounds shapes) ps) p).touches ≡ old_touches ps p
  carried p ps hp all = ap touches_if (found p ps hp all) ∙ by (lists_pair ps p)
    where
      by : (b : Bool) → touches_if (if b then Some (slot_of bounds shapes p) else None)
          ≡ (if b then (if pair_may_touch bounds p then Some (points_of_pair shapes p) else None) else None)
      by true = refl
      by false = refl

  -- a pair passes a test like its equal
  lists-filter : (p : Pair) (ps : List Pair) → lists_pair (filter (pair_may_touch bounds) ps) p ≡ (lists_pair ps p && pair_may_touch bounds p)
  lists-filter p [] = refl
  lists-filter p (q ∷ ps) =
      by ((q.a == p.a) && (q.b == p.b)) (pair_may_touch bounds q) refl refl (lists-filter p ps)
    where
      by : (t m : Bool) → ((q.a == p.a) && (q.b == p.b)) ≡ t → pair_may_touch bounds q ≡ m
          → lists_pair (filter (pair_may_touch bounds) ps) p ≡ (lists_pair ps p && pair_may_touch bounds p)
          → lists_pair (cond m (q ∷ filter (pair_may_touch bounds) ps) (filter (pair_may_touch bounds) ps)) p
          ≡ ((t || lists_pair ps p) && pair_may_touch bounds p)
      by true true t m rest =
          let passes : pair_may_touch bounds p ≡ true = ap (pair_may_touch bounds) (sym ((Decides-pair q p).0 t)) ∙ m in
          rw (t, passes) refl
      by true false t m rest =
          let fails : pair_may_touch bounds p ≡ false = ap (pair_may_touch bounds) (sym ((Decides-pair q p).0 t)) ∙ m in
          rest ∙ ap (λ b. lists_pair ps p && b) fails ∙ and-false (lists_pair ps p) ∙ sym fails
      by false true t m rest = rw t rest
      by false false t m rest = rest

  -- it carries over points exactly where it was listed
  pub is_carried : (p : Pair) (ps : List Pair) → IsPairOf MAX_BODIES p → All (IsPairOf MAX_BODIES) ps
      → is_some (carried_slot (map (slot_of bounds shapes) ps) p).touches ≡ lists_pair (filter (pair_may_touch bounds) ps) p
  is_carried p ps hp all = ap is_some (carried p ps hp all) ∙ by (lists_pair ps p) (pair_may_touch bounds p) ∙ sym (lists-filter p ps)
    where
      by : (l m : Bool) → is_some (if l then (if m then Some (points_of_pair shapes p) else None) else None) ≡ (l && m)
      by true true = refl
      by true false = refl
      by false m = refl

  -- and these are its points by the old shapes
  pub carried_points : (p : Pair) (ps : List Pair) → IsPairOf MAX_BODIES p → All (IsPairOf MAX_BODIES) ps
      → is_some (carried_slot (map (slot_of bounds shapes) ps) p).touches ≡ true
      → (carried_slot (map (slot_of bounds shapes) ps) p).touches ≡ Some (points_of_pair shapes p)
  carried_points p ps hp all there =
      carried p ps hp all ∙ by (lists_pair ps p) (pair_may_touch bounds p) (sym (ap is_some (carried p ps hp all)) ∙ there)
    where
      by : (l m : Bool) → is_some (if l then (if m then Some (points_of_pair shapes p) else None) else None) ≡ true
          → (if l then (if m then Some (points_of_pair shapes p) else None) else None) ≡ Some (points_of_pair shapes p)
      by true true e = refl
      by true false e = absurd (true≢false (sym e))
      by false m e = absurd (true≢false (sym e))

  -- a candidate carries over its own slot
  pub carried_own : (ps : List Pair) → All (IsPairOf MAX_BODIES) ps → map (carried_slot (map (slot_of bounds shapes) ps)) ps ≡ map (slot_of bounds shapes) ps
  carried_own ps all =
      map_same (carried_slot (map (slot_of bounds shapes) ps)) (slot_of bounds shapes) ps (λ k e below.
      let p = get_or ps k e in
      let there : lists_pair ps p ≡ true = listed ps p (k, below, sym (get_or_default ps k e p below)) in
      let own = carried p ps (all k e below) all ∙ ap (λ (b : Bool). if b then (if pair_may_touch bounds p then Some (points_of_pair shapes p) else None) else None) there in
      λ i. record { pair = p; touches = own i })

  -- ---- whose points they are

  own_points : (p : Pair) → All (λ t. is_of_pair p t ≡ true) (points_of_pair shapes p)
  own_points p = by (slice_get shapes p.a) (slice_get shapes p.b)
    where
      by : (o m : Option PlacedShape) → All (λ t. is_of_pair p t ≡ true) (touches_between p o m)
      by (Some a) (Some b) = All-map (λ t. is_of_pair p t ≡ true) (touch_of p) (collide a b) (λ k e below. own p)
      by (Some a) None = All-nil (λ t. is_of_pair p t ≡ true)
      by None m = All-nil (λ t. is_of_pair p t ≡ true)

  own_touches : (p : Pair) → HasOwnTouches (slot_of bounds shapes p)
  own_touches p = by (pair_may_touch bounds p)
    where
      by : (b : Bool) → All (λ t. is_of_pair p t ≡ true) (unwrap_or (if b then Some (points_of_pair shapes p) else None) [])
      by true = own_points p
      by false = All-nil (λ t. is_of_pair p t ≡ true)

-- ---- counts

-- as many elements pass, if each does where it passes both tests
count_same : {X Y : Type 0} (t : Y → Bool) (f : X → Y) (g u : X → Bool) (xs : List X) → All (λ x. t (f x) ≡ (g x && u x)) xs
    → length (filter t (map f xs)) ≡ length (filter u (filter g xs))
count_same t f g u [] each = refl
count_same t f g u (x ∷ xs) each =
    by (t (f x)) (g x) (u x) (All-head (λ y. t (f y) ≡ (g y && u y)) x xs each) refl
    (count_same t f g u xs (All-tail (λ y. t (f y) ≡ (g y && u y)) x xs each))
  where
    by : (a b c : Bool) → a ≡ (b && c) → u x ≡ c → length (filter t (map f xs)) ≡ length (filter u (filter g xs))
        → length (cond a (f x ∷ filter t (map f xs)) (filter t (map f xs))) ≡ length (filter u (cond b (x ∷ filter g xs) (filter g xs)))
    by true true true e h rest = rw h (ap suc rest)
    by false true false e h rest = rw h rest
    by false false c e h rest = rest
    by true true false e h rest = absurd (true≢false e)
    by true false c e h rest = absurd (true≢false e)
    by false true true e h rest = absurd (true≢false (sym e))

-- ---- slots that are kept of these bodies

module _ (enlarged old : List Bounds) (stood : List PlacedShape) (kept : List Slot) (are : AreSlots enlarged old stood kept) where
  candidates_in_range : All (IsPairOf MAX_BODIES) (pairs enlarged)
  candidates_in_range =
      All-weaker (IsPairOf (length enlarged)) (IsPairOf MAX_BODIES) (λ p h. let few = are.few in (h.0, omega (arith, h.1, few)))
      (pairs enlarged) (pairs-IsPairOf enlarged (pairs enlarged) (length enlarged) refl refl)

  pub kept_rise : IsRising 0 (map (λ (s : Slot). pair_rank s.pair) kept)
  kept_rise =
      subst (λ ss. IsRising 0 (map (λ (s : Slot). pair_rank s.pair) ss)) (sym are.each)
      (subst (IsRising 0) (sym (map-again (λ (s : Slot). pair_rank s.pair) (slot_of old stood) (pairs enlarged)))
      (pairs_rise (pairs enlarged) (ascending enlarged) candidates_in_range))

  pub kept_bodies : All (λ (s : Slot). IsPairOf MAX_BODIES s.pair) kept
  kept_bodies =
      subst (All (λ (s : Slot). IsPairOf MAX_BODIES s.pair)) (sym are.each)
      (All-map (λ (s : Slot). IsPairOf MAX_BODIES s.pair) (slot_of old stood) (pairs enlarged) candidates_in_range)

  pub kept_own : map (carried_slot kept) (pairs enlarged) ≡ kept
  kept_own =
      ap (λ ss. map (carried_slot ss) (pairs enlarged)) are.each ∙ carried_own old stood (pairs enlarged) candidates_in_range ∙ sym are.each

  pub kept_pairs : overlapping kept ≡ pairs old
  kept_pairs = ap overlapping are.each ∙ overlapping_are old stood (pairs enlarged) ∙ pairs-of-candidates enlarged old are.within

  pub kept_points : flat_map slot_touches kept ≡ flat_map (points_of_pair stood) (overlapping kept)
  kept_points =
      ap (flat_map slot_touches) are.each ∙ touches_are old stood (pairs enlarged)
      ∙ ap (flat_map (points_of_pair stood)) (sym (ap overlapping are.each ∙ overlapping_are old stood (pairs enlarged)))

  pub kept_touches_are_own : All HasOwnTouches kept
  kept_touches_are_own =
      subst (All HasOwnTouches) (sym are.each) (All-map HasOwnTouches (slot_of old stood) (pairs enlarged) (λ k e below. own_touches old stood (get_or (pairs enlarged) k e)))

  pub kept_touches_are_few : All HasFewTouches kept
  kept_touches_are_few =
      subst (All HasFewTouches) (sym are.each) (All-map HasFewTouches (slot_of old stood) (pairs enlarged) (λ k e below. few_of_shapes old stood (get_or (pairs enlarged) k e)))

  module _ (p : Pair) (in_range : IsPairOf MAX_BODIES p) where
    carries : is_some (carried_slot kept p).touches ≡ lists_pair (overlapping kept) p
    carries =
        ap (λ ss. is_some (carried_slot ss p).touches) are.each ∙ is_carried old stood p (pairs enlarged) in_range candidates_in_range
        ∙ ap (λ ps. lists_pair ps p) (sym (ap overlapping are.each ∙ overlapping_are old stood (pairs enlarged)))

    -- the points of unmoved bodies are those of now
    pub reused : (shapes : List PlacedShape) (unmoved : List Bool) → unmoved ≡ unmoved_flags stood shapes
        → HasSoundPoints shapes unmoved (carried_slot kept p)
    reused shapes unmoved flags still there =
        let have = subst (λ ss. is_some (carried_slot ss p).touches ≡ true → (carried_slot ss p).touches ≡ Some (points_of_pair stood p)) (sym are.each)
        (carried_points old stood p (pairs enlarged) in_range candidates_in_range) in
        have there
        ∙ ap Some (unmoved_points stood shapes p
        (sym ((λ k. flag_at stood shapes p.a k && flag_at stood shapes p.b k)) ∙ sym (ap (λ fs. are_unmoved fs p) flags) ∙ still))

    -- where both bodies stand as they stood, it has points exactly where the bounds overlap
    pub stayed : (bounds : List Bounds) (shapes : List PlacedShape) (unmoved flags : List Bool) (before count : ℕ) (dirty : List ℕ) → p.b < count
        → unmoved ≡ unmoved_flags stood shapes
        → before ≡ length stood → length old ≡ length stood
        → ((k : ℕ) → k < count → get_or flags k false ≡ false → (before ≡ count) × (has_body dirty k ≡ false))
        → (length stood ≡ count → (k : ℕ) → k < count → has_body dirty k ≡ false
        → (slice_get stood k ≡ slice_get shapes k) × (slice_get old k ≡ slice_get bounds k))
        → IsFreshUnlessLive bounds unmoved flags (carried_slot kept p)
    stayed bounds shapes unmoved flags before count dirty below flags_are counted as_many right stay other =
        let parts = or_parts (get_or flags p.a false) (get_or flags p.b false) other in
        let low : p.a < count = omega (arith, in_range.0, below) in
        let first = right p.a low parts.0 in
        let second = right p.b below parts.1 in
        let same : length stood ≡ count = sym counted ∙ first.0 in
        let a = stay same p.a low first.1 in
        let b = stay same p.b below second.1 in
        let of : IsPairOf (length old) p = (in_range.0, omega (arith, below, same, as_many)) in (
          carries ∙ ap (λ ps. lists_pair ps p) kept_pairs ∙ has_pair-may_touch old p of
              ∙ (λ k. may_touch (same_at old bounds p.a a.1 no_bounds k) (same_at old bounds p.b b.1 no_bounds k)),
          ap (λ fs. are_unmoved fs p) flags_are
              ∙ (λ k. flag_stays stood shapes p.a (omega (arith, low, same)) a.0 k && flag_stays stood shapes p.b (omega (arith, below, same)) b.0 k),
        )

  -- as many slots have to be computed as pairs cannot reuse kept points
  pub counted_stale : (bounds : List Bounds) (shapes : List PlacedShape) (unmoved : List Bool) (candidates : List Pair)
      → All (IsPairOf MAX_BODIES) candidates → unmoved ≡ unmoved_flags stood shapes
      → count_by (needs_points bounds unmoved) (map (carried_slot kept) candidates)
      ≡ computed_count (record { shapes = stood; bounds = old; pairs = overlapping kept }) shapes (filter (pair_may_touch bounds) candidates)
  counted_stale bounds shapes unmoved candidates in_range flags =
      let m : Manifolds = record { shapes = stood; bounds = old; pairs = overlapping kept } in
      let u : Pair → Bool = λ p. not (is_reusable m shapes p) in
      sym (length-filter (needs_points bounds unmoved) (map (carried_slot kept) candidates))
      ∙ count_same (needs_points bounds unmoved) (carried_slot kept) (pair_may_touch bounds) u candidates (λ k e below.
      let p = get_or candidates k e in
      let listed_is = carries p (in_range k e below) in
      let still_is : are_unmoved unmoved p ≡ (is_unmoved stood shapes p.a && is_unmoved stood shapes p.b) =
      ap (λ fs. are_unmoved fs p) flags ∙ (λ i. flag_at stood shapes p.a i && flag_at stood shapes p.b i) in
      λ i. pair_may_touch bounds p && not (listed_is i && still_is i))
      ∙ length-filter u (filter (pair_may_touch bounds) candidates)

-- slots that are carried over have the pairs that they are carried to
pub carried_pairs : (old : List Slot) (ps : List Pair) → map (λ (s : Slot). s.pair) (map (carried_slot old) ps) ≡ ps
carried_pairs old [] = refl
carried_pairs old (p ∷ ps) = ap (λ l. p ∷ l) (carried_pairs old ps)

-- ---- slots of the bodies of now

module _ (fixtures : List Fixture) (bodies : List BodyState) (enlarged bounds : List Bounds) (shapes : List PlacedShape) (slots : List Slot)
    (paired : length bodies ≡ length fixtures) (shapes_are : shapes ≡ placed_shapes fixtures bodies) (as_many : length bounds ≡ length bodies)
    (few : length enlarged ≤ MAX_BODIES) (within : AreEnlarged enlarged bounds) (each : slots ≡ map (slot_of bounds shapes) (pairs enlarged)) where
  overlapping_now : overlapping slots ≡ pairs bounds
  overlapping_now = ap overlapping each ∙ overlapping_are bounds shapes (pairs enlarged) ∙ pairs-of-candidates enlarged bounds within

  pub now_kept : AreSlots enlarged bounds shapes slots
  now_kept =
      let long = within.as_many in
      let of = pairs-IsPairOf bounds (pairs bounds) (length bodies) refl as_many in
      let order : AreTouches (flat_map slot_touches slots) =
      subst AreTouches
      (sym (ap (flat_map slot_touches) each ∙ touches_are bounds shapes (pairs enlarged)
      ∙ ap (flat_map (points_of_pair shapes)) (pairs-of-candidates enlarged bounds within)
      ∙ ap (λ ss. flat_map (points_of_pair ss) (pairs bounds)) shapes_are
      ∙ unmoved_bodies.kept_points fixtures bodies (pairs bounds)))
      (touches_in_order fixtures bodies (length bodies) (pairs bounds) (omega (arith, few, long, as_many)) (ascending bounds) of) in
      record { few = few; within = within; each = each; order = order }

-- ---- where no body moved

-- none of these pairs has to be computed
none_computed : (u : Pair → Bool) (ps : List Pair) → All (λ p. u p ≡ false) ps → length (filter u ps) ≡ 0
none_computed u [] each = refl
none_computed u (p ∷ ps) each =
    rw (All-head (λ q. u q ≡ false) p ps each) (none_computed u ps (All-tail (λ q. u q ≡ false) p ps each))

module _ (fixtures : List Fixture) (bodies : List BodyState) (enlarged old : List Bounds) (stood : List PlacedShape) (kept : List Slot)
    (are : AreSlots enlarged old stood kept) (paired : length bodies ≡ length fixtures) (as_many : length old ≡ length stood)
    (same : length stood ≡ length bodies)
    (stay : (k : ℕ) → k < length bodies → (slice_get stood k ≡ slice_get (placed_shapes fixtures bodies) k)
    × (slice_get old k ≡ slice_get (all_bounds fixtures bodies) k)) where
  shapes_stay : stood ≡ placed_shapes fixtures bodies
  shapes_stay =
      let long = length-placed_shapes fixtures bodies paired in
      same_lists stood (placed_shapes fixtures bodies) (same ∙ sym long)
      (λ k d below. same_at stood (placed_shapes fixtures bodies) k (stay k (omega (arith, below, same))).0 d)

  bounds_stay : old ≡ all_bounds fixtures bodies
  bounds_stay =
      let long = length-all_bounds fixtures bodies paired in
      same_lists old (all_bounds fixtures bodies) (as_many ∙ same ∙ sym long)
      (λ k d below. same_at old (all_bounds fixtures bodies) k (stay k (omega (arith, below, as_many, same))).1 d)

  -- all is as it was
  pub all_stay : record { shapes = stood; bounds = old; pairs = overlapping kept } ≡ manifolds_of fixtures bodies (pairs (all_bounds fixtures bodies))
  all_stay =
      let pairs_stay = kept_pairs enlarged old stood kept are ∙ ap pairs bounds_stay in
      λ i. record { shapes = shapes_stay i; bounds = bounds_stay i; pairs = pairs_stay i }

  -- and no pair has to be computed
  pub none_stale : 0 ≡ computed_count (record { shapes = stood; bounds = old; pairs = overlapping kept }) (placed_shapes fixtures bodies) (pairs (all_bounds fixtures bodies))
  none_stale =
      let m : Manifolds = record { shapes = stood; bounds = old; pairs = overlapping kept } in
      let shapes = placed_shapes fixtures bodies in
      let ps = pairs (all_bounds fixtures bodies) in
      let u : Pair → Bool = λ p. not (is_reusable m shapes p) in
      let pairs_stay : overlapping kept ≡ ps = kept_pairs enlarged old stood kept are ∙ ap pairs bounds_stay in
      let of = pairs-IsPairOf (all_bounds fixtures bodies) ps (length bodies) refl (length-all_bounds fixtures bodies paired) in
      sym (sym (length-filter u ps) ∙ none_computed u ps (λ k e below.
      let p = get_or ps k e in
      let here : IsPairOf (length bodies) p = of k e below in
      let there : lists_pair (overlapping kept) p ≡ true = ap (λ l. lists_pair l p) pairs_stay ∙ listed ps p (k, below, sym (get_or_default ps k e p below)) in
      let still : (i : ℕ) → i < length bodies → is_unmoved stood shapes i ≡ true =
      λ i small. sym (flag_at stood shapes i) ∙ flag_stays stood shapes i (omega (arith, small, same)) (stay i small).0 in
      λ j. not (there j && (still p.a (omega (arith, here.0, here.1)) j && still p.b here.1 j))))

-- no body is in an empty list
pub none_listed : (bodies : List ℕ) (k : ℕ) → length bodies ≡ 0 → has_body bodies k ≡ false
none_listed [] k none = refl
none_listed (b ∷ bodies) k none = absurd (omega (arith, none))
