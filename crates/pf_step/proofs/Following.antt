-- What a work knows of moved bodies stays true from step to step.
use Rattle.std.proofs.Common.{◌≡◌, ◌≢◌, ℕ, zero, suc, ◌+◌, ◌<◌, ◌==◌, Bool, true, false, List, [], ◌∷◌, ◌++◌, Option, Some, None, length, map, nat_lt, refl, sym, ap, ap₂, subst, ◌∙◌, arith, slice_get}
use Rattle.std.specs.Prelude.{All, Err, Ok, Result}
use Rattle.std.specs.List.{flat_map, range_with_len, zip}
use Rattle.std.proofs.lemmas.Bool.{or_parts, true≢false}
use Rattle.std.proofs.lemmas.Bool.Decides.{nat_tests}
use Rattle.std.proofs.lemmas.List.Elements.{All-append, All-cons, All-map, All-nil}
use Rattle.std.proofs.lemmas.List.Folds.{list_any-append}
use Rattle.std.proofs.lemmas.List.{append_assoc}
use Rattle.std.proofs.lemmas.List.FromFn.{get_or-range_with_len, length-range_with_len}
use Rattle.std.proofs.lemmas.Option.{slice_get_within}
use Rattle.pf_shapes.specs.Body.{BodyState}
use Rattle.pf_shapes.specs.Bounds.{fixture_bounds}
use Rattle.pf_shapes.specs.Fixture.{Fixture}
use Rattle.pf_shapes.specs.Scene.{Scene}
use Rattle.pf_broad.specs.Pairs.{all_bounds}
use Rattle.pf_broad.specs.Partners.{has_body}
use Rattle.pf_broad.proofs.Ranges.{has_body-below}
use Rattle.pf_commands.specs.declared.payload.Payload.{Payload}
use Rattle.pf_commands.specs.Payload.{body_of}
use Rattle.pf_manifold.specs.Key.{key_of}
use Rattle.pf_cache.specs.Manifolds.{Manifolds, kept_touches, placed_shapes, shape_of_body}
use Rattle.pf_cache.specs.PlacedBodies.{HaveStayed, bodies_of}
use Rattle.pf_islands.specs.Split.{Island}
use Rattle.pf_step.specs.Changes.{AreAdded, BodyChange, bodies_before, change_if, change_of, changes_by_commands, changes_of_islands, numbers_of}
use Rattle.pf_step.specs.Commands.{after_commands}
use Rattle.pf_step.specs.Work.{KnowsWorld, Work, dirty_bodies}
use Rattle.pf_step.specs.World.{World}
use Rattle.pf_step.proofs.Changing.{notes_of_all, unchanged_stays}
use Rattle.pf_step.proofs.Commanding.{commands_before, commands_length}

-- ---- what is made of two lists side by side

module _ {X Y Z : Type 0} (f : X × Y → Z) where
  abbrev made_of : Option X → Option Y → Option Z
  made_of (Some x) (Some y) = Some (f (x, y))
  made_of (Some x) None = None
  made_of None y = None

  no_second : (x : Option X) → None ≡ made_of x None
  no_second None = refl
  no_second (Some x) = refl

  made_at : (xs : List X) (ys : List Y) (k : ℕ) → slice_get (map f (zip xs ys)) k ≡ made_of (slice_get xs k) (slice_get ys k)
  made_at [] ys k = refl
  made_at (x ∷ xs) [] k = no_second (slice_get (x ∷ xs) k)
  made_at (x ∷ xs) (y ∷ ys) zero = refl
  made_at (x ∷ xs) (y ∷ ys) (suc k) = made_at xs ys k

  -- where the second lists agree, so does what is made
  pub same_made : (xs : List X) (ys zs : List Y) (k : ℕ) → slice_get ys k ≡ slice_get zs k
      → slice_get (map f (zip xs ys)) k ≡ slice_get (map f (zip xs zs)) k
  same_made xs ys zs k same = made_at xs ys k ∙ ap (made_of (slice_get xs k)) same ∙ sym (made_at xs zs k)

-- ---- bodies that are not listed

-- a body that has no change is as it was before
none_of : (changes : List BodyChange) (k : ℕ) → has_body (numbers_of changes) k ≡ false → All (λ c. c.number ≢ k) changes
none_of [] k none = All-nil (λ (c : BodyChange). c.number ≢ k)
none_of (c ∷ changes) k none =
    let parts = or_parts (c.number == k) (has_body (numbers_of changes) k) none in
    All-cons (λ (x : BodyChange). x.number ≢ k) c changes (λ same. absurd (differs c.number k parts.0 same)) (none_of changes k parts.1)
  where
    differs : (m k : ℕ) → (m == k) ≡ false → m ≢ k
    differs m k test same = grind (arith, nat_tests)

pub unlisted : (changes : List BodyChange) (after before : List BodyState) (k : ℕ) → bodies_before changes after ≡ before
    → has_body (numbers_of changes) k ≡ false → slice_get after k ≡ slice_get before k
unlisted changes after before k undone none =
    sym (unchanged_stays changes after k (none_of changes k none)) ∙ ap (λ bs. slice_get bs k) undone

pub numbers_more : (changes more : List BodyChange) → numbers_of (changes ++ more) ≡ numbers_of changes ++ numbers_of more
numbers_more [] more = refl
numbers_more (c ∷ changes) more = ap (λ ns. c.number ∷ ns) (numbers_more changes more)

-- one that is not in both lists is in none of them
pub neither : (first second : List ℕ) (k : ℕ) → has_body (first ++ second) k ≡ false
    → (has_body first k ≡ false) × (has_body second k ≡ false)
neither first second k none =
    or_parts (has_body first k) (has_body second k) (sym (list_any-append (λ m. m == k) first second) ∙ none)

-- ---- noted bodies are there

noted_within : (n : ℕ) (bodies : List BodyState) (b : Option BodyState) → slice_get bodies n ≡ b
    → All (λ c. c.number < length bodies) (change_if n b)
noted_within n bodies None none = All-nil (λ (c : BodyChange). c.number < length bodies)
noted_within n bodies (Some b) there =
    All-cons (λ (c : BodyChange). c.number < length bodies) (record { number = n; before = b }) []
    (slice_get_within bodies n b there) (All-nil (λ (c : BodyChange). c.number < length bodies))

pub all_within : {X : Type 0} (bodies : List BodyState) (f : X → ℕ) (xs : List X)
    → All (λ c. c.number < length bodies) (flat_map (λ x. change_of bodies (f x)) xs)
all_within bodies f [] = All-nil (λ (c : BodyChange). c.number < length bodies)
all_within bodies f (x ∷ xs) =
    All-append (λ (c : BodyChange). c.number < length bodies) (change_of bodies (f x)) (flat_map (λ y. change_of bodies (f y)) xs)
    (noted_within (f x) bodies (slice_get bodies (f x)) refl) (all_within bodies f xs)

-- an error that is not another is not that one of another call either
pub other_error : {A B E : Type 0} (a b : E) → ◌≢◌ {A = Result A E} (Err a) (Err b) → ◌≢◌ {A = Result B E} (Err a) (Err b)
other_error {A = A} {B = B} {E = E} a b differ same = differ (ap dirty same)
  where
    dirty : Result B E → Result A E
    dirty (Ok value) = Err a
    dirty (Err error) = Err error

-- where there are no bodies none are noted
pub none_noted : {X : Type 0} (bodies : List BodyState) (f : X → ℕ) (xs : List X) → bodies ≡ []
    → flat_map (λ x. change_of bodies (f x)) xs ≡ []
none_noted {X = X} bodies f xs none = ap (λ bs. flat_map (λ x. change_of bs (f x)) xs) none ∙ all_none xs
  where
    all_none : (ys : List X) → flat_map (λ x. change_of [] (f x)) ys ≡ []
    all_none [] = refl
    all_none (y ∷ ys) = all_none ys

pub islands_within : (bodies : List BodyState) (islands : List Island)
    → All (λ c. c.number < length bodies) (changes_of_islands bodies islands)
islands_within bodies islands =
    subst (All (λ (c : BodyChange). c.number < length bodies)) (sym (notes_of_all bodies (λ (i : Island). i.numbers) islands))
    (all_within bodies (λ n. n) (flat_map (λ (i : Island). i.numbers) islands))

numbers_within : (n : ℕ) (changes : List BodyChange) → All (λ c. c.number < n) changes → All (λ number. number < n) (numbers_of changes)
numbers_within n changes within = All-map (λ (number : ℕ). number < n) (λ (c : BodyChange). c.number) changes within

-- one number more
range_suc : (start n : ℕ) → range_with_len start (suc n) ≡ range_with_len start n ++ (start + n) ∷ []
range_suc start zero = ap (λ m. m ∷ []) (none start)
  where
    none : (m : ℕ) → m ≡ m + 0
    none m = omega arith
range_suc start (suc n) =
    ap (λ ns. start ∷ ns) (range_suc (start + 1) n ∙ ap (λ m. range_with_len (start + 1) n ++ m ∷ []) (dirty start n))
  where
    dirty : (m k : ℕ) → (m + 1) + k ≡ m + suc k
    dirty m k = omega arith

pub numbered_more : (first now next : List ℕ) (n : ℕ) → now ≡ first ++ range_with_len 0 n → next ≡ now ++ n ∷ []
    → next ≡ first ++ range_with_len 0 (n + 1)
numbered_more first now next n now_is next_is =
    let after : suc n ≡ n + 1 = omega arith in
    let here : n ≡ 0 + n = omega arith in
    next_is ∙ ap₂ (λ ns m. ns ++ m ∷ []) now_is here ∙ append_assoc first (range_with_len 0 n) ((0 + n) ∷ [])
    ∙ ap (λ ns. first ++ ns) (sym (range_suc 0 n) ∙ ap (range_with_len 0) after)

range_within : (n : ℕ) → All (λ number. number < n) (range_with_len 0 n)
range_within n i d here =
    let long = length-range_with_len 0 n in
    let is = get_or-range_with_len 0 n i d (omega (arith, here, long)) in
    omega (arith, is, here, long)

listed_below : (n k : ℕ) → k < n → has_body (range_with_len 0 n) k ≡ true
listed_below n k below = has_body-below n k ∙ is_below
  where
    is_below : nat_lt k n ≡ true
    is_below = grind (arith, nat_tests)

-- ---- the next step

-- after commands, only the listed bodies may have moved
pub stayed_after_commands : (s : Scene) (w : World) (payloads : List Payload) (work : Work) (m : Manifolds) (dirty : List ℕ)
    (notes : List BodyChange) (after : List BodyState) → KnowsWorld s w work → m ≡ work.manifolds
    → notes ≡ changes_by_commands w.bodies payloads → after ≡ after_commands s.fixtures w.bodies payloads
    → dirty ≡ dirty_bodies work.is_known work.dirty (length w.bodies) (numbers_of notes)
    → All (λ number. number < length after) dirty × HaveStayed dirty (bodies_of m) s.fixtures after
stayed_after_commands s w payloads work m dirty notes after follows m_is noted after_is listed = by work.is_known refl
  where
    long_after : length after ≡ length w.bodies
    long_after = ap length after_is ∙ commands_length s.fixtures w.bodies payloads

    by : (known : Bool) → work.is_known ≡ known
        → All (λ number. number < length after) dirty × HaveStayed dirty (bodies_of m) s.fixtures after
    by true known =
        let knows = follows known in
        let list : dirty ≡ work.dirty ++ numbers_of notes =
        listed ∙ ap (λ b. dirty_bodies b work.dirty (length w.bodies) (numbers_of notes)) known in
        let there = subst (All (λ c. c.number < length w.bodies)) (sym noted) (all_within w.bodies body_of payloads) in (
          subst (λ n. All (λ number. number < n) dirty) (sym long_after)
              (subst (All (λ number. number < length w.bodies)) (sym list)
              (All-append (λ (number : ℕ). number < length w.bodies) work.dirty (numbers_of notes) knows.0
              (numbers_within (length w.bodies) notes there))),
          λ long k below other.
              let parts = neither work.dirty (numbers_of notes) k (sym (ap (λ ns. has_body ns k) list) ∙ other) in
              let same = unlisted notes after w.bodies k
              (ap₂ bodies_before noted after_is ∙ commands_before s.fixtures w.bodies payloads) parts.1 in
              let stood = knows.1 (ap (λ (x : Manifolds). length x.shapes) (sym m_is) ∙ long ∙ long_after) k
              (omega (arith, below, long_after)) parts.0 in (
                ap (λ (x : Manifolds). slice_get x.shapes k) m_is ∙ stood.0
                    ∙ same_made (λ (b : Fixture × BodyState). shape_of_body b.0 b.1) s.fixtures w.bodies after k (sym same),
                ap (λ (x : Manifolds). slice_get x.bounds k) m_is ∙ stood.1
                    ∙ same_made (λ (b : Fixture × BodyState). fixture_bounds b.0 b.1) s.fixtures w.bodies after k (sym same),
              ),
        )
    by false unknown =
        let list : dirty ≡ range_with_len 0 (length w.bodies) =
        listed ∙ ap (λ b. dirty_bodies b work.dirty (length w.bodies) (numbers_of notes)) unknown in (
          subst (λ n. All (λ number. number < n) dirty) (sym long_after)
              (subst (All (λ number. number < length w.bodies)) (sym list) (range_within (length w.bodies))),
          λ long k below other.
              absurd (true≢false (sym (listed_below (length w.bodies) k (omega (arith, below, long_after)))
              ∙ sym (ap (λ ns. has_body ns k) list) ∙ other)),
        )

-- contacts have the keys of the new points, where these have those of the kept ones
pub keys_after_commands : (s : Scene) (w : World) (work : Work) (kept found : Manifolds) → KnowsWorld s w work
    → work.is_known ≡ true → kept ≡ work.manifolds
    → map key_of (kept_touches kept) ≡ map key_of (kept_touches found)
    → map (λ c. c.key) w.contacts ≡ map key_of (kept_touches found)
keys_after_commands s w work kept found follows known kept_is same =
    (follows known).2 ∙ ap (λ m. map key_of (kept_touches m)) (sym kept_is) ∙ same

-- after a step, only bodies that it changed may have moved since the contact points were computed
pub stayed_after_step : (s : Scene) (before commanded after : List BodyState) (m : Manifolds) (notes changes : List BodyChange)
    → length after ≡ length before
    → m.shapes ≡ placed_shapes s.fixtures commanded → m.bounds ≡ all_bounds s.fixtures commanded
    → All (λ c. c.number < length before) notes → AreAdded (length before) notes changes
    → bodies_before notes commanded ≡ before → bodies_before changes after ≡ before
    → All (λ number. number < length after) (numbers_of changes) × HaveStayed (numbers_of changes) (bodies_of m) s.fixtures after
stayed_after_step s before commanded after m notes changes long shapes bounds within added noted undone =
    let more = added.0 in
    let there = subst (All (λ c. c.number < length before)) (sym added.1)
    (All-append (λ (c : BodyChange). c.number < length before) notes more within added.2) in (
      subst (λ n. All (λ number. number < n) (numbers_of changes)) (sym long) (numbers_within (length before) changes there),
      λ as_many k below other.
          let parts = neither (numbers_of notes) (numbers_of more) k
          (sym (ap (λ cs. has_body (numbers_of cs) k) added.1 ∙ ap (λ ns. has_body ns k) (numbers_more notes more)) ∙ other) in
          let same : slice_get commanded k ≡ slice_get after k =
          unlisted notes commanded before k noted parts.0 ∙ sym (unlisted changes after before k undone other) in (
            ap (λ xs. slice_get xs k) shapes
                ∙ same_made (λ (b : Fixture × BodyState). shape_of_body b.0 b.1) s.fixtures commanded after k same,
            ap (λ xs. slice_get xs k) bounds
                ∙ same_made (λ (b : Fixture × BodyState). fixture_bounds b.0 b.1) s.fixtures commanded after k same,
          ),
    )
