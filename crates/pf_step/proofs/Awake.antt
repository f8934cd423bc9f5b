-- The bodies that a work lists have all awake ones among them, from step to step.
use Rattle.std.proofs.Common.{◌≡◌, ◌∙◌, ◌<◌, ◌||◌, ◌==◌, ℕ, Bool, true, false, List, [], ◌∷◌, ◌++◌, Option, Some, None, get_or, length, refl, sym, ap, ap₂, arith, slice_get}
use Rattle.std.specs.List.{flat_map}
use Rattle.std.specs.Prelude.{All}
use Rattle.std.proofs.lemmas.Bool.{true≢false}
use Rattle.std.proofs.lemmas.Bool.Decides.{nat_tests}
use Rattle.std.proofs.lemmas.List.Folds.{list_any-append}
use Rattle.std.proofs.lemmas.Option.{none-some, slice_get-get_or}
use Rattle.pf_shapes.specs.Body.{BodyState, no_state}
use Rattle.pf_shapes.specs.Scene.{Scene}
use Rattle.pf_broad.specs.Partners.{has_body}
use Rattle.pf_cache.proofs.Standing.{same_at}
use Rattle.pf_commands.specs.declared.payload.Payload.{Payload}
use Rattle.pf_islands.specs.Flags.{ListsAwake}
use Rattle.pf_islands.specs.Rows.{is_awake_at}
use Rattle.pf_islands.specs.Split.{Island}
use Rattle.pf_islands.proofs.Listed.{all_listed, awake_there}
use Rattle.pf_step.specs.Changes.{BodyChange, bodies_before, change_if, change_of, changes_by_commands, changes_of, changes_of_islands, numbers_of}
use Rattle.pf_step.specs.Commands.{after_commands}
use Rattle.pf_step.specs.Work.{KnowsWorld, Work, dirty_bodies}
use Rattle.pf_step.specs.World.{World}
use Rattle.pf_step.proofs.Changing.{notes_of_all}
use Rattle.pf_step.proofs.Commanding.{commands_before, commands_length}
use Rattle.pf_step.proofs.Following.{neither, numbers_more, stayed_after_commands, unlisted}
use Rattle.pf_cache.proofs.Restoring.{or_right}

-- a body that is the same in both is awake in both or in neither
awake_alike : (bodies others : List BodyState) (k : ℕ) → slice_get bodies k ≡ slice_get others k
    → is_awake_at bodies k ≡ is_awake_at others k
awake_alike bodies others k same = ap (λ (b : BodyState). b.awake) (same_at bodies others k same no_state)

-- where each body that is not listed stays as it is, and all awake ones are listed, the awake ones
-- are listed afterwards
still_listed : (numbers : List ℕ) (before after : List BodyState)
    → ((k : ℕ) → has_body numbers k ≡ false → slice_get after k ≡ slice_get before k)
    → ListsAwake numbers before → ListsAwake numbers after
still_listed numbers before after same awake k wakes = by (has_body numbers k) refl
  where
    by : (e : Bool) → has_body numbers k ≡ e → has_body numbers k ≡ true
    by true is = is
    by false other = awake k (sym (awake_alike after before k (same k other)) ∙ wakes)

-- ---- more bodies

or_first : (a b : Bool) → a ≡ true → (a || b) ≡ true
or_first true b is = refl
or_first false b is = absurd (true≢false (sym is))

listed_first : (first second : List ℕ) (bodies : List BodyState) → ListsAwake first bodies → ListsAwake (first ++ second) bodies
listed_first first second bodies awake k wakes =
    list_any-append (λ m. m == k) first second ∙ or_first (has_body first k) (has_body second k) (awake k wakes)

listed_second : (first second : List ℕ) (bodies : List BodyState) → ListsAwake second bodies → ListsAwake (first ++ second) bodies
listed_second first second bodies awake k wakes =
    list_any-append (λ m. m == k) first second ∙ or_right (has_body first k) (has_body second k) (awake k wakes)

-- ---- bodies that are noted

-- each listed body that exists is noted
noted_number : (bodies : List BodyState) (numbers : List ℕ) (k : ℕ) → k < length bodies → has_body numbers k ≡ true
    → has_body (numbers_of (changes_of bodies numbers)) k ≡ true
noted_number bodies [] k within listed = listed
noted_number bodies (n ∷ numbers) k within listed =
    ap (λ ns. has_body ns k) (numbers_more (change_of bodies n) (changes_of bodies numbers))
    ∙ list_any-append (λ m. m == k) (numbers_of (change_of bodies n)) (numbers_of (changes_of bodies numbers))
    ∙ by (n == k) refl listed (noted_number bodies numbers k within)
  where
    own : (b : Option BodyState) → slice_get bodies n ≡ b → n ≡ k → has_body (numbers_of (change_if n b)) k ≡ true
    own (Some b) here same = or_first (n == k) false (grind (arith, nat_tests))
    own None none same =
        absurd
        (none-some (get_or bodies n no_state) (sym none ∙ slice_get-get_or bodies n no_state (omega (arith, within, same))))

    by : (e : Bool) → (n == k) ≡ e → (e || has_body numbers k) ≡ true
        → (has_body numbers k ≡ true → has_body (numbers_of (changes_of bodies numbers)) k ≡ true)
        → (has_body (numbers_of (change_of bodies n)) k || has_body (numbers_of (changes_of bodies numbers)) k) ≡ true
    by true same all others =
        or_first _ (has_body (numbers_of (changes_of bodies numbers)) k) (own (slice_get bodies n) refl (grind (arith, nat_tests)))
    by false other rest others = or_right (has_body (numbers_of (change_of bodies n)) k) _ (others rest)

-- those of islands are noted, where the islands have all awake ones
pub islands_noted : (bodies : List BodyState) (islands : List Island)
    → ((k : ℕ) → k < length bodies → is_awake_at bodies k ≡ true
    → has_body (flat_map (λ (i : Island). i.numbers) islands) k ≡ true)
    → ListsAwake (numbers_of (changes_of_islands bodies islands)) bodies
islands_noted bodies islands have k wakes =
    let within = awake_there bodies k wakes in
    ap (λ cs. has_body (numbers_of cs) k) (notes_of_all bodies (λ (i : Island). i.numbers) islands)
    ∙ noted_number bodies (flat_map (λ (i : Island). i.numbers) islands) k within (have k within wakes)

-- ---- the next step

-- after commands
awake_after_commands : (s : Scene) (w : World) (payloads : List Payload) (work : Work) (dirty : List ℕ)
    (notes : List BodyChange) (after : List BodyState) → KnowsWorld s w work
    → notes ≡ changes_by_commands w.bodies payloads → after ≡ after_commands s.fixtures w.bodies payloads
    → dirty ≡ dirty_bodies work.is_known work.dirty (length w.bodies) (numbers_of notes)
    → ListsAwake dirty after
awake_after_commands s w payloads work dirty notes after follows noted after_is listed = by work.is_known refl
  where
    by : (known : Bool) → work.is_known ≡ known → ListsAwake dirty after
    by true known =
        let list : dirty ≡ work.dirty ++ numbers_of notes =
        listed ∙ ap (λ b. dirty_bodies b work.dirty (length w.bodies) (numbers_of notes)) known in
        still_listed dirty w.bodies after
        (λ k other.
        unlisted notes after w.bodies k (ap₂ bodies_before noted after_is ∙ commands_before s.fixtures w.bodies payloads)
        (neither work.dirty (numbers_of notes) k (sym (ap (λ ns. has_body ns k) list) ∙ other)).1)
        (λ k wakes.
        ap (λ ns. has_body ns k) list ∙ listed_first work.dirty (numbers_of notes) w.bodies (follows known).3 k wakes)
    by false unknown =
        all_listed dirty (length w.bodies) after
        (listed ∙ ap (λ b. dirty_bodies b work.dirty (length w.bodies) (numbers_of notes)) unknown)
        (sym (ap length after_is ∙ commands_length s.fixtures w.bodies payloads))

-- and all listed ones are bodies
pub listed_after_commands : (s : Scene) (w : World) (payloads : List Payload) (work : Work) (dirty : List ℕ)
    (notes : List BodyChange) (after : List BodyState) → KnowsWorld s w work
    → notes ≡ changes_by_commands w.bodies payloads → after ≡ after_commands s.fixtures w.bodies payloads
    → dirty ≡ dirty_bodies work.is_known work.dirty (length w.bodies) (numbers_of notes)
    → All (λ number. number < length after) dirty × ListsAwake dirty after
listed_after_commands s w payloads work dirty notes after follows noted after_is listed = (
  (stayed_after_commands s w payloads work work.manifolds dirty notes after follows refl noted after_is listed).0,
  awake_after_commands s w payloads work dirty notes after follows noted after_is listed,
)

-- after a step, where all that was awake before it is noted
pub awake_after_step : (first more changes : List BodyChange) (before after : List BodyState) → changes ≡ first ++ more
    → bodies_before more after ≡ before → ListsAwake (numbers_of more) before → ListsAwake (numbers_of changes) after
awake_after_step first more changes before after are undone awake k wakes =
    ap (λ cs. has_body (numbers_of cs) k) are ∙ ap (λ ns. has_body ns k) (numbers_more first more)
    ∙ listed_second (numbers_of first) (numbers_of more) after
    (still_listed (numbers_of more) before after (λ n other. unlisted more after before n undone other) awake) k wakes
