-- Bodies before changes.
use Rattle.std.proofs.Common.{◌≡◌, ◌≢◌, ◌∙◌, ℕ, ◌<◌, ◌==◌, ◌||◌, Bool, true, false, List, [], ◌∷◌, ◌++◌, Option, Some, None, length, get_or, refl, sym, ap, arith, slice_get, slice_set}
use Rattle.std.specs.Prelude.{All}
use Rattle.std.proofs.lemmas.Bool.Decides.{nat_tests}
use Rattle.std.proofs.lemmas.Grind.{flat_map-append}
use Rattle.std.proofs.lemmas.List.{length-set, ext_get_or, get_or-set_same, get_or-set_other}
use Rattle.std.proofs.lemmas.List.Elements.{All-head, All-tail}
use Rattle.std.proofs.lemmas.List.Folds.{list_any-append}
use Rattle.std.proofs.lemmas.Option.{get_or_from_slice_get, slice_get-get_or}
use Rattle.std.specs.List.{flat_map, list_any}
use Rattle.pf_shapes.specs.Body.{BodyState, no_state}
use Rattle.pf_islands.specs.Island.{has_number}
use Rattle.pf_islands.specs.Split.{Island}
use Rattle.pf_islands.proofs.Elements.{set_other, set_same}
use Rattle.pf_step.specs.Changes.{BodyChange, bodies_before, change_if, change_of, changes_of, changes_of_islands}

-- changes after others
pub before_more : (changes later : List BodyChange) (bodies : List BodyState)
    → bodies_before (changes ++ later) bodies ≡ bodies_before changes (bodies_before later bodies)
unfolding bodies_before
before_more [] later bodies = refl
before_more (c ∷ changes) later bodies =
    ap (λ bs. slice_set bs c.number c.before) (before_more changes later bodies)

pub before_length : (changes : List BodyChange) (bodies : List BodyState)
    → length (bodies_before changes bodies) ≡ length bodies
unfolding bodies_before
before_length [] bodies = refl
before_length (c ∷ changes) bodies =
    length-set (bodies_before changes bodies) c.number c.before ∙ before_length changes bodies

-- the last change is undone first
pub undone_last : (changes less : List BodyChange) (c : BodyChange) (bodies : List BodyState) → changes ≡ less ++ c ∷ []
    → bodies_before less (slice_set bodies c.number c.before) ≡ bodies_before changes bodies
unfolding bodies_before
undone_last changes less c bodies is =
    sym (before_more less (c ∷ []) bodies) ∙ ap (λ cs. bodies_before cs bodies) (sym is)

-- ---- bodies that were noted as they are

module _ (bodies after : List BodyState) (long : length after ≡ length bodies) where
  -- one note more
  noted_one : (n j : ℕ) (rest : List BodyChange) (b : Option BodyState) → slice_get bodies n ≡ b → j < length bodies
      → ((n == j) ≡ false → get_or (bodies_before rest after) j no_state ≡ get_or bodies j no_state)
      → get_or (bodies_before (change_if n b ++ rest) after) j no_state ≡ get_or bodies j no_state
  unfolding bodies_before
  noted_one n j rest (Some x) here within others = by (n == j) refl
    where
      by : (t : Bool) → (n == j) ≡ t
          → get_or (slice_set (bodies_before rest after) n x) j no_state ≡ get_or bodies j no_state
      by true same =
          let is : n ≡ j = grind (arith, nat_tests) in
          ap (λ i. get_or (slice_set (bodies_before rest after) n x) i no_state) (sym is)
          ∙ get_or-set_same (bodies_before rest after) n x no_state (omega (arith, within, is, long, before_length rest after))
          ∙ sym (get_or_from_slice_get bodies n x no_state here) ∙ ap (λ i. get_or bodies i no_state) is
      by false other =
          get_or-set_other (bodies_before rest after) n j x no_state (λ is. absurd (grind (arith, nat_tests))) ∙ others other
  noted_one n j rest None here within others = others (no_body here)
    where
      no_body : slice_get bodies n ≡ None → (n == j) ≡ false
      no_body none = by (n == j) refl
        where
          by : (t : Bool) → (n == j) ≡ t → t ≡ false
          by false other = refl
          by true same =
              let is : n ≡ j = grind (arith, nat_tests) in
              let found = slice_get-get_or bodies n no_state (omega (arith, within, is)) in
              absurd (let clash = sym none ∙ found in cc)

  noted_at : (numbers : List ℕ) (j : ℕ) → j < length bodies
      → (has_number numbers j ≡ false → get_or after j no_state ≡ get_or bodies j no_state)
      → get_or (bodies_before (changes_of bodies numbers) after) j no_state ≡ get_or bodies j no_state
  unfolding bodies_before
  noted_at [] j within others = others refl
  noted_at (n ∷ numbers) j within others =
      noted_one n j (changes_of bodies numbers) (slice_get bodies n) refl within
      (λ other. noted_at numbers j within (λ none. others (ap (λ t. t || has_number numbers j) other ∙ none)))

  -- where all others stay, undoing the notes gives the bodies
  pub noted_before : (numbers : List ℕ)
      → ((j : ℕ) → j < length bodies → has_number numbers j ≡ false → get_or after j no_state ≡ get_or bodies j no_state)
      → bodies_before (changes_of bodies numbers) after ≡ bodies
  noted_before numbers others =
      ext_get_or no_state (bodies_before (changes_of bodies numbers) after) bodies (before_length (changes_of bodies numbers) after ∙ long)
      (λ j within.
      let inside : j < length bodies = omega (arith, within, long, before_length (changes_of bodies numbers) after) in
      noted_at numbers j inside (others j inside))

-- notes of bodies as they are undo nothing
pub notes_undo_nothing : (changes : List BodyChange) (bodies : List BodyState) (numbers : List ℕ)
    → bodies_before (changes ++ changes_of bodies numbers) bodies ≡ bodies_before changes bodies
notes_undo_nothing changes bodies numbers =
    before_more changes (changes_of bodies numbers) bodies
    ∙ ap (bodies_before changes) (noted_before bodies bodies refl numbers (λ j within none. refl))

-- the notes of a list of lists of numbers are those of all
pub notes_of_all : {X : Type 0} (bodies : List BodyState) (f : X → List ℕ) (xs : List X)
    → flat_map (λ x. changes_of bodies (f x)) xs ≡ changes_of bodies (flat_map f xs)
notes_of_all bodies f [] = refl
notes_of_all bodies f (x ∷ xs) =
    ap (λ cs. changes_of bodies (f x) ++ cs) (notes_of_all bodies f xs)
    ∙ sym (flat_map-append (change_of bodies) (f x) (flat_map f xs))

pub island_notes_undo_nothing : (changes : List BodyChange) (bodies : List BodyState) (islands : List Island)
    → bodies_before (changes ++ changes_of_islands bodies islands) bodies ≡ bodies_before changes bodies
island_notes_undo_nothing changes bodies islands =
    ap (λ cs. bodies_before (changes ++ cs) bodies) (notes_of_all bodies (λ (i : Island). i.numbers) islands)
    ∙ notes_undo_nothing changes bodies (flat_map (λ (i : Island). i.numbers) islands)

-- a number of islands
pub number_of_all : (islands : List Island) (j : ℕ)
    → has_number (flat_map (λ (i : Island). i.numbers) islands) j ≡ list_any (λ (i : Island). has_number i.numbers j) islands
number_of_all [] j = refl
number_of_all (i ∷ islands) j =
    list_any-append (λ m. m == j) i.numbers (flat_map (λ (x : Island). x.numbers) islands)
    ∙ ap (λ t. has_number i.numbers j || t) (number_of_all islands j)

-- ---- which state a body has before changes

-- that of its first change
pub first_decides : (earlier later : List BodyChange) (c : BodyChange) (bodies : List BodyState)
    → All (λ e. e.number ≢ c.number) earlier → c.number < length bodies
    → slice_get (bodies_before (earlier ++ c ∷ later) bodies) c.number ≡ Some c.before
unfolding bodies_before
first_decides [] later c bodies none within =
    set_same (bodies_before later bodies) c.number c.before (get_or (bodies_before later bodies) c.number no_state)
    (slice_get-get_or (bodies_before later bodies) c.number no_state (omega (arith, within, before_length later bodies)))
first_decides (e ∷ earlier) later c bodies none within =
    set_other (bodies_before (earlier ++ c ∷ later) bodies) e.number c.number e.before
    (All-head (λ (x : BodyChange). x.number ≢ c.number) e earlier none)
    ∙ first_decides earlier later c bodies (All-tail (λ (x : BodyChange). x.number ≢ c.number) e earlier none) within

-- or, without one, that which it has
pub unchanged_stays : (changes : List BodyChange) (bodies : List BodyState) (i : ℕ)
    → All (λ c. c.number ≢ i) changes → slice_get (bodies_before changes bodies) i ≡ slice_get bodies i
unfolding bodies_before
unchanged_stays [] bodies i none = refl
unchanged_stays (c ∷ changes) bodies i none =
    set_other (bodies_before changes bodies) c.number i c.before (All-head (λ (x : BodyChange). x.number ≢ i) c changes none)
    ∙ unchanged_stays changes bodies i (All-tail (λ (x : BodyChange). x.number ≢ i) c changes none)
