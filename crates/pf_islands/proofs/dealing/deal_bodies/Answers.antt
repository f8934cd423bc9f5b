use Rattle.std.proofs.Common.{rules, ◌≡◌, ◌<◌, ◌==◌, ◌∙◌, ℕ, List, ap, ap₂, arith, get_or, length, length-set, set, true}
use Rattle.std.proofs.lemmas.List.{get_or_read}
use Rattle.pf_shapes.specs.Body.{BodyState, no_state}
use Rattle.pf_islands.specs.Dealing.{island_place, with_island_body}
use Rattle.pf_islands.specs.Split.{Island, is_active_label, no_island}
use Rattle.pf_islands.specs.Lone.{only_awake}
use Rattle.pf_islands.specs.Rows.{is_awake_at}
use Rattle.pf_islands.proofs.AwakeNumbers.{AreDealt, dealt_asleep}
use Rattle.pf_islands.proofs.Filled.{dealt_more, first_part, island_at, island_place_within, placed_more}
use Rattle.pf_cache.proofs.ChosenNumbers.{at_first, at_next, at_number, number_chosen, number_low}
use Rattle.pf_islands.proofs.Members.{few_chosen}
use Rattle.pf_islands.proofs.dealing.deal_bodies.Goals.{In-loop-number}
use Rattle.pf_islands.proofs.dealing.deal_bodies.Goals as goal

-- ---- the body of this turn of the loop

-- the bodies, of which those without a number in the list count as asleep
abbrev seen : In-loop-number → List BodyState
seen c = only_awake c.args.numbers.now c.args.bodies.now

abbrev number : In-loop-number → ℕ
number c = get_or c.args.numbers.now c.loop-number.number-index 0

abbrev label : In-loop-number → ℕ
label c = get_or c.args.labels.now (number c) 0

low : (c : In-loop-number) → number c < length (seen c)
low c =
    number_low (is_awake_at (seen c)) (length (seen c)) c.args.numbers.now c.requires.numbers.in_order
    c.loop-number.number-index 0 c.loop-number-test.true

inside : (c : In-loop-number) → number c < length c.args.labels.now
inside c = omega (arith, low c, c.requires.numbers.as_many)

awake : (c : In-loop-number) → is_awake_at (seen c) (number c) ≡ true
awake c =
    number_chosen (is_awake_at (seen c)) (length (seen c)) c.args.numbers.now c.requires.numbers.in_order
    c.loop-number.number-index 0 c.loop-number-test.true

labelled : (c : In-loop-number) → label c < length c.args.labels.now
labelled c = c.requires.labelled (number c) 0 (inside c)

-- its group has an island
active : (c : In-loop-number) → is_active_label c.args.labels.now (seen c) (label c) ≡ true
active c = c.requires.woken_bodies.active (number c) (inside c) (awake c)

island_place_is : (c : In-loop-number) → get_or c.args.island_places.now (label c) 0 ≡ island_place c.args.labels.now (seen c) (label c)
island_place_is c = c.requires.island_places (label c) (labelled c) (active c)

-- the bodies before it are dealt
before : (c : In-loop-number) → AreDealt c.args.labels.now (seen c) c.loop-number.islands c.loop-number.places (number c)
before c =
    at_number (is_awake_at (seen c)) (length (seen c)) c.args.numbers.now c.requires.numbers.in_order
    (AreDealt c.args.labels.now (seen c) c.loop-number.islands c.loop-number.places) c.loop-number.number-index
    c.loop-number-test.true c.loop-number.invariant.dealt

-- its place is behind those of its group
place : (c : In-loop-number) (n p : ℕ) → n ≡ get_or c.args.island_places.now (label c) 0
    → p ≡ length (get_or c.loop-number.islands n no_island).numbers
    → p ≡ length (first_part c.args.labels.now (seen c) (number c) (label c)).numbers
place c n p island_is place_is =
    place_is
    ∙ ap₂ (λ xs m. length (get_or xs m no_island).numbers) (before c).parts (island_is ∙ island_place_is c)
    ∙ ap (λ (x : Island). length x.numbers)
    (island_at c.args.labels.now (seen c) (first_part c.args.labels.now (seen c) (number c)) (label c) (labelled c) (active c))

-- ---- the goals

pub loop-number-init : goal.loop-number-init
loop-number-init c =
    let labels = c.args.labels.now in
    let bodies = (only_awake c.args.numbers.now c.args.bodies.now) in
    record {
      dealt = at_first (is_awake_at bodies) (length bodies) c.args.numbers.now c.requires.numbers.in_order (AreDealt labels bodies c.args.islands.now c.args.places.now)
          (λ j below asleep h.
          dealt_asleep labels bodies _ _ j (omega (arith, below, c.requires.numbers.as_many)) c.requires.woken_bodies asleep h)
          (record { parts = c.requires.empty; noted = λ i below. absurd (omega (arith, below)) });
      long = c.requires.places;
    }

pub offset_bounds-labels-number : goal.offset_bounds-labels-number
offset_bounds-labels-number c =
    let low = inside (goal.at.offset_bounds-labels-number c).In-loop-number in
    search (rules, low)

pub bounds-labels-number : goal.bounds-labels-number
bounds-labels-number c = inside (goal.at.bounds-labels-number c).In-loop-number

pub offset_bounds-bodies-number : goal.offset_bounds-bodies-number
offset_bounds-bodies-number c =
    let low = inside (goal.at.offset_bounds-bodies-number c).In-loop-number in
    search (rules, low, c.requires.bodies)

pub bounds-bodies-number : goal.bounds-bodies-number
bounds-bodies-number c =
    let low = inside (goal.at.bounds-bodies-number c).In-loop-number in
    omega (arith, low, c.requires.bodies)

pub offset_bounds-places-number : goal.offset_bounds-places-number
offset_bounds-places-number c =
    let low = inside (goal.at.offset_bounds-places-number c).In-loop-number in
    search (rules, low)

pub bounds-places-number : goal.bounds-places-number
bounds-places-number c =
    let low = inside (goal.at.bounds-places-number c).In-loop-number in
    omega (arith, low, c.loop-number.invariant.long)

pub overflow_cast-places : goal.overflow_cast-places
overflow_cast-places c =
    let at = (goal.at.overflow_cast-places c).In-loop-number in
    let few = few_chosen (λ j. get_or c.args.labels.now j 0 == label at) (number at) in
    let place_is = place at _ _ c.from-island_place.ensures c.in_ok-places.ensures.place in
    let low = inside at in
    search (rules, place_is, few, low, c.requires.few)

pub add_body-requires : goal.add_body-requires
add_body-requires c =
    let at = (goal.at.add_body-requires c).In-loop-number in
    let labels = c.args.labels.now in
    let within = island_place_within labels (seen at) (first_part labels (seen at) (number at)) (label at) (labelled at) (active at) in
    omega (arith, island_place_is at, within, ap length (before at).parts)

pub loop-number-preserved : goal.loop-number-preserved
loop-number-preserved c =
    let at = (goal.at.loop-number-preserved c).In-loop-number in
    let labels = c.args.labels.now in
    let bodies = seen at in
    let k = number at in
    let islands = c.loop-number.islands in
    let places = c.loop-number.places in
    let body = c.index-bodies-number.result in
    record {
      dealt = at_next (is_awake_at bodies) (length bodies) c.args.numbers.now c.requires.numbers.in_order (AreDealt labels bodies _ _)
          (λ j below asleep h.
          dealt_asleep labels bodies _ _ j (omega (arith, below, c.requires.numbers.as_many)) c.requires.woken_bodies asleep h)
          c.loop-number.number-index c.loop-number-test.true
          (record {
            parts = dealt_more labels bodies k body islands c.add_body.new.islands (inside at) (labelled at) c.requires.woken_bodies (awake at)
                (get_or_read c.args.bodies.now k body (omega (arith, inside at, c.requires.bodies)) c.index-bodies-number.is no_state
                ∙ c.requires.numbers.states k (awake at))
                (before at).parts
                (c.in_ok-places.ensures.added
                ∙ ap (λ n. set islands n (with_island_body k body (get_or islands n no_island))) (c.from-island_place.ensures ∙ island_place_is at));
            noted = placed_more labels bodies k places c.in_ok-places.field-0 (inside at) c.loop-number.invariant.long
                (place at _ _ c.from-island_place.ensures c.in_ok-places.ensures.place) (before at).noted;
          });
      long = length-set places k _ ∙ c.loop-number.invariant.long;
    }
