use Rattle.std.proofs.Common.{rules, ◌∙◌, ◌<◌, arith, ℕ, List, ap, length, map, subst, sym, take_all}
use Rattle.std.specs.Prelude.{All}
use Rattle.std.proofs.lemmas.List.{with_items_is}
use Rattle.pf_manifold.specs.Touches.{IsTouchOf, Touch}
use Rattle.pf_islands.specs.Dealing.{AreIslandPlaces, ArePlaces}
use Rattle.pf_islands.specs.Lone.{only_awake}
use Rattle.pf_islands.specs.Rows.{active_rows}
use Rattle.pf_islands.specs.Split.{IsIslandOf, active_labels, islands}
use Rattle.pf_islands.proofs.ActiveRows.{of_active, point_low, row_at, rows_fit}
use Rattle.pf_islands.proofs.Filled.{full_part}
use Rattle.pf_islands.proofs.DealtRows.{has_island, one_dealt}
use Rattle.pf_islands.proofs.SettledGroups.{labels_long, labels_low, labels_rows, labels_woken}
use Rattle.pf_islands.proofs.Whole.{islands_fit}
use Rattle.pf_islands.proofs.dealing.deal.Goals.{After-point-item}
use Rattle.pf_islands.proofs.dealing.deal.Goals as goal

pub empty_islands-requires-clause-numbers : goal.empty_islands-requires-clause-numbers
empty_islands-requires-clause-numbers c = c.requires.numbers.in_order

pub empty_islands-requires-clause-as_many_bodies : goal.empty_islands-requires-clause-as_many_bodies
empty_islands-requires-clause-as_many_bodies c =
    sym
    (labels_long c.args.scene.now (only_awake c.args.numbers.now c.args.bodies.now) c.requires.settled.touches c.requires.numbers.as_many c.requires.settled.settled c.args.labels.now
    c.args.points.now c.requires.settled.active c.requires.labelled)

pub deal_bodies-requires-clause-numbers : goal.deal_bodies-requires-clause-numbers
deal_bodies-requires-clause-numbers c =
    record {
      as_many = sym
          (labels_long c.args.scene.now (only_awake c.args.numbers.now c.args.bodies.now) c.requires.settled.touches c.requires.numbers.as_many c.requires.settled.settled c.args.labels.now
          c.args.points.now c.requires.settled.active c.requires.labelled);
      in_order = c.requires.numbers.in_order;
      states = c.requires.numbers.states;
    }

pub deal_bodies-requires-clause-bodies : goal.deal_bodies-requires-clause-bodies
deal_bodies-requires-clause-bodies c =
    c.requires.bodies ∙ sym c.requires.numbers.as_many
    ∙ sym
    (labels_long c.args.scene.now (only_awake c.args.numbers.now c.args.bodies.now) c.requires.settled.touches c.requires.numbers.as_many c.requires.settled.settled c.args.labels.now
    c.args.points.now c.requires.settled.active c.requires.labelled)

pub deal_bodies-requires-clause-labelled : goal.deal_bodies-requires-clause-labelled
deal_bodies-requires-clause-labelled c =
    labels_low c.args.scene.now (only_awake c.args.numbers.now c.args.bodies.now) c.requires.settled.touches c.requires.numbers.as_many c.requires.settled.settled c.args.labels.now
    c.args.points.now c.requires.settled.active c.requires.labelled

pub loop-point-init : goal.loop-point-init
loop-point-init c =
    with_items_is c.in_ok-made.made c.deal_bodies.new.islands (c.deal_bodies.auto.islands ∙ c.deref_mut.ensures.len)
    ∙ c.in_ok-deal_bodies.ensures.islands

pub deal_row-requires-clause-island_places : goal.deal_row-requires-clause-island_places
deal_row-requires-clause-island_places c = ap length c.deref-in-loop-point.ensures.value ∙ c.in_ok-made.ensures.as_many

-- the place of the contact point of this turn of the loop
place_low : (c : After-point-item) → c.point-item.result.0 < length c.args.contacts.now
place_low c =
    point_low c.args.scene.now (only_awake c.args.numbers.now c.args.bodies.now) c.requires.settled.touches c.args.contacts.now
    c.args.points.now c.loop-point.point-index c.point-item.result c.requires.settled.active c.requires.settled.as_many
    c.loop-point-test.true c.point-item.is

pub offset_bounds-contacts-place : goal.offset_bounds-contacts-place
offset_bounds-contacts-place c =
    let low = place_low (goal.at.offset_bounds-contacts-place c).After-point-item in
    search (rules, arith, low)

pub bounds-contacts-place : goal.bounds-contacts-place
bounds-contacts-place c = place_low (goal.at.bounds-contacts-place c).After-point-item

pub deal_row-requires-clause-touch : goal.deal_row-requires-clause-touch
deal_row-requires-clause-touch c =
    let bodies = only_awake c.args.numbers.now c.args.bodies.now in
    let k = c.loop-point.point-index in
    let m = c.point-item.result in
    subst (λ n. IsTouchOf n m.1) c.requires.numbers.as_many
    (subst (λ (x : ℕ × Touch). IsTouchOf (length bodies) x.1) (sym c.point-item.is)
    (of_active c.args.scene.now bodies c.requires.settled.touches c.args.points.now (IsTouchOf (length bodies))
    c.requires.settled.active c.requires.settled.of_bodies k m c.loop-point-test.true))

pub deal_row-requires-clause-island : goal.deal_row-requires-clause-island
deal_row-requires-clause-island c =
    let island_places = c.deref-in-loop-point.result.now in
    has_island c.args.scene.now (only_awake c.args.numbers.now c.args.bodies.now) c.requires.settled.touches c.args.contacts.now
    c.args.points.now c.args.labels.now island_places c.requires.numbers.as_many c.requires.settled.settled c.requires.settled.of_bodies
    c.requires.settled.as_many c.requires.settled.active c.requires.labelled
    (subst (AreIslandPlaces c.args.labels.now (only_awake c.args.numbers.now c.args.bodies.now)) (sym c.deref-in-loop-point.ensures.value)
    c.in_ok-made.ensures.island_places)
    c.loop-point.point-index c.point-item.result c.index-contacts-place.result c.loop-point-test.true
    c.point-item.is c.index-contacts-place.is
    c.deref_mut-in-loop-point.result.now (c.deref_mut-in-loop-point.ensures.value ∙ c.loop-point.invariant)

pub loop-point-preserved : goal.loop-point-preserved
loop-point-preserved c =
    let labels = c.args.labels.now in
    let bodies = (only_awake c.args.numbers.now c.args.bodies.now) in
    let noted = subst (ArePlaces labels bodies)
    (sym (c.deref-in-loop-point-2.ensures.value
    ∙ with_items_is c.in_ok-body_places.body_places c.deal_bodies.new.places (c.deal_bodies.auto.places ∙ c.deref_mut-2.ensures.len)))
    c.in_ok-deal_bodies.ensures.places in
    with_items_is c.loop-point.made c.deal_row.new.islands (c.deal_row.auto.islands ∙ c.deref_mut-in-loop-point.ensures.len)
    ∙ one_dealt c.args.scene.now bodies c.requires.settled.touches c.args.contacts.now c.args.points.now labels
    c.deref-in-loop-point.result.now
    c.requires.numbers.as_many c.requires.settled.settled c.requires.settled.of_bodies c.requires.settled.as_many
    c.requires.settled.active c.requires.labelled
    (subst (AreIslandPlaces labels bodies) (sym c.deref-in-loop-point.ensures.value) c.in_ok-made.ensures.island_places)
    c.loop-point.point-index c.point-item.result c.index-contacts-place.result c.loop-point-test.true
    c.point-item.is c.index-contacts-place.is
    c.deref_mut-in-loop-point.result.now (c.deref_mut-in-loop-point.ensures.value ∙ c.loop-point.invariant)
    c.deref-in-loop-point-2.result.now c.deal_row.new.islands noted c.in_ok-deal_row.ensures

pub deal_bodies-requires-clause-woken_bodies : goal.deal_bodies-requires-clause-woken_bodies
deal_bodies-requires-clause-woken_bodies c =
    labels_woken c.args.scene.now (only_awake c.args.numbers.now c.args.bodies.now) c.requires.settled.touches c.requires.numbers.as_many
    c.requires.settled.settled c.args.labels.now c.args.points.now c.requires.settled.active c.requires.labelled

pub returns-clause-value : goal.returns-clause-value
returns-clause-value c =
    let s = c.args.scene.now in
    let bodies = (only_awake c.args.numbers.now c.args.bodies.now) in
    let points = c.args.points.now in
    let labels = c.args.labels.now in
    let rows = map (row_at s c.args.contacts.now) in
    c.loop-point.invariant
    ∙ ap (λ (ms : List (ℕ × Touch)). map (full_part labels bodies (rows ms)) (active_labels labels bodies))
    (take_all c.loop-point.point-index points c.loop-point-test.false)
    ∙ ap (λ (ls : List ℕ). islands ls bodies (rows points)) c.requires.labelled

pub returns-clause-fit : goal.returns-clause-fit
returns-clause-fit c =
    let s = c.args.scene.now in
    let touches = c.requires.settled.touches in
    let contacts = c.args.contacts.now in
    let bodies = (only_awake c.args.numbers.now c.args.bodies.now) in
    let labels = c.args.labels.now in
    let points = c.args.points.now in
    let rows = active_rows s bodies touches contacts in
    let active = labels_rows s bodies touches c.requires.numbers.as_many c.requires.settled.settled labels points
    c.requires.settled.active c.requires.labelled contacts c.requires.settled.of_bodies in
    subst (All (IsIslandOf s))
    (sym
    (returns-clause-value c
    ∙ ap (λ (ls : List ℕ). islands ls bodies (map (row_at s contacts) points)) (sym c.requires.labelled)
    ∙ ap (λ ms. islands labels bodies (map (row_at s contacts) ms)) c.requires.settled.active))
    (islands_fit labels bodies rows s active
    (rows_fit s bodies touches contacts c.requires.numbers.as_many c.requires.settled.of_bodies))
