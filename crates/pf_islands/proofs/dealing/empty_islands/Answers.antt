use Rattle.std.proofs.Common.{rules, ◌∙◌, ◌+◌, get_or, length, set, length-set, arith, true, false}
use Rattle.std.proofs.lemmas.Bool.{eq-eqb, ne_eqb}
use Rattle.pf_islands.specs.Lone.{only_awake}
use Rattle.pf_islands.specs.Rows.{is_awake_at}
use Rattle.pf_islands.proofs.AwakeNumbers.{AreEmptied, asleep_inactive, awake_active, emptied_more, emptied_same, none_emptied}
use Rattle.pf_islands.specs.Split.{is_active_label}
use Rattle.pf_cache.proofs.ChosenNumbers.{at_first, at_next, at_number, number_chosen, number_low}
use Rattle.pf_islands.proofs.Members.{few_chosen}
use Rattle.pf_islands.proofs.dealing.empty_islands.Goals.{then-labels-number+in_ok-clear_at, else-labels-number}
use Rattle.pf_islands.proofs.dealing.empty_islands.Goals as goal

pub loop-number-init : goal.loop-number-init
loop-number-init c =
    let labels = c.args.labels.now in
    let bodies = (only_awake c.args.numbers.now c.args.bodies.now) in
    let islands = c.args.spare.items in
    let island_places = c.args.row_counts.items in
    record {
      emptied = at_first (is_awake_at bodies) (length bodies) c.args.numbers.now c.requires.numbers (AreEmptied labels bodies islands 0 island_places)
          (λ j below asleep h. emptied_same labels bodies islands 0 island_places j (asleep_inactive labels bodies j asleep) h)
          (none_emptied labels bodies islands island_places);
      within = search rules;
      long = c.requires.row_counts;
    }

pub offset_bounds-labels-number : goal.offset_bounds-labels-number
offset_bounds-labels-number c =
    let low = number_low (is_awake_at (only_awake c.args.numbers.now c.args.bodies.now)) (length (only_awake c.args.numbers.now c.args.bodies.now)) c.args.numbers.now c.requires.numbers c.loop-number.number-index 0 c.loop-number-test.true in
    search (rules, low, c.requires.as_many_bodies)

pub bounds-labels-number : goal.bounds-labels-number
bounds-labels-number c =
    let low = number_low (is_awake_at (only_awake c.args.numbers.now c.args.bodies.now)) (length (only_awake c.args.numbers.now c.args.bodies.now)) c.args.numbers.now c.requires.numbers c.loop-number.number-index 0 c.loop-number-test.true in
    omega (arith, low, c.requires.as_many_bodies)

pub overflow_cast-count : goal.overflow_cast-count
overflow_cast-count c =
    let labels = c.args.labels.now in
    let bodies = (only_awake c.args.numbers.now c.args.bodies.now) in
    let numbers = c.args.numbers.now in
    let i = c.loop-number.number-index in
    let test = c.loop-number-test.true in
    let low = number_low (is_awake_at bodies) (length bodies) numbers c.requires.numbers i 0 test in
    let before = at_number (is_awake_at bodies) (length bodies) numbers c.requires.numbers
    (AreEmptied labels bodies c.loop-number.islands.items c.loop-number.count c.loop-number.island_places.items) i test
    c.loop-number.invariant.emptied in
    let number = before.number in
    let few = few_chosen (is_active_label labels bodies) (get_or numbers i 0) in
    search (rules, number, few, low, c.requires.as_many_bodies, c.requires.few)

pub loop-number-preserved : goal.loop-number-preserved
loop-number-preserved c =
    let labels = c.args.labels.now in
    let bodies = (only_awake c.args.numbers.now c.args.bodies.now) in
    let numbers = c.args.numbers.now in
    let i = c.loop-number.number-index in
    let k = get_or numbers i 0 in
    let test = c.loop-number-test.true in
    let low = number_low (is_awake_at bodies) (length bodies) numbers c.requires.numbers i 0 test in
    let awake = number_chosen (is_awake_at bodies) (length bodies) numbers c.requires.numbers i 0 test in
    let before = at_number (is_awake_at bodies) (length bodies) numbers c.requires.numbers
    (AreEmptied labels bodies c.loop-number.islands.items c.loop-number.count c.loop-number.island_places.items) i test
    c.loop-number.invariant.emptied in
    record {
      emptied = elim c.if-labels-number.branch [
        | then-labels-number+in_ok-clear_at w ↦ rw w.islands-is (rw w.island_places-is (rw w.count-is
            (at_next (is_awake_at bodies) (length bodies) numbers c.requires.numbers
            (AreEmptied labels bodies w.clear_at.new.islands.items (c.loop-number.count + 1)
            (set c.loop-number.island_places.items k c.loop-number.count))
            (λ j below asleep h. emptied_same labels bodies _ _ _ j (asleep_inactive labels bodies j asleep) h) i test
            (emptied_more labels bodies c.loop-number.islands.items w.clear_at.new.islands.items c.loop-number.count
            c.loop-number.island_places.items k (omega (arith, low, c.requires.as_many_bodies, c.loop-number.invariant.long))
            (awake_active labels bodies k true awake (eq-eqb (get_or labels k 0) k w.if-labels-number.true))
            w.in_ok-clear_at.ensures.cleared before))))
        | else-labels-number w ↦ rw w.islands-is (rw w.island_places-is (rw w.count-is
            (at_next (is_awake_at bodies) (length bodies) numbers c.requires.numbers
            (AreEmptied labels bodies c.loop-number.islands.items c.loop-number.count c.loop-number.island_places.items)
            (λ j below asleep h. emptied_same labels bodies _ _ _ j (asleep_inactive labels bodies j asleep) h) i test
            (emptied_same labels bodies _ _ _ k (awake_active labels bodies k false awake (ne_eqb (get_or labels k 0) k w.if-labels-number.false)) before))))
      ];
      within = elim c.if-labels-number.branch [
        | then-labels-number+in_ok-clear_at w ↦ rw w.islands-is (rw w.count-is
            (let inside = w.in_ok-clear_at.ensures.within in omega (arith, inside)))
        | else-labels-number w ↦ rw w.islands-is (rw w.count-is (c.loop-number.invariant.within))
      ];
      long = elim c.if-labels-number.branch [
        | then-labels-number+in_ok-clear_at w ↦ rw w.island_places-is
            (length-set c.loop-number.island_places.items k c.loop-number.count ∙ c.loop-number.invariant.long)
        | else-labels-number w ↦ rw w.island_places-is c.loop-number.invariant.long
      ];
    }
