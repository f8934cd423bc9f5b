use Rattle.std.proofs.Common.{◌≡◌, ◌∙◌, ◌<◌, ◌==◌, ℕ, List, All, ap, filter, get_or, length, not, subst, sym}
use Rattle.std.proofs.lemmas.List.Elements.{All-filter}
use Rattle.std.specs.List.{list_any, range_with_len}
use Rattle.pf_manifold.specs.Key.{IsRising}
use Rattle.pf_manifold.specs.Touches.{IsTouchOf, Touch}
use Rattle.pf_cache.proofs.ChosenNumbers.{number_low}
use Rattle.pf_islands.specs.Lone.{AreSomeAwake, group_of_touch, is_dealt, lone_numbers, made_islands, only_awake}
use Rattle.pf_islands.specs.Rows.{is_awake_at}
use Rattle.pf_islands.specs.Settled.{touches_of}
use Rattle.pf_islands.proofs.ActiveRows.{of_active}
use Rattle.pf_islands.proofs.Members.{filter_rises, range_rises}
use Rattle.pf_islands.proofs.Parted.{IsParted, parted}
use Rattle.pf_islands.proofs.SettledGroups.{labels_long, others_alone, same_islands}
use Rattle.pf_islands.proofs.splitting.split_settled.Goals as goal
use Rattle.pf_islands.proofs.splitting.split_settled.Goals.{After-labels-labels, After-deref-2}

-- there is a label for each body
as_many : (c : After-labels-labels) → length c.labels-labels.result.now ≡ length c.args.bodies.now
as_many c =
    labels_long c.args.scene.now c.args.bodies.now c.requires.settled.touches c.requires.bodies c.requires.settled.settled
    c.labels-labels.result.now c.as_slice-points.result.now (c.as_slice-points.ensures.value ∙ c.requires.settled.active)
    (c.labels-labels.ensures.value ∙ c.in_ok-groups.ensures.value)

-- the bodies that go into islands, and the others
parts : (c : After-deref-2)
    → IsParted c.args.scene.now c.args.bodies.now c.requires.settled.touches c.args.contacts.now c.args.lone c.deref-2.result.now
    c.in_ok-dealt.lone_numbers.items
parts c =
    let labels = c.labels-labels.result.now in
    let points = c.as_slice-points.result.now in
    let settled = c.requires.settled in
    let counts = c.deref.result.now in
    let awake = c.as_slice-numbers.ensures.value ∙ c.requires.numbers in
    parted c.args.scene.now c.args.bodies.now c.requires.settled.touches c.args.contacts.now c.args.lone c.requires.bodies
    settled.settled settled.of_bodies labels counts c.deref-2.result.now c.in_ok-dealt.lone_numbers.items points
    (c.as_slice-points.ensures.value ∙ c.requires.settled.active) (c.labels-labels.ensures.value ∙ c.in_ok-groups.ensures.value)
    (subst
    (λ (ns : List ℕ). (label : ℕ) → label < length labels → (get_or ns label 0 == 0)
    ≡ not (list_any (λ t. group_of_touch c.args.scene.now labels t == label) (touches_of points)))
    (sym c.deref.ensures.value) c.in_ok-row_counts.ensures.none)
    (c.deref-2.ensures.value ∙ c.in_ok-dealt.ensures.dealt
    ∙ ap (filter (λ n. is_dealt c.args.lone (get_or counts (get_or labels n 0) 0))) awake)
    (c.in_ok-dealt.ensures.lone_numbers
    ∙ ap (filter (λ n. not (is_dealt c.args.lone (get_or counts (get_or labels n 0) 0)))) awake)

pub new-requires-clause-numbers : goal.new-requires-clause-numbers
new-requires-clause-numbers c =
    others_alone c.args.scene.now c.args.bodies.now c.requires.settled.touches c.requires.bodies c.requires.settled.settled
    c.as_slice-points.result.now c.as_slice-numbers.result.now (c.as_slice-points.ensures.value ∙ c.requires.settled.active)
    (c.as_slice-numbers.ensures.value ∙ c.requires.numbers)

pub row_counts-requires-clause-labels : goal.row_counts-requires-clause-labels
row_counts-requires-clause-labels c =
    as_many (goal.at.row_counts-requires-clause-labels c).After-labels-labels ∙ c.requires.bodies

pub new-requires-clause-touches : goal.new-requires-clause-touches
new-requires-clause-touches c =
    let settled = c.requires.settled in
    subst (λ n. All (λ (m : ℕ × Touch). IsTouchOf n m.1) c.as_slice-points.result.now) c.requires.bodies
    (of_active c.args.scene.now c.args.bodies.now settled.touches c.as_slice-points.result.now (IsTouchOf (length c.args.bodies.now))
    (c.as_slice-points.ensures.value ∙ settled.active) settled.of_bodies)

pub row_counts-requires-clause-touches : goal.row_counts-requires-clause-touches
row_counts-requires-clause-touches c =
    let settled = c.requires.settled in
    subst (λ n. All (λ (m : ℕ × Touch). IsTouchOf n m.1) c.as_slice-points.result.now)
    (sym (as_many (goal.at.row_counts-requires-clause-touches c).After-labels-labels))
    (of_active c.args.scene.now c.args.bodies.now settled.touches c.as_slice-points.result.now (IsTouchOf (length c.args.bodies.now))
    (c.as_slice-points.ensures.value ∙ settled.active) settled.of_bodies)

pub parted_numbers-requires-clause-numbers : goal.parted_numbers-requires-clause-numbers
parted_numbers-requires-clause-numbers c =
    let many = as_many (goal.at.parted_numbers-requires-clause-numbers c).After-labels-labels in
    let low = number_low (is_awake_at c.args.bodies.now) (length c.args.bodies.now) c.as_slice-numbers.result.now
    (c.as_slice-numbers.ensures.value ∙ c.requires.numbers) in
    subst (λ n. All (λ number. number < n) c.as_slice-numbers.result.now) (sym many) low

pub deal-requires-clause-settled : goal.deal-requires-clause-settled
deal-requires-clause-settled c =
    let parted = parts (goal.at.deal-requires-clause-settled c).After-deref-2 in
    let settled = c.requires.settled in
    record {
      touches = settled.touches;
      of_bodies = subst (λ n. All (IsTouchOf n) settled.touches) (sym parted.numbers_are.as_many) settled.of_bodies;
      as_many = settled.as_many;
      settled = parted.settled;
      active = c.as_slice-points.ensures.value ∙ settled.active ∙ parted.points;
    }

pub deal-requires-clause-numbers : goal.deal-requires-clause-numbers
deal-requires-clause-numbers c =
    subst (λ n. AreSomeAwake n c.deref-2.result.now c.args.bodies.now) c.requires.bodies
    (parts (goal.at.deal-requires-clause-numbers c).After-deref-2).numbers_are

pub returns-clause-parts : goal.returns-clause-parts
returns-clause-parts c =
    let parted = parts (goal.at.returns-clause-parts c).After-deref-2 in
    let count = length c.args.bodies.now in
    let numbers = range_with_len 0 count in
    let is_awake = is_awake_at c.args.bodies.now in
    let awake = c.as_slice-numbers.ensures.value ∙ c.requires.numbers in
    let is_lone = λ (n : ℕ).
    not (is_dealt c.args.lone (get_or c.deref.result.now (get_or c.labels-labels.result.now n 0) 0)) in
    let s = c.args.scene.now in
    let bodies = c.args.bodies.now in
    let contacts = c.args.contacts.now in
    let settled = c.requires.settled in
    let points = c.as_slice-points.result.now in
    let active = c.as_slice-points.ensures.value ∙ settled.active in
    let seen = same_islands s (only_awake c.deref-2.result.now bodies) settled.touches contacts (parted.numbers_are.as_many ∙ c.requires.bodies)
    parted.settled points (active ∙ parted.points) in
    let all = sym
    (same_islands s bodies settled.touches contacts c.requires.bodies settled.settled c.args.active.now.points.items settled.active) in
    record {
      made = c.in_ok-islands.ensures.value ∙ seen ∙ parted.made ∙ ap (made_islands c.args.lone) all;
      listed = parted.alone_are ∙ ap (lone_numbers c.args.lone) all;
      fit = c.in_ok-islands.ensures.fit;
      order = subst (IsRising 0) (sym (c.in_ok-dealt.ensures.lone_numbers ∙ ap (filter is_lone) awake))
          (filter_rises is_lone 0 (filter is_awake numbers) (filter_rises is_awake 0 numbers (range_rises 0 count)));
      there = subst (All (λ n. n < count)) (sym c.in_ok-dealt.ensures.lone_numbers)
          (All-filter is_lone (λ n. n < count) c.as_slice-numbers.result.now (number_low is_awake count c.as_slice-numbers.result.now awake));
    }
