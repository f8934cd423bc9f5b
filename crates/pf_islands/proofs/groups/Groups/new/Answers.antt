use Rattle.std.proofs.Common.{◌∙◌, length, ap, sym, subst}
use Rattle.std.proofs.lemmas.List.FromFn.{length-range_with_len}
use Rattle.pf_islands.specs.Forest.{IsDownward, IsForest}
use Rattle.pf_islands.specs.Settled.{touches_of}
use Rattle.pf_islands.proofs.Flattened.{others_own}
use Rattle.pf_islands.proofs.Starting.{found_are_groups, names_found, singles_downward, singles_forest}
use Rattle.pf_islands.proofs.groups.Groups.new.Goals as goal

pub link_all-requires-clause-count : goal.link_all-requires-clause-count
link_all-requires-clause-count c =
    ap length (c.deref_mut.ensures.value ∙ c.in_ok-labels.ensures.value) ∙ length-range_with_len 0 _ ∙ ap length c.fixtures.ensures.value

pub link_all-requires-clause-down : goal.link_all-requires-clause-down
link_all-requires-clause-down c =
    subst IsDownward (sym (c.deref_mut.ensures.value ∙ c.in_ok-labels.ensures.value)) (singles_downward _)

pub link_all-requires-clause-single : goal.link_all-requires-clause-single
link_all-requires-clause-single c =
    subst (IsForest (λ i. i)) (sym (c.deref_mut.ensures.value ∙ c.in_ok-labels.ensures.value)) (singles_forest _)

pub flatten-requires-clause-others : goal.flatten-requires-clause-others
flatten-requires-clause-others c =
    let count = c.in_ok-labels.labels.ok.0 ∙ ap length c.in_ok-labels.ensures.value ∙ length-range_with_len 0 _ ∙ ap length c.fixtures.ensures.value in
    others_own c.args.scene.now (touches_of c.args.points.now) _ c.link_all.new.parents c.deref_mut-2.result.now _
    c.args.numbers.now count (c.link_all.auto.parents ∙ c.deref_mut.ensures.len) c.deref_mut-2.ensures.value c.link_all.ensures.roots
    c.link_all.ensures.down c.requires.numbers

pub invariant_of-result : goal.invariant_of-result
invariant_of-result c =
    let count = c.in_ok-labels.labels.ok.0 ∙ ap length c.in_ok-labels.ensures.value ∙ length-range_with_len 0 _ ∙ ap length c.fixtures.ensures.value in
    found_are_groups c.args.scene.now (touches_of c.args.points.now) _ c.fixtures.ensures.scene.few
    (names_found c.args.scene.now (touches_of c.args.points.now) _ c.link_all.new.parents c.deref_mut-2.result.now c.flatten.new.parents _ _
    count (c.link_all.auto.parents ∙ c.deref_mut.ensures.len) c.deref_mut-2.ensures.value c.link_all.ensures.roots c.flatten.ensures)

pub returns-clause-value : goal.returns-clause-value
returns-clause-value c =
    let count = c.in_ok-labels.labels.ok.0 ∙ ap length c.in_ok-labels.ensures.value ∙ length-range_with_len 0 _ ∙ ap length c.fixtures.ensures.value in
    names_found c.args.scene.now (touches_of c.args.points.now) _ c.link_all.new.parents c.deref_mut-2.result.now c.flatten.new.parents _ _
    count (c.link_all.auto.parents ∙ c.deref_mut.ensures.len) c.deref_mut-2.ensures.value c.link_all.ensures.roots c.flatten.ensures
