-- Groups wake and sleep as wholes.
use Rattle.std.proofs.Common.{◌≡◌, ◌∙◌, ◌↔◌, ⊎_elim, ℕ, ◌<◌, ◌==◌, Bool, true, false, not, ◌&&◌, ◌||◌, List, length, Some, refl, sym, ap, subst, arith}
use Rattle.std.proofs.lemmas.Bool.{and_from, and_parts, cases_Bool, eq-eqb, eqb-true, not-false, not_from_false, not_from_true, or_left, or_right}
use Rattle.std.proofs.lemmas.List.FromFn.{get_or-map-range_with_len}
use Rattle.std.proofs.lemmas.Option.{same_Some, slice_get-get_or, slice_get_within}
use Rattle.std.specs.List.{slice_get}
use Rattle.std.specs.Prelude.{if◌then◌else◌}
use Rattle.pf_shapes.specs.Body.{BodyState}
use Rattle.pf_shapes.specs.Scene.{Scene}
use Rattle.pf_manifold.specs.Touches.{Touch}
use Rattle.pf_islands.specs.Group.{group, groups}
use Rattle.pf_islands.specs.Reach.{Reaches}
use Rattle.pf_islands.specs.Sleep.{at_sleep, is_active, is_resting, bodies_after_sleep, woken_bodies}
use Rattle.pf_islands.proofs.Chains.{one_name, reaches_one}
use Rattle.pf_islands.proofs.Looked.{all_at, all_from, any_found, any_from, zip_at}
use Rattle.pf_islands.proofs.Starting.{groups_long}

-- the groups of a scene
module _ (s : Scene) (touches : List Touch) where
  -- the label at a place is that of the body's group
  pub name_at : (j : ℕ) → j < length s.fixtures → slice_get (groups s touches) j ≡ Some (group s touches j)
  name_at j small =
      slice_get-get_or (groups s touches) j 0 (omega (arith, groups_long s touches, small))
      ∙ ap (λ x. Some x) (get_or-map-range_with_len (group s touches) 0 (length s.fixtures) j j 0 small (omega arith))

  -- so it is no other
  pub name_is : (j label : ℕ) → slice_get (groups s touches) j ≡ Some label → label ≡ group s touches j
  name_is j label e =
      let within = slice_get_within (groups s touches) j label e in
      same_Some label (group s touches j) (sym e ∙ name_at j (omega (arith, groups_long s touches, within)))

  -- as many bodies
  module _ (bodies : List BodyState) (count : length bodies ≡ length s.fixtures) where
    -- each body has the label of its group
    body_name : (j : ℕ) (c : BodyState) → slice_get bodies j ≡ Some c
        → slice_get (groups s touches) j ≡ Some (group s touches j)
    body_name j c e =
        let within = slice_get_within bodies j c e in
        name_at j (omega (arith, count, within))

    -- a group has an awake body exactly where a chain leads to one
    pub woken_reach : (i : ℕ) (b : BodyState) → slice_get (woken_bodies (groups s touches) bodies) i ≡ Some b
        → (b.awake ≡ true) ↔ ((j : ℕ) × (c : BodyState) × (slice_get bodies j ≡ Some c) × (c.awake ≡ true)
        × Reaches s touches i j)
    unfolding woken_bodies
    woken_reach i b e =
        let labels = groups s touches in
        let here = zip_at (λ (m : ℕ × BodyState). record m.1 { awake = is_active labels bodies m.0 }) labels bodies i b e in
        let label = here.0 in
        let labelled = name_is i label here.2 in
        let awake = ap (λ (x : BodyState). x.awake) here.4 in
        let test = λ (m : ℕ × BodyState). (m.0 == label) && m.1.awake in (
          λ is_awake.
              let found = any_found test labels bodies (awake ∙ is_awake) in
              let parts = and_parts (found.1 == label) found.2.awake found.5 in (
                found.0,
                found.2,
                found.4,
                parts.1,
                reaches_one s touches i found.0
                    (sym labelled ∙ sym (eqb-true found.1 label parts.0) ∙ name_is found.0 found.1 found.3),
              ),
          λ reached.
              let same = one_name s touches i reached.0 reached.4 in
              sym awake
              ∙ any_from test labels bodies reached.0 (group s touches reached.0) reached.1
              (body_name reached.0 reached.1 reached.2) reached.2
              (and_from _ _ (eq-eqb (group s touches reached.0) label (sym (labelled ∙ same))) reached.3),
        )

    -- an awake body stays awake unless its group rests
    awake_after : (b : BodyState) (r : Bool) → b.awake ≡ true → (if b.awake && r then at_sleep b else b).awake ≡ not r
    awake_after b r e = ap (λ t. (if t && r then at_sleep b else b).awake) e ∙ by r
      where
        by : (t : Bool) → (if t then at_sleep b else b).awake ≡ not t
        by true = refl
        by false = e

    -- a group sleeps exactly where each body that a chain leads to has this timer
    pub rested_reach : (full i : ℕ) (b after : BodyState) → slice_get bodies i ≡ Some b → b.awake ≡ true
        → slice_get (bodies_after_sleep full (groups s touches) bodies) i ≡ Some after
        → (after.awake ≡ false) ↔ ((j : ℕ) (c : BodyState) → slice_get bodies j ≡ Some c → Reaches s touches i j
        → c.timer ≡ full)
    unfolding bodies_after_sleep
    rested_reach full i b after is awake e =
        let labels = groups s touches in
        let change = λ (m : ℕ × BodyState). if m.1.awake && is_resting full labels bodies m.0 then at_sleep m.1 else m.1 in
        let here = zip_at change labels bodies i after e in
        let label = here.0 in
        let labelled = name_is i label here.2 in
        let same_body = same_Some here.1 b (sym here.3 ∙ is) in
        let rests = is_resting full labels bodies label in
        let left = sym (ap (λ (x : BodyState). x.awake) (sym (ap (λ x. change (label, x)) same_body) ∙ here.4))
        ∙ awake_after b rests awake in
        let test = λ (m : ℕ × BodyState). not (m.0 == label) || (m.1.timer == full) in (
          λ asleep j c at reach.
              let all = not-false rests (sym left ∙ asleep) in
              let same = eq-eqb (group s touches j) label (sym (labelled ∙ one_name s touches i j reach)) in
              let passes = all_at test labels bodies j (group s touches j) c all (body_name j c at) at in
              eqb-true c.timer full (second_part (group s touches j == label) (c.timer == full) same passes),
          λ each.
              left ∙ not_from_true rests
              (all_from test labels bodies
              (λ j other c at_name at.
              ⊎_elim
              (λ same.
              or_right _ _ (eq-eqb c.timer full (each j c at
              (reaches_one s touches i j (sym labelled ∙ sym (eqb-true other label same) ∙ name_is j other at_name)))))
              (λ apart. or_left _ _ (not_from_false (other == label) apart))
              (cases_Bool (other == label)))),
        )
      where
        second_part : (x y : Bool) → x ≡ true → (not x || y) ≡ true → y ≡ true
        second_part x y e h = subst (λ t. (not t || y) ≡ true) e h
