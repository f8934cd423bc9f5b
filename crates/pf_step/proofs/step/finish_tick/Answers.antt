use Rattle.std.proofs.Common.{rules, ◌≡◌, ◌∙◌, ◌++◌, List, ap, ap₂, append_assoc, length, map, refl, subst, sym}
use Rattle.std.specs.Vec.{with_items}
use Rattle.std.proofs.lemmas.List.{with_items_is}
use Rattle.std.proofs.lemmas.Result.{err_from_is_err_and}
use Rattle.std.specs.Prelude.{All, Err, IfSome}
use Rattle.pf_shapes.specs.Body.{BodyState}
use Rattle.pf_manifold.specs.Key.{AreTouches, key_of}
use Rattle.pf_cache.specs.Contact.{Contact, next_contacts}
use Rattle.pf_cache.specs.ContactRows.{AreRowsAt}
use Rattle.pf_cache.specs.ContactsChange.{ContactsChange, contacts_before}
use Rattle.pf_cache.specs.KeySplices.{AreSplicesBetween}
use Rattle.pf_cache.specs.Manifolds.{kept_touches}
use Rattle.pf_cache.specs.declared.manifolds.FoundCollisions.{FoundCollisions}
use Rattle.pf_cache.proofs.Kept.{same_keys}
use Rattle.pf_cache.proofs.Restoring.{none_noted as no_contact_noted}
use Rattle.pf_islands.specs.Join.{IsAtHome, joined_bodies, joined_contacts}
use Rattle.pf_islands.specs.Lone.{lone_numbers, made_islands}
use Rattle.pf_islands.specs.Split.{Island}
use Rattle.pf_solver.specs.Alone.{lone_bodies_after_tick, island_after_tick}
use Rattle.pf_solver.specs.Bodies.{gravity_per_tick}
use Rattle.pf_step.specs.declared.crew.StepError.TheVariants.{Crew}
use Rattle.pf_step.specs.Activity.{contacts_of_bodies, islands_of_bodies, islands_with}
use Rattle.pf_step.specs.Changes.{bodies_before, changes_of, changes_of_islands, world_before}
use Rattle.pf_step.specs.Step.{collisions_of_bodies, touches_of_scene, world_after}
use Rattle.pf_step.specs.Stepping.{CallsCrew}
use Rattle.pf_step.specs.World.{World}
use Rattle.pf_step.proofs.Awake.{awake_after_step, islands_noted}
use Rattle.pf_step.proofs.Changing.{before_more}
use Rattle.pf_step.proofs.Following.{islands_within}
use Rattle.pf_step.proofs.Joined.{ended_join}
use Rattle.pf_step.proofs.Parted.{made_at_contacts, made_at_home, noted_in_order, others, parted_before, parted_bodies, parted_contacts, parted_have_awake}
use Rattle.pf_step.proofs.Restored.{contacts_restored}
use Rattle.pf_step.proofs.Touching.{points_in_order}
use Rattle.pf_step.proofs.step.finish_tick.Goals.{After-deref-3, After-deref_mut-2, After-split_and_note, In_ok-found, In_ok-parts, In_ok-update_contacts}
use Rattle.pf_step.proofs.step.finish_tick.Goals as goal

-- ---- what stands after each phase

-- the points are those of the tick
points_are : (g : _) (c : In_ok-found g)
    → kept_touches c.in_ok-found.found.collisions.manifolds ≡ touches_of_scene c.args.scene.now c.args.world.now.bodies
points_are g c =
    c.in_ok-found.ensures.touches
    ∙ ap (touches_of_scene c.args.scene.now) (c.deref.ensures.value ∙ ap (λ (v : World). v.bodies) c.world.view_is)

-- the contacts are those of the tick
contacts_are : (g : _) (c : In_ok-update_contacts g)
    → c.update_contacts.new.contacts ≡ contacts_of_bodies c.args.scene.now c.args.world.now.contacts c.args.world.now.bodies
contacts_are g c =
    c.in_ok-update_contacts.ensures.value
    ∙ ap₂ next_contacts (ap (λ (v : World). v.contacts) c.world.view_is)
    (ap (λ (x : FoundCollisions). kept_touches x.collisions.manifolds) c.found.view_is ∙ points_are g (goal.at.In_ok-update_contacts g c).In_ok-found)

-- the points are in the order of their keys
in_order : (g : _) (c : In_ok-update_contacts g) → AreTouches (touches_of_scene c.args.scene.now c.args.world.now.bodies)
in_order g c = points_in_order c.args.scene.now c.args.world.now.bodies c.requires.bodies c.fixtures.ensures.scene

-- the islands and the lone bodies are those of the tick
all_are : (g : _) (c : In_ok-parts g)
    → islands_with c.args.scene.now c.update_contacts.new.contacts c.world.inside.bodies.items
    ≡ islands_of_bodies c.args.scene.now c.args.world.now.contacts c.args.world.now.bodies
all_are g c =
    ap₂ (islands_with c.args.scene.now) (contacts_are g (goal.at.In_ok-parts g c).In_ok-update_contacts)
    (ap (λ (v : World). v.bodies) c.world.view_is)

-- the solved islands are the islands that were made, after a tick
solved_are : (g : _) (c : After-deref-3 g) → c.deref-3.result.now
    ≡ map (island_after_tick c.args.scene.now)
    (made_islands c.lone_bodies-lone.result (islands_of_bodies c.args.scene.now c.args.world.now.contacts c.args.world.now.bodies))
solved_are g c =
    c.deref-3.ensures.value ∙ c.in_ok-solved.ensures.solved
    ∙ ap (map (island_after_tick c.args.scene.now))
    (c.in_ok-parts.ensures.parts.made
    ∙ ap (made_islands c.lone_bodies-lone.result) (all_are g (goal.at.After-deref-3 g c).In_ok-parts))

lone_are : (g : _) (c : After-deref-3 g) → c.deref-2.result.now
    ≡ lone_numbers c.lone_bodies-lone.result (islands_of_bodies c.args.scene.now c.args.world.now.contacts c.args.world.now.bodies)
lone_are g c =
    c.deref-2.ensures.value ∙ c.in_ok-parts.ensures.parts.listed
    ∙ ap (lone_numbers c.lone_bodies-lone.result) (all_are g (goal.at.After-deref-3 g c).In_ok-parts)

-- the lone bodies went through the tick
bodies_are : (g : _) (c : After-deref_mut-2 g) → c.deref_mut-2.result.now
    ≡ lone_bodies_after_tick (gravity_per_tick c.args.scene.now.gravity) c.deref-2.result.now c.args.world.now.bodies
bodies_are g c =
    c.deref_mut-2.ensures.value
    ∙ with_items_is c.world.inside.bodies c.solve_lone_bodies.new.bodies (c.solve_lone_bodies.auto.bodies ∙ c.deref_mut.ensures.len)
    ∙ c.solve_lone_bodies.ensures
    ∙ ap (lone_bodies_after_tick (gravity_per_tick c.args.scene.now.gravity) c.deref-2.result.now)
    (c.deref_mut.ensures.value ∙ ap (λ (v : World). v.bodies) c.world.view_is)

-- the bodies of the islands are noted, and then the lone ones
noted_are : (g : _) (c : In_ok-parts g) → c.split_and_note.new.changes.bodies
    ≡ c.args.changes.now.bodies
    ++ changes_of_islands c.args.world.now.bodies
    (made_islands c.lone_bodies-lone.result (islands_of_bodies c.args.scene.now c.args.world.now.contacts c.args.world.now.bodies)
    ++ others c.args.scene.now c.args.world.now.contacts c.args.world.now.bodies c.requires.bodies c.lone_bodies-lone.result)
noted_are g c =
    let s = c.args.scene.now in
    let w = c.args.world.now in
    let lone = c.lone_bodies-lone.result in
    let noted = c.args.changes.now.bodies in
    let of_world = ap (λ (v : World). v.bodies) c.world.view_is in
    let now_is = contacts_are g (goal.at.In_ok-parts g c).In_ok-update_contacts in
    c.in_ok-parts.ensures.noted
    ∙ (λ i. (c.update_contacts.ensures.bodies i
    ++ changes_of_islands (of_world i) (made_islands lone (islands_with s (now_is i) (of_world i))))
    ++ changes_of (of_world i) (lone_numbers lone (islands_with s (now_is i) (of_world i))))
    ∙ append_assoc noted (changes_of_islands w.bodies (made_islands lone (islands_of_bodies s w.contacts w.bodies)))
    (changes_of w.bodies (lone_numbers lone (islands_of_bodies s w.contacts w.bodies)))
    ∙ ap (λ cs. noted ++ cs) (noted_in_order s w.contacts w.bodies c.requires.bodies lone w.bodies)

-- what is noted of the contacts restores those before
restored : (g : _) (c : After-split_and_note g)
    → contacts_before c.split_and_note.new.changes.contacts c.update_contacts.new.contacts ≡ c.args.world.now.contacts
restored g c =
    c.split_and_note.ensures.same_contacts ∙ c.update_contacts.ensures.before ∙ ap (λ (v : World). v.contacts) c.world.view_is

-- and what is noted of all restores the world before, until islands are solved
undone : (g : _) (c : After-split_and_note g)
    → world_before c.split_and_note.new.changes (record { bodies = c.world.inside.bodies.items; contacts = c.update_contacts.new.contacts })
    ≡ record { bodies = bodies_before c.args.changes.now.bodies c.args.world.now.bodies; contacts = c.args.world.now.contacts }
unfolding world_before
undone g c =
    ap₂ (λ bs cs. record { bodies = bs; contacts = cs })
    (c.split_and_note.ensures.same ∙ ap₂ bodies_before c.update_contacts.ensures.bodies (ap (λ (v : World). v.bodies) c.world.view_is))
    (restored g c)

-- ---- the answers

pub update_contacts-requires-clause-order : goal.update_contacts-requires-clause-order
update_contacts-requires-clause-order g c =
    subst AreTouches
    (sym (ap (λ (x : FoundCollisions). kept_touches x.collisions.manifolds) c.found.view_is
    ∙ points_are g (goal.at.update_contacts-requires-clause-order g c).In_ok-found))
    (points_in_order c.args.scene.now c.args.world.now.bodies c.requires.bodies c.fixtures.ensures.scene)

pub update_contacts-requires-clause-known : goal.update_contacts-requires-clause-known
update_contacts-requires-clause-known g c = λ known.
    let found = c.in_ok-found.found in
    let keys = ap (λ (v : World). map (λ (x : Contact). x.key) v.contacts) c.world.view_is ∙ c.requires.known known in
    subst (λ (x : FoundCollisions). IfSome x.key_splices (λ splices. AreSplicesBetween splices
    (map (λ (k : Contact). k.key) c.world.inside.contacts) (map key_of (kept_touches x.collisions.manifolds)))) (sym c.found.view_is)
    (subst (λ before. IfSome found.key_splices (λ splices. AreSplicesBetween splices before (map key_of (kept_touches found.collisions.manifolds))))
    (sym keys) c.in_ok-found.ensures.key_splices)

pub split_and_note-requires-clause-order : goal.split_and_note-requires-clause-order
split_and_note-requires-clause-order g c =
    subst (λ (v : World). AreTouches (touches_of_scene c.args.scene.now v.bodies)) (sym c.world.view_is)
    (in_order g (goal.at.split_and_note-requires-clause-order g c).In_ok-update_contacts)

pub split_and_note-requires-clause-keys : goal.split_and_note-requires-clause-keys
split_and_note-requires-clause-keys g c =
    let s = c.args.scene.now in
    let w = c.args.world.now in
    let points = ap (λ (x : FoundCollisions). kept_touches x.collisions.manifolds) c.found.view_is
    ∙ points_are g (goal.at.split_and_note-requires-clause-keys g c).In_ok-found in
    ap (map (λ (x : Contact). x.key)) c.in_ok-update_contacts.ensures.value
    ∙ same_keys c.world.inside.contacts _ ∙ ap (map key_of) points
    ∙ ap (λ (v : World). map key_of (touches_of_scene s v.bodies)) (sym c.world.view_is)

pub join_back-requires-clause-bodies : goal.join_back-requires-clause-bodies
join_back-requires-clause-bodies g c =
    let s = c.args.scene.now in
    let w = c.args.world.now in
    let lone = c.lone_bodies-lone.result in
    let at = goal.at.join_back-requires-clause-bodies g c in
    let here = at.After-deref-3 in
    subst (All (IsAtHome (length c.deref_mut-2.result.now))) (sym (solved_are g here))
    (subst (λ (bs : List BodyState). All (IsAtHome (length bs)) (map (island_after_tick s) (made_islands lone (islands_of_bodies s w.contacts w.bodies))))
    (sym (bodies_are g at.After-deref_mut-2)) (made_at_home s w.contacts w.bodies c.requires.bodies lone c.deref-2.result.now (lone_are g here)))

pub join_back-requires-clause-contacts : goal.join_back-requires-clause-contacts
join_back-requires-clause-contacts g c =
    let s = c.args.scene.now in
    let w = c.args.world.now in
    let lone = c.lone_bodies-lone.result in
    let at = goal.at.join_back-requires-clause-contacts g c in
    subst (All (λ (i : Island). AreRowsAt c.update_contacts.new.contacts i.rows)) (sym (solved_are g at.After-deref-3))
    (subst (λ cs. All (λ (i : Island). AreRowsAt cs i.rows) (map (island_after_tick s) (made_islands lone (islands_of_bodies s w.contacts w.bodies))))
    (sym (contacts_are g at.In_ok-update_contacts))
    (made_at_contacts s w.contacts w.bodies c.requires.bodies lone (in_order g at.In_ok-update_contacts)))

pub returns-clause-tick : goal.returns-clause-tick
unfolding world_before
returns-clause-tick g c =
    let s = c.args.scene.now in
    let w = c.args.world.now in
    let lone = c.lone_bodies-lone.result in
    let at = goal.at.returns-clause-tick g c in
    let here = at.After-deref-3 in
    let now = c.update_contacts.new.contacts in
    let now_is = contacts_are g at.In_ok-update_contacts in
    let lent = c.world.inside.bodies.items in
    let noted = c.args.changes.now.bodies in
    let notes = noted_are g at.In_ok-parts in
    let ordered = made_islands lone (islands_of_bodies s w.contacts w.bodies) ++ others s w.contacts w.bodies c.requires.bodies lone in
    let own : c.deref-3.result.now ≡ map (island_after_tick s) (made_islands lone (islands_with s now lent)) =
    c.deref-3.ensures.value ∙ c.in_ok-solved.ensures.solved ∙ ap (map (island_after_tick s)) c.in_ok-parts.ensures.parts.made in
    let bodies = with_items_is (with_items c.world.inside.bodies c.solve_lone_bodies.new.bodies) c.join_back.new.bodies (c.join_back.auto.bodies ∙ c.deref_mut-2.ensures.len)
    ∙ c.join_back.ensures.bodies ∙ ap₂ joined_bodies (solved_are g here) (bodies_are g at.After-deref_mut-2)
    ∙ parted_bodies s w.contacts w.bodies c.requires.bodies lone c.deref-2.result.now (lone_are g here) in
    record {
      value = ap₂ (λ bs cs. record { bodies = bs; contacts = cs }) bodies
          (c.join_back.ensures.contacts ∙ ap₂ joined_contacts (solved_are g here) now_is
          ∙ parted_contacts s w.contacts w.bodies c.requires.bodies lone (islands_of_bodies s w.contacts w.bodies) (contacts_of_bodies s w.contacts w.bodies)
          ∙ (ended_join s w.contacts w.bodies c.requires.bodies (in_order g at.In_ok-update_contacts)).1);
      before = ap₂ (λ bs cs. record { bodies = bs; contacts = cs })
          (ap₂ bodies_before notes bodies
          ∙ before_more noted (changes_of_islands w.bodies ordered) (world_after s w.contacts w.bodies).bodies
          ∙ ap (bodies_before noted) (parted_before s w.contacts w.bodies c.requires.bodies lone))
          (ap (contacts_before c.split_and_note.new.changes.contacts)
          (c.join_back.ensures.contacts ∙ ap (λ is. joined_contacts is now) own)
          ∙ contacts_restored s now (made_islands lone (islands_with s now lent)) c.split_and_note.new.changes.contacts c.in_ok-parts.ensures.impulses
          ∙ restored g at.After-split_and_note);
      added = (changes_of_islands w.bodies ordered, notes, islands_within w.bodies ordered);
    }

pub returns-in_err-found-clause-tick : goal.returns-in_err-found-clause-tick
unfolding world_before
returns-in_err-found-clause-tick g c =
    let w = c.args.world.now in
    let noted = c.args.changes.now in
    record {
      value = search rules;
      before = ap (λ cs. record { bodies = bodies_before noted.bodies w.bodies; contacts = cs })
          (ap (λ (x : ContactsChange). contacts_before x w.contacts) c.requires.contacts ∙ no_contact_noted w.contacts);
      added = search rules;
    }

pub returns-in_err-update_contacts-clause-tick : goal.returns-in_err-update_contacts-clause-tick
unfolding world_before
returns-in_err-update_contacts-clause-tick g c = record {
  value = search rules;
  before = ap₂ (λ bs cs. record { bodies = bs; contacts = cs })
      (ap₂ bodies_before c.update_contacts.ensures.bodies (ap (λ (v : World). v.bodies) c.world.view_is))
      (c.update_contacts.ensures.before ∙ ap (λ (v : World). v.contacts) c.world.view_is);
  added = search rules;
}

pub returns-in_err-parts-clause-tick : goal.returns-in_err-parts-clause-tick
returns-in_err-parts-clause-tick g c = record {
  value = search rules;
  before = undone g (goal.at.returns-in_err-parts-clause-tick g c).After-split_and_note;
  added = search rules;
}

pub returns-in_err-set_dirty-clause-tick : goal.returns-in_err-set_dirty-clause-tick
returns-in_err-set_dirty-clause-tick g c = record {
  value = search rules;
  before = undone g (goal.at.returns-in_err-set_dirty-clause-tick g c).After-split_and_note;
  added = search rules;
}

pub returns-in_err-solved-clause-tick : goal.returns-in_err-solved-clause-tick
returns-in_err-solved-clause-tick g c = record {
  value = search rules;
  before = undone g (goal.at.returns-in_err-solved-clause-tick g c).After-split_and_note;
  added = search rules;
}

pub returns-in_err-solved-clause-crew : goal.returns-in_err-solved-clause-crew
returns-in_err-solved-clause-crew g c =
    let w = c.args.world.now in
    let islands = islands_of_bodies c.args.scene.now w.contacts w.bodies in
    let at = goal.at.returns-in_err-solved-clause-crew g c in
    let error = err_from_is_err_and c.from_residual-in_err-solved.result c.from_residual-in_err-solved.ensures.1 in
    let outcome : c.from_residual-in_err-solved.result ≡ Err (Crew c.in_err-solved.field-0.0) = rw (error.1, error.2) refl in
    subst (λ r. CallsCrew g.C.Crew.is_called g.C.Crew.may_fail islands c.args.crew.now c.solve_by.new.crew r) (sym outcome)
    (c.in_err-solved.ensures.failed islands
    (c.in_ok-parts.ensures.parts.made ∙ ap (made_islands c.lone_bodies-lone.result) (all_are g at.In_ok-parts)))

pub returns-clause-awake : goal.returns-clause-awake
returns-clause-awake g c =
    let s = c.args.scene.now in
    let w = c.args.world.now in
    let lone = c.lone_bodies-lone.result in
    let ordered = made_islands lone (islands_of_bodies s w.contacts w.bodies) ++ others s w.contacts w.bodies c.requires.bodies lone in
    awake_after_step c.args.changes.now.bodies (changes_of_islands w.bodies ordered) c.split_and_note.new.changes.bodies w.bodies _
    (noted_are g (goal.at.returns-clause-awake g c).In_ok-parts)
    (ap (λ (v : World). bodies_before (changes_of_islands w.bodies ordered) v.bodies) (returns-clause-tick g c).value
    ∙ parted_before s w.contacts w.bodies c.requires.bodies lone)
    (islands_noted w.bodies ordered (parted_have_awake s w.contacts w.bodies c.requires.bodies lone))

pub returns-clause-found : goal.returns-clause-found
returns-clause-found g c =
    ap (λ (x : FoundCollisions). x.collisions) c.found.view_is ∙ c.in_ok-found.ensures.value
    ∙ ap (λ bs. collisions_of_bodies c.args.scene.now.fixtures bs c.args.kept)
    (c.deref.ensures.value ∙ ap (λ (v : World). v.bodies) c.world.view_is)

pub returns-clause-crew : goal.returns-clause-crew
returns-clause-crew g c =
    let w = c.args.world.now in
    let islands = islands_of_bodies c.args.scene.now w.contacts w.bodies in
    c.in_ok-solved.ensures.called islands
    (c.in_ok-parts.ensures.parts.made
    ∙ ap (made_islands c.lone_bodies-lone.result) (all_are g (goal.at.returns-clause-crew g c).In_ok-parts))
