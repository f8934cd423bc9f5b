use Rattle.std.proofs.Common.{◌≡◌, ◌∙◌, ◌++◌, ◌<◌, ℕ, All, List, ap, ap₂, length, subst, sym}
use Rattle.std.proofs.lemmas.List.Elements.{All-filter}
use Rattle.pf_shapes.specs.Body.{BodyState}
use Rattle.pf_cache.specs.ContactRows.{AreRowsAt}
use Rattle.pf_cache.specs.ContactsChange.{contacts_before}
use Rattle.pf_cache.specs.Manifolds.{kept_touches}
use Rattle.pf_islands.specs.Lone.{is_made, lone_numbers, made_islands}
use Rattle.pf_islands.specs.Split.{Island}
use Rattle.pf_islands.specs.Splitting.{AreParts, woken_islands}
use Rattle.pf_step.specs.Activity.{islands_with}
use Rattle.pf_step.specs.Changes.{BodyChange, MayChange, changes_of, changes_of_islands}
use Rattle.pf_step.specs.World.{World}
use Rattle.pf_step.proofs.Restored.{islands_are, islands_beside}
use Rattle.pf_step.proofs.activity.split_and_note.Goals.{In_ok-parts}
use Rattle.pf_step.proofs.activity.split_and_note.Goals as goal

-- the islands are made of the points, the bodies and the contacts of the tick
made_of : (c : In_ok-parts) → woken_islands c.args.scene.now c.deref.result.now (kept_touches c.args.manifolds.now) c.as_slice.result.now
    ≡ islands_with c.args.scene.now c.args.world.now.contacts c.args.world.now.bodies
made_of c =
    let w = c.args.world.now in
    islands_are c.args.scene.now w.contacts w.bodies (kept_touches c.args.manifolds.now) c.deref.result.now c.as_slice.result.now c.requires.points
    (c.deref.ensures.value ∙ ap (λ (v : World). v.bodies) c.world.view_is)
    (c.as_slice.ensures.value ∙ ap (λ (v : World). v.contacts) c.world.view_is)

parts_are : (c : In_ok-parts)
    → AreParts c.args.scene.now (length c.args.world.now.bodies) c.args.lone
    (islands_with c.args.scene.now c.args.world.now.contacts c.args.world.now.bodies) c.in_ok-parts.parts
parts_are c =
    let is = c.in_ok-parts.ensures.parts in
    record {
      made = is.made ∙ ap (made_islands c.args.lone) (made_of c);
      listed = is.listed ∙ ap (lone_numbers c.args.lone) (made_of c);
      fit = is.fit;
      order = is.order;
      there = subst (λ (bs : List BodyState). All (λ number. number < length bs) c.in_ok-parts.parts.lone_numbers.items)
          (c.deref.ensures.value ∙ ap (λ (v : World). v.bodies) c.world.view_is) is.there;
    }

pub returns-clause-parts : goal.returns-clause-parts
returns-clause-parts c = parts_are (goal.at.returns-clause-parts c).In_ok-parts

pub note_impulses-requires : goal.note_impulses-requires
note_impulses-requires c =
    let s = c.args.scene.now in
    let w = c.args.world.now in
    let found = c.deref-6.ensures.value ∙ (parts_are (goal.at.note_impulses-requires c).In_ok-parts).made in
    subst (λ cs. All (λ (x : Island). AreRowsAt cs x.rows) c.deref-6.result.now) (sym (ap (λ (v : World). v.contacts) c.world.view_is))
    (subst (All (λ (x : Island). AreRowsAt w.contacts x.rows)) (sym found)
    (All-filter (is_made c.args.lone) (λ (x : Island). AreRowsAt w.contacts x.rows) (islands_with s w.contacts w.bodies)
    (islands_beside s w.contacts w.bodies c.requires.order c.requires.keys)))

pub returns-clause-impulses : goal.returns-clause-impulses
returns-clause-impulses c =
    let change = c.note_impulses.new.self.contacts in
    let found = c.deref-6.ensures.value ∙ (parts_are (goal.at.returns-clause-impulses c).In_ok-parts).made in
    subst (All (λ (x : Island). MayChange change x.rows)) found c.in_ok-note_impulses.ensures.noted

pub returns-clause-noted : goal.returns-clause-noted
returns-clause-noted c =
    let parted = parts_are (goal.at.returns-clause-noted c).In_ok-parts in
    let own = ap (λ (v : World). v.bodies) c.world.view_is in
    let w = c.args.world.now in
    let noted = c.args.changes.now.bodies in
    let found = islands_with c.args.scene.now w.contacts w.bodies in
    let first = changes_of_islands w.bodies (made_islands c.args.lone found) in
    c.note_impulses.ensures.bodies ∙ c.in_ok-note_bodies.ensures.noted
    ∙ ap₂ (λ (cs : List BodyChange) (ns : List ℕ). cs ++ changes_of c.deref-4.result.now ns)
    (c.in_ok-note_islands.ensures.noted
    ∙ ap₂ (λ (bs : List BodyState) (islands : List Island). noted ++ changes_of_islands bs islands)
    (c.deref-2.ensures.value ∙ own) (c.deref-3.ensures.value ∙ parted.made))
    (c.deref-5.ensures.value ∙ parted.listed)
    ∙ ap (λ (bs : List BodyState). noted ++ first ++ changes_of bs (lone_numbers c.args.lone found))
    (c.deref-4.ensures.value ∙ own)

pub returns-in_err-note_impulses-clause-same_contacts : goal.returns-in_err-note_impulses-clause-same_contacts
returns-in_err-note_impulses-clause-same_contacts c =
    let own = ap (λ (w : World). w.contacts) c.world.view_is in
    ap (contacts_before c.note_impulses.new.self.contacts) (sym own) ∙ c.note_impulses.ensures.same
    ∙ ap₂ contacts_before (c.in_ok-note_bodies.ensures.contacts ∙ c.in_ok-note_islands.ensures.contacts) own

pub returns-clause-same_contacts : goal.returns-clause-same_contacts
returns-clause-same_contacts c =
    let own = ap (λ (w : World). w.contacts) c.world.view_is in
    ap (contacts_before c.note_impulses.new.self.contacts) (sym own) ∙ c.note_impulses.ensures.same
    ∙ ap₂ contacts_before (c.in_ok-note_bodies.ensures.contacts ∙ c.in_ok-note_islands.ensures.contacts) own
