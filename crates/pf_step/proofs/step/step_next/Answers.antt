use Rattle.std.proofs.Common.{◌≡◌, ◌<◌, ◌∙◌, ◌++◌, ℕ, List, ap, ap₂, false, length, map, subst, sym}
use Rattle.std.specs.Prelude.{All}
use Rattle.std.proofs.lemmas.Bool.{true≢false}
use Rattle.std.proofs.lemmas.List.{with_items_is}
use Rattle.std.specs.Vec.{with_items}
use Rattle.pf_shapes.specs.Body.{BodyState}
use Rattle.pf_manifold.specs.Key.{key_of}
use Rattle.pf_cache.specs.Contact.{Contact}
use Rattle.pf_commands.specs.Payload.{body_of}
use Rattle.pf_cache.specs.Manifolds.{Collisions, Manifolds, kept_touches, no_manifolds}
use Rattle.pf_cache.specs.PlacedBodies.{HaveStayed, bodies_of}
use Rattle.pf_islands.specs.Flags.{ListsAwake}
use Rattle.pf_islands.specs.Split.{Island}
use Rattle.pf_step.specs.Activity.{islands_of_bodies}
use Rattle.pf_step.specs.Changes.{AreAdded, BodyChange, Changes, changes_by_commands, numbers_of, world_before}
use Rattle.pf_step.specs.Commands.{after_commands}
use Rattle.pf_step.specs.Step.{collisions_of_bodies, step, touches_of_scene, world_after}
use Rattle.pf_step.specs.Stepping.{FailsBy}
use Rattle.pf_step.specs.Work.{Work, dirty_bodies, work_after_tick}
use Rattle.pf_step.specs.World.{World}
use Rattle.pf_step.proofs.Commanding.{commands_length, commands_undone}
use Rattle.pf_step.proofs.Awake.{listed_after_commands}
use Rattle.pf_step.proofs.Contacts.{step_keys}
use Rattle.pf_step.proofs.Following.{all_within, none_noted, other_error, stayed_after_commands, stayed_after_step}
use Rattle.pf_step.proofs.Lengths.{step_length}
use Rattle.pf_step.proofs.step.step_next.Goals.{After-apply_all, In_ok-list_dirty, In_ok-note_commanded}
use Rattle.pf_step.proofs.step.step_next.Goals as goal
use Rattle.pf_step.proofs.Empty.{none_long}

-- the bodies once commands are applied
commanded_are : (g : _) (c : After-apply_all g)
    → (with_items c.world.inside.bodies c.apply_all.new.bodies).items
    ≡ after_commands c.args.scene.now.fixtures c.args.world.now.bodies c.args.payloads.now
commanded_are g c =
    with_items_is c.world.inside.bodies c.apply_all.new.bodies (c.apply_all.auto.bodies ∙ c.deref_mut.ensures.len)
    ∙ c.apply_all.ensures
    ∙ ap₂ (λ fs bs. after_commands fs bs c.args.payloads.now) c.fixtures.ensures.value
    (c.deref_mut.ensures.value ∙ ap (λ (x : World). x.bodies) c.world.view_is)

-- the commanded bodies are noted as they were
commands_noted : (g : _) (c : In_ok-note_commanded g)
    → c.note_commanded.new.self.bodies ≡ changes_by_commands c.args.world.now.bodies c.args.payloads.now
commands_noted g c =
    c.in_ok-note_commanded.ensures.noted
    ∙ ap₂ (λ (cs : List BodyChange) (bs : List BodyState). cs ++ changes_by_commands bs c.args.payloads.now)
    (ap (λ (x : Changes). x.bodies) c.take_changes-changes.ensures.changes) (c.deref.ensures.value ∙ ap (λ (x : World). x.bodies) c.world.view_is)

-- the work while a tick runs
work_listed : (g : _) (c : In_ok-list_dirty g) → c.list_dirty.new.self ≡ record c.args.work.now {
  manifolds = no_manifolds;
  dirty = c.list_dirty.new.self.dirty;
  is_known = false;
}
work_listed g c =
    c.list_dirty.ensures.rest
    ∙ (λ i. record ((c.take_changes-changes.ensures.work ∙ c.take_manifolds-kept.ensures.rest) i) { dirty = c.list_dirty.new.self.dirty })

-- the bodies that may have moved are listed
dirty_are : (g : _) (c : In_ok-list_dirty g)
    → c.list_dirty.new.self.dirty ≡ dirty_bodies c.args.work.now.is_known c.args.work.now.dirty (length c.args.world.now.bodies)
    (numbers_of c.bodies.result.now)
dirty_are g c =
    let listed = ap (λ (x : Work). x.dirty) (c.take_changes-changes.ensures.work ∙ c.take_manifolds-kept.ensures.rest) in
    let count = ap length (c.as_slice-count.ensures.value ∙ ap (λ (x : World). x.bodies) c.world.view_is) in
    c.in_ok-list_dirty.ensures.listed
    ∙ (λ i. dirty_bodies (c.take_manifolds-kept.ensures.taken.1 i) (listed i) (count i) (numbers_of c.bodies.result.now))

pub returns-in-Ok-clause-step : goal.returns-in-Ok-clause-step
unfolding step world_before
returns-in-Ok-clause-step g c =
    let s = c.args.scene.now in
    let w = c.args.world.now in
    let payloads = c.args.payloads.now in
    let commanded = commanded_are g (goal.at.returns-in-Ok-clause-step g c).After-apply_all in
    let contacts = ap (λ (x : World). x.contacts) c.world.view_is in
    let notes = commands_noted g (goal.at.returns-in-Ok-clause-step g c).In_ok-note_commanded in
    let value : c.finish_tick-finished.new.world ≡ step s w payloads =
    c.in-Ok.ensures.tick.value ∙ ap₂ (λ (cs : List Contact) (bs : List BodyState). world_after s cs bs) contacts commanded in
    let found = c.in-Ok.ensures.found
    ∙ ap₂ (λ (bs : List BodyState) (kept : Manifolds). collisions_of_bodies s.fixtures bs kept)
    commanded c.take_manifolds-kept.ensures.taken.0 in
    let b = (with_items c.world.inside.bodies c.apply_all.new.bodies).items in
    let dirty_is = ap (λ (x : Work). x.dirty) c.end_tick.ensures ∙ c.in-Ok.ensures.dirty in
    let manifolds_is = ap (λ (x : Work). x.manifolds) c.end_tick.ensures in
    let work_before = work_listed g (goal.at.returns-in-Ok-clause-step g c).In_ok-list_dirty in
    let stand =
    subst (λ (x : List ℕ × Manifolds). All (λ number. number < length c.finish_tick-finished.new.world.bodies) x.0
    × HaveStayed x.0 (bodies_of x.1) s.fixtures c.finish_tick-finished.new.world.bodies)
    (λ i. (sym dirty_is i, sym manifolds_is i))
    (stayed_after_step s w.bodies b c.finish_tick-finished.new.world.bodies c.in-Ok.collisions.manifolds c.note_commanded.new.self.bodies
    c.finish_tick-finished.new.changes.bodies (ap (λ (x : World). length x.bodies) value ∙ step_length s w payloads c.requires.world ∙ sym c.requires.world)
    (ap (λ (x : Collisions). x.manifolds.shapes) c.in-Ok.ensures.found) (ap (λ (x : Collisions). x.manifolds.bounds) c.in-Ok.ensures.found)
    (subst (All (λ (x : BodyChange). x.number < length w.bodies)) (sym notes) (all_within w.bodies body_of payloads))
    (subst (λ n. AreAdded n c.note_commanded.new.self.bodies c.finish_tick-finished.new.changes.bodies)
    (ap length commanded ∙ commands_length s.fixtures w.bodies payloads) c.in-Ok.ensures.tick.added)
    (commands_undone s.fixtures w.bodies _ payloads _ notes commanded)
    (ap (λ (x : World). x.bodies) c.in-Ok.ensures.tick.before
    ∙ commands_undone s.fixtures w.bodies _ payloads _ notes commanded)) in
    let keys : map (λ c. c.key) c.finish_tick-finished.new.world.contacts ≡ map key_of (kept_touches c.end_tick.new.self.manifolds) =
    ap (λ (x : World). map (λ (y : Contact). y.key) x.contacts) value ∙ step_keys s w payloads
    ∙ ap (λ bs. map key_of (touches_of_scene s bs)) (sym commanded)
    ∙ ap (map key_of) (sym c.in-Ok.ensures.touches) ∙ ap (λ m. map key_of (kept_touches m)) (sym manifolds_is) in
    let awake = subst (λ ns. ListsAwake ns c.finish_tick-finished.new.world.bodies) (sym dirty_is) c.in-Ok.ensures.awake in
    record {
      value = value;
      before = c.in-Ok.ensures.tick.before
          ∙ ap₂ (λ bs cs. record { bodies = bs; contacts = cs })
          (commands_undone s.fixtures w.bodies _ payloads _ notes commanded) contacts;
      unchanged = tt;
      bodies = ap (λ (x : World). length x.bodies) value ∙ step_length s w payloads c.requires.world;
      counted = c.end_tick.ensures
          ∙ (λ i. work_after_tick (found i) (sym (ap (λ (x : Work). x.dirty) c.end_tick.ensures) i)
          ((c.finish_tick-finished.ensures.work ∙ (λ j. record (work_before j) { dirty = c.finish_tick-finished.new.work.dirty })) i));
      not_counted = tt;
      follows = λ known. (stand.0, stand.1, keys, awake);
    }

pub returns-in-Ok-clause-crew : goal.returns-in-Ok-clause-crew
returns-in-Ok-clause-crew g c =
    let s = c.args.scene.now in
    let w = c.args.world.now in
    let commanded = commanded_are g (goal.at.returns-in-Ok-clause-crew g c).After-apply_all in
    let contacts = ap (λ (x : World). x.contacts) c.world.view_is in
    subst (λ (is : List Island). g.C.Crew.is_called c.args.crew.now is c.finish_tick-finished.new.crew)
    (ap₂ (λ (cs : List Contact) (bs : List BodyState). islands_of_bodies s cs bs) contacts commanded)
    c.in-Ok.ensures.crew

pub finish_tick-finished-requires-clause-dirty : goal.finish_tick-finished-requires-clause-dirty
finish_tick-finished-requires-clause-dirty g c =
    let s = c.args.scene.now in
    let w = c.args.world.now in
    let payloads = c.args.payloads.now in
    let work = c.args.work.now in
    let at = goal.at.finish_tick-finished-requires-clause-dirty g c in
    let commanded = commanded_are g at.After-apply_all in
    let notes = c.bodies.ensures ∙ commands_noted g at.In_ok-note_commanded in
    let dirty = dirty_are g at.In_ok-list_dirty in
    let b = (with_items c.world.inside.bodies c.apply_all.new.bodies).items in
    let stayed = stayed_after_commands s w payloads work c.take_manifolds-kept.result.0 c.list_dirty.new.self.dirty c.bodies.result.now b
    c.requires.follows c.take_manifolds-kept.ensures.taken.0 notes commanded dirty in
    let awake = listed_after_commands s w payloads work c.list_dirty.new.self.dirty c.bodies.result.now b
    c.requires.follows notes commanded dirty in
    (stayed.0, stayed.1, awake.1)

pub returns-in_err-list_dirty-clause-no_memory : goal.returns-in_err-list_dirty-clause-no_memory
returns-in_err-list_dirty-clause-no_memory g c none _ =
    let of_world = ap (λ (x : World). x.bodies) c.world.view_is in
    let payloads = c.args.payloads.now in
    let notes = commands_noted g (goal.at.returns-in_err-list_dirty-clause-no_memory g c).In_ok-note_commanded in
    absurd (true≢false (sym (c.in_err-list_dirty.ensures.no_memory (ap length (c.as_slice-count.ensures.value ∙ of_world ∙ none))
    (c.bodies.ensures ∙ notes ∙ none_noted c.args.world.now.bodies body_of payloads none))))

pub returns-in-Err-clause-no_memory : goal.returns-in-Err-clause-no_memory
returns-in-Err-clause-no_memory g c none =
    let s = c.args.scene.now in
    let w = c.args.world.now in
    let payloads = c.args.payloads.now in
    let commanded = commanded_are g (goal.at.returns-in-Err-clause-no_memory g c).After-apply_all in
    let notes = commands_noted g (goal.at.returns-in-Err-clause-no_memory g c).In_ok-note_commanded in
    other_error _ _
    (c.in-Err.ensures.no_memory
    (commanded ∙ none_long (after_commands s.fixtures w.bodies payloads) (commands_length s.fixtures w.bodies payloads ∙ ap length none))
    (notes ∙ none_noted w.bodies body_of payloads none))

pub returns-in-Err-clause-step : goal.returns-in-Err-clause-step
returns-in-Err-clause-step g c =
    let s = c.args.scene.now in
    let w = c.args.world.now in
    let payloads = c.args.payloads.now in
    let commanded = commanded_are g (goal.at.returns-in-Err-clause-step g c).After-apply_all in
    let contacts = ap (λ (x : World). x.contacts) c.world.view_is in
    let notes = commands_noted g (goal.at.returns-in-Err-clause-step g c).In_ok-note_commanded in
    let work_before = work_listed g (goal.at.returns-in-Err-clause-step g c).In_ok-list_dirty in
    let unchanged = c.undo.ensures ∙ c.in-Err.ensures.tick.before
    ∙ ap₂ (λ bs cs. record { bodies = bs; contacts = cs }) (commands_undone s.fixtures w.bodies _ payloads _ notes commanded) contacts in
    let not_counted : c.finish_tick-finished.new.work ≡ record c.args.work.now {
      manifolds = no_manifolds;
      dirty = c.finish_tick-finished.new.work.dirty;
      is_known = false;
    } =
    c.finish_tick-finished.ensures.work ∙ (λ i. record (work_before i) { dirty = c.finish_tick-finished.new.work.dirty }) in
    record {
      value = tt;
      before = tt;
      unchanged = unchanged;
      bodies = ap (λ (x : World). length x.bodies) unchanged ∙ c.requires.world;
      counted = tt;
      not_counted = not_counted;
      follows = λ known. absurd (true≢false (sym known ∙ ap (λ (x : Work). x.is_known) not_counted));
    }

pub returns-in-Err-clause-crew : goal.returns-in-Err-clause-crew
returns-in-Err-clause-crew g c =
    let s = c.args.scene.now in
    let w = c.args.world.now in
    let commanded = commanded_are g (goal.at.returns-in-Err-clause-crew g c).After-apply_all in
    let contacts = ap (λ (x : World). x.contacts) c.world.view_is in
    subst (λ (is : List Island). FailsBy g.C.Crew.may_fail c.args.crew.now is c.in-Err.error c.finish_tick-finished.new.crew)
    (ap₂ (λ (cs : List Contact) (bs : List BodyState). islands_of_bodies s cs bs) contacts commanded)
    c.in-Err.ensures.crew
