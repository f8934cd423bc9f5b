use Rattle.std.proofs.Common.{◌≡◌, ◌∙◌, ap, length, subst, sym}
use Rattle.pf_islands.specs.Marks.{marked_body}
use Rattle.pf_islands.specs.Sleep.{is_active, woken_bodies}
use Rattle.pf_islands.specs.Group.{groups}
use Rattle.pf_islands.specs.Split.{AreWoken}
use Rattle.pf_islands.proofs.Starting.{groups_long}
use Rattle.pf_islands.proofs.Together.{groups_woken}
use Rattle.pf_islands.proofs.Labelled.{changed_through, woken_is}
use Rattle.pf_islands.proofs.groups.Groups.wake.Goals as goal

pub returns-clause-bodies : goal.returns-clause-bodies
returns-clause-bodies c =
    let labels = c.self.inside.labels.items in
    let bodies = c.args.bodies.now in
    let through = changed_through marked_body (λ ns. is_active ns bodies) labels c.deref.result.now c.deref-2.result.now
    c.mark_active.new.marks bodies c.wake_marked.new.bodies c.deref.ensures.value c.deref-2.ensures.value
    c.mark_active.ensures c.wake_marked.ensures in
    through.0 ∙ woken_is labels c.mark_active.new.marks bodies c.self.invariant.labelled through.1
    ∙ ap (λ ns. woken_bodies ns bodies) c.self.view_is

pub returns-clause-woken_bodies : goal.returns-clause-woken_bodies
returns-clause-woken_bodies c = λ s touches labelled.
    let bodies = c.args.bodies.now in
    let long : length bodies ≡ length s.fixtures = c.requires.bodies ∙ ap length labelled ∙ groups_long s touches in
    let awake : c.wake_marked.new.bodies ≡ woken_bodies (groups s touches) bodies =
    returns-clause-bodies c ∙ ap (λ ns. woken_bodies ns bodies) labelled in
    subst (λ ns. AreWoken ns c.wake_marked.new.bodies) (sym labelled)
    (subst (AreWoken (groups s touches)) (sym awake) (groups_woken s touches bodies long))
