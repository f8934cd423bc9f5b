use Rattle.std.proofs.Common.{◌∙◌, ◌∷◌, [], All, ◌≢◌, ap, subst, sym}
use Rattle.pf_manifold.specs.Key.{rank}
use Rattle.pf_cache.specs.Contact.{AreContacts, Contact}
use Rattle.pf_cache.proofs.Restoring.{noted_are_contacts, restored_here, restored_nowhere}
use Rattle.pf_cache.proofs.contacts_change.restore.Goals as goal

pub returns-in-Some-clause-value : goal.returns-in-Some-clause-value
returns-in-Some-clause-value c =
    let found = c.in-Some.ensures.found in
    restored_here c.args.contacts.now c.in-Some.place c.args.noted.now c.index-contacts-place.result c.contact.inside.key c.before-2.inside.impulses
    c.requires.contacts found.0 c.index-contacts-place.is
    (ap (λ (x : Contact). x.key) c.contact.view_is)
    (ap (λ (x : Contact). x.impulses) (c.before-2.view_is ∙ c.noted.view_is))
    (found.1 ∙ c.rank.ensures ∙ ap (λ (x : Contact). rank x.key) c.noted.view_is)

pub returns-in-Some-clause-contacts : goal.returns-in-Some-clause-contacts
returns-in-Some-clause-contacts c =
    subst AreContacts (sym (returns-in-Some-clause-value c))
    (noted_are_contacts c.args.contacts.now (c.args.noted.now ∷ []) c.requires.contacts)

pub returns-in_default-clause-value : goal.returns-in_default-clause-value
returns-in_default-clause-value c =
    restored_nowhere c.args.contacts.now c.args.noted.now
    (subst (λ n. All (λ (x : Contact). rank x.key ≢ n) c.args.contacts.now) (c.rank.ensures ∙ ap (λ (x : Contact). rank x.key) c.noted.view_is)
    (c.place_of.ensures.none c.in_default.is))
