use Rattle.std.proofs.Common.{◌≡◌, ◌∙◌, IfSome, ap, map, subst, sym}
use Rattle.pf_manifold.specs.Key.{key_of}
use Rattle.pf_cache.specs.Contact.{AreKeys, Contact, contacts_of_keys, next_contacts}
use Rattle.pf_cache.specs.ContactsChange.{ContactsChange, contacts_before}
use Rattle.pf_cache.specs.KeySplices.{AreSplicesBetween, spliced_keys}
use Rattle.pf_cache.specs.Manifolds.{kept_touches}
use Rattle.pf_cache.proofs.Kept.{keys_in_order, next_by_keys}
use Rattle.pf_cache.proofs.Restoring.{none_noted}
use Rattle.pf_step.proofs.changes.Changes.update_contacts.Goals.{Then-is_known}
use Rattle.pf_step.proofs.changes.Changes.update_contacts.Goals as goal

-- the splices make the keys of the points of those of the contacts
spliced : (c : Then-is_known)
    → spliced_keys c.in-Some.splices (map (λ (x : Contact). x.key) c.args.contacts.now) ≡ map key_of (kept_touches c.args.manifolds.now)
spliced c =
    let before = map (λ (x : Contact). x.key) c.args.contacts.now in
    let after = map key_of (kept_touches c.args.manifolds.now) in
    let between : AreSplicesBetween c.in-Some.splices before after =
    subst (λ found. IfSome found (λ splices. AreSplicesBetween splices before after)) c.in-Some.is (c.requires.known c.if-is_known.true) in
    between.1

pub splice-requires-clause-keys : goal.splice-requires-clause-keys
splice-requires-clause-keys c =
    subst AreKeys (sym (spliced (goal.at.splice-requires-clause-keys c).Then-is_known))
    (keys_in_order (kept_touches c.args.manifolds.now) c.requires.order)

pub returns-in-Some-clause-value : goal.returns-in-Some-clause-value
returns-in-Some-clause-value c =
    let contacts = c.args.contacts.now in
    let touches = kept_touches c.args.manifolds.now in
    let keys = map (λ (x : Contact). x.key) contacts in
    let same : contacts_of_keys contacts (spliced_keys c.in-Some.splices keys) ≡ next_contacts contacts touches =
    ap (contacts_of_keys contacts) (spliced (goal.at.returns-in-Some-clause-value c).Then-is_known) ∙ sym (next_by_keys contacts touches) in
    rw (sym same) c.splice.ensures.value

pub returns-in_err-keys-in_default-clause-before : goal.returns-in_err-keys-in_default-clause-before
returns-in_err-keys-in_default-clause-before c =
    let now = c.args.contacts.now in
    ap (λ (change : ContactsChange). contacts_before change now) c.clear.ensures ∙ none_noted now

pub set_keys-requires : goal.set_keys-requires
set_keys-requires c =
    let touches = kept_touches c.args.manifolds.now in
    let keys : c.deref.result.now ≡ map key_of touches = c.deref.ensures.value ∙ c.in_ok-keys-in_default.ensures.value in
    subst AreKeys (sym keys) (keys_in_order touches c.requires.order)

pub returns-in_ok-keys-in_default-clause-value : goal.returns-in_ok-keys-in_default-clause-value
returns-in_ok-keys-in_default-clause-value c =
    let contacts = c.args.contacts.now in
    let touches = kept_touches c.args.manifolds.now in
    let keys : c.deref.result.now ≡ map key_of touches = c.deref.ensures.value ∙ c.in_ok-keys-in_default.ensures.value in
    let same : contacts_of_keys contacts c.deref.result.now ≡ next_contacts contacts touches =
    ap (contacts_of_keys contacts) keys ∙ sym (next_by_keys contacts touches) in
    rw (sym same) c.set_keys.ensures.value
