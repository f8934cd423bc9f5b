use Rattle.std.proofs.Common.{◌≡◌, ◌∙◌, ap, map, subst, sym}
use Rattle.pf_manifold.specs.Key.{key_of}
use Rattle.pf_cache.specs.Contact.{AreKeys, contacts_of_keys, next_contacts}
use Rattle.pf_cache.specs.ContactsChange.{ContactsChange, contacts_before}
use Rattle.pf_cache.proofs.Kept.{keys_in_order, next_by_keys}
use Rattle.pf_cache.proofs.Restoring.{none_noted}
use Rattle.pf_cache.proofs.contacts.Contacts.update.Goals as goal

pub returns-in_err-keys-clause-before : goal.returns-in_err-keys-clause-before
returns-in_err-keys-clause-before c =
    let now = c.args.self.now in
    ap (λ (change : ContactsChange). contacts_before change now) c.clear.ensures ∙ none_noted now

pub set_keys-requires : goal.set_keys-requires
set_keys-requires c =
    let keys : c.deref.result.now ≡ map key_of c.args.touches.now = c.deref.ensures.value ∙ c.in_ok-keys.ensures.value in
    subst AreKeys (sym keys) (keys_in_order c.args.touches.now c.requires)

pub returns-clause-value : goal.returns-clause-value
returns-clause-value c =
    let old = c.args.self.now in
    let touches = c.args.touches.now in
    let keys : c.deref.result.now ≡ map key_of touches = c.deref.ensures.value ∙ c.in_ok-keys.ensures.value in
    let same : contacts_of_keys old c.deref.result.now ≡ next_contacts old touches =
    ap (contacts_of_keys old) keys ∙ sym (next_by_keys old touches) in
    rw (sym same) c.set_keys.ensures.value
