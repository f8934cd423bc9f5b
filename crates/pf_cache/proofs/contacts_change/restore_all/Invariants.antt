use Rattle.std.proofs.Common.{◌≡◌}
use Rattle.std.specs.Iterator.Adapters.{rev_source}
use Rattle.std.specs.Prelude.{All}
use Rattle.std.specs.Slice.Iter.{iter_rest}
use Rattle.pf_cache.specs.Contact.{AreContacts, Contact}
use Rattle.pf_manifold.specs.Key.{IsKey}
use Rattle.pf_cache.specs.ContactsChange.{with_noted}
use Rattle.pf_cache.proofs.contacts_change.restore_all.Given as goal

abbrev pub invariant-loop-contact : goal.invariant-loop-contact
invariant-loop-contact l = record {
  value : with_noted l.contacts (iter_rest (rev_source l.contact-iterator)) ≡ with_noted l.initial.contacts l.noted;
  contacts : AreContacts l.contacts;
  keys : All (λ (n : Contact). IsKey n.key) (iter_rest (rev_source l.contact-iterator));
}
