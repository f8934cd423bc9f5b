use Rattle.std.proofs.Common.{◌∙◌, Some, ap, sym}
use Rattle.std.proofs.lemmas.List.{nil_from_length}
use Rattle.std.proofs.lemmas.List.Elements.{All-pop}
use Rattle.std.specs.Iterator.Adapters.{rev_source}
use Rattle.std.specs.Slice.Iter.{iter_rest}
use Rattle.pf_manifold.specs.Key.{IsKey}
use Rattle.pf_cache.specs.Contact.{Contact}
use Rattle.pf_cache.specs.ContactsChange.{with_noted}
use Rattle.pf_cache.proofs.Restoring.{none_noted, restored_last}
use Rattle.pf_cache.proofs.contacts_change.restore_all.Goals as goal

pub loop-contact-preserved : goal.loop-contact-preserved
loop-contact-preserved c =
    let rest = iter_rest (rev_source c.next.new.self) in record {
      value = restored_last (iter_rest (rev_source c.loop-contact.contact-iterator)) rest c.in-Some.contact.now
          c.loop-contact.contacts c.restore.new.contacts c.in-Some.ensures.steps c.restore.ensures.value
          ∙ c.loop-contact.invariant.value;
      contacts = c.restore.ensures.contacts;
      keys = (All-pop (λ (n : Contact). IsKey n.key) (iter_rest (rev_source c.loop-contact.contact-iterator)) rest
          (Some c.in-Some.contact.now) c.in-Some.ensures.steps c.loop-contact.invariant.keys).0;
    }

pub restore-requires-clause-key : goal.restore-requires-clause-key
restore-requires-clause-key c =
    (All-pop (λ (n : Contact). IsKey n.key) (iter_rest (rev_source c.loop-contact.contact-iterator))
    (iter_rest (rev_source c.next.new.self)) (Some c.in-Some.contact.now) c.in-Some.ensures.steps
    c.loop-contact.invariant.keys).1

pub returns-clause-value : goal.returns-clause-value
returns-clause-value c =
    sym (none_noted c.loop-contact.contacts)
    ∙ ap (with_noted c.loop-contact.contacts) (sym (nil_from_length _ c.in-None.ensures.steps.0)) ∙ c.loop-contact.invariant.value
