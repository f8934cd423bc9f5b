use Rattle.std.proofs.Common.{◌∙◌, ap, subst, sym}
use Rattle.pf_cache.specs.Contact.{AreContacts, Contact}
use Rattle.pf_rows.specs.Row.{Entry, Row}
use Rattle.pf_cache.proofs.Stored.{all_stored, none_stored, stored_are_contacts, stored_more}
use Rattle.pf_cache.proofs.contacts.store_at.Goals as goal

pub loop-row-init : goal.loop-row-init
loop-row-init c = sym (none_stored c.args.contacts.now)

pub loop-row-preserved : goal.loop-row-preserved
loop-row-preserved c =
    let item : Contact = record { key = c.contact.inside.key; impulses = c.contact.inside.impulses } in
    let row_is = c.row.view_is ∙ c.row-item.is in
    stored_more c.args.contacts.now c.args.rows.now c.requires.rows c.loop-row.row-index c.row-item.result
    c.loop-row-test.true c.loop-row.contacts _ item _ c.entry.inside.impulses c.requires.contacts c.loop-row.invariant
    (ap (λ (e : Entry). e.place) c.entry.view_is ∙ ap (λ (r : Row). r.entry.place) row_is) c.contact.view_is
    (ap (λ (e : Entry). e.impulses) c.entry.view_is ∙ ap (λ (r : Row). r.entry.impulses) row_is)

pub returns-clause-contacts : goal.returns-clause-contacts
returns-clause-contacts c =
    let rows = c.args.rows.now in
    subst AreContacts
    (sym (c.loop-row.invariant ∙ all_stored c.args.contacts.now rows c.loop-row.row-index c.loop-row-test.false))
    (stored_are_contacts c.args.contacts.now rows c.requires.contacts)
