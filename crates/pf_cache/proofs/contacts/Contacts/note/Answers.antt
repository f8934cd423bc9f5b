use Rattle.std.proofs.Common.{◌≡◌, ◌∙◌, ◌++◌, All, List, ap, map, subst, sym, take, true}
use Rattle.std.proofs.lemmas.List.Elements.{All-append, All-take}
use Rattle.std.proofs.lemmas.Result.{on_ok_weaker}
use Rattle.std.specs.Prelude.{if◌then◌else◌}
use Rattle.pf_manifold.specs.Key.{IsKey}
use Rattle.pf_rows.specs.Row.{Row}
use Rattle.pf_cache.specs.Contact.{AreContacts, Contact}
use Rattle.pf_cache.specs.ContactRows.{IsRowAt}
use Rattle.pf_cache.specs.ContactsChange.{ContactsChange, contact_of_row, contacts_before, may_change}
use Rattle.pf_cache.proofs.FoundRows.{row_rank}
use Rattle.pf_cache.proofs.Restoring.{noted_may, rows_have_keys, same_before}
use Rattle.pf_cache.proofs.contacts.Contacts.note.Goals as goal

-- the contacts that are lent
lent : (c : goal.After-note_rows) → c.deref.result.now ≡ c.args.self.now
lent c = c.deref.ensures.value ∙ c.self.view_is

are_contacts : (c : goal.After-note_rows) → AreContacts c.args.self.now
are_contacts c = subst AreContacts c.self.view_is c.self.invariant

-- the first rows, whose contacts were noted, and these contacts
abbrev first : (c : goal.After-note_rows) → List Row
first c = take c.note_rows.ensures.first.0 c.args.rows.now

abbrev more : (c : goal.After-note_rows) → List Contact
more c = map (contact_of_row c.args.self.now) (first c)

first_at : (c : goal.After-note_rows) → All (IsRowAt c.args.self.now) (first c)
first_at c = All-take (IsRowAt c.args.self.now) c.note_rows.ensures.first.0 c.args.rows.now c.requires.places

noted : (c : goal.After-note_rows) → c.note_rows.new.noted.items ≡ c.change.inside.noted.items ++ more c
noted c =
    c.note_rows.ensures.first.1
    ∙ ap (λ cs. c.change.inside.noted.items ++ map (contact_of_row cs) (first c)) (lent c)

-- the change before and after, by the contacts that are noted
abbrev change : (c : goal.After-note_rows) → List Contact → ContactsChange
change c ns = record { in_place = c.change.inside.in_place; noted = ns; before = c.change.inside.before.items }

invariant_after : (c : goal.After-note_rows)
    → All (λ n. IsKey n.key) c.note_rows.new.noted.items × AreContacts c.change.inside.before.items
invariant_after c = (
  subst (All (λ n. IsKey n.key)) (sym (noted c))
      (All-append (λ n. IsKey n.key) c.change.inside.noted.items (more c) c.change.invariant.0
      (rows_have_keys c.args.self.now (are_contacts c) (first c) (first_at c))),
  c.change.invariant.1,
)

same_after : (c : goal.After-note_rows)
    → contacts_before (change c c.note_rows.new.noted.items) c.args.self.now ≡ contacts_before c.args.change.now c.args.self.now
same_after c =
    let inside = c.change.inside in
    let now = c.args.self.now in
    ap (λ ns. contacts_before (change c ns) now) (noted c)
    ∙ ap (λ cs. if inside.in_place then cs else inside.before.items)
    (same_before now (are_contacts c) inside.noted.items (first c) (first_at c))
    ∙ ap (λ (ch : ContactsChange). contacts_before ch now) c.change.view_is

pub invariant_of-change : goal.invariant_of-change
invariant_of-change c = invariant_after c

pub returns-clause-same : goal.returns-clause-same
returns-clause-same c = same_after c

pub returns-clause-noted : goal.returns-clause-noted
returns-clause-noted c =
    let now = c.args.self.now in
    let inside = c.change.inside in
    let rows = c.args.rows.now in
    on_ok_weaker c.note_rows.result
    (λ all.
    subst (λ ns. All (λ r. may_change (change c ns) (row_rank r) ≡ true) rows)
    (sym (all ∙ ap (λ cs. inside.noted.items ++ map (contact_of_row cs) rows) (lent c)))
    (noted_may inside.in_place now inside.noted.items rows c.requires.places))
    c.note_rows.ensures.all
