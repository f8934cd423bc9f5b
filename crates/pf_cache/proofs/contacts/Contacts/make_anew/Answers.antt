use Rattle.std.proofs.Common.{◌≡◌, ◌∙◌, ◌++◌, [], ap, ap₂, length, subst, sym, arith}
use Rattle.std.specs.Prelude.{if◌then◌else◌, vec_len}
use Rattle.pf_cache.specs.Contact.{AreContacts, contacts_of_keys}
use Rattle.pf_cache.specs.ContactsChange.{ContactsChange, with_noted}
use Rattle.pf_cache.specs.KeySplices.{keys_after}
use Rattle.pf_cache.proofs.Splicing.{dropped_within, keys_of, room_after}
use Rattle.pf_cache.proofs.Kept.{updated_are_contacts}
use Rattle.pf_cache.proofs.Restoring.{none_noted}
use Rattle.pf_cache.proofs.contacts.Contacts.make_anew.Goals as goal

-- the old contacts are as many as the list says
old_count : (c : goal.After-dropped_count) → c.len-old_count.result ≡ length c.args.self.now
old_count c = c.len-old_count.ensures ∙ c.self.inside.list.ok.0 ∙ ap length c.self.view_is

pub overflow_sub-count : goal.overflow_sub-count
overflow_sub-count c =
    omega (arith, old_count c, c.dropped_count.ensures, dropped_within c.args.splices.now, c.requires.within)

pub returns-in_err-reserve-clause-before : goal.returns-in_err-reserve-clause-before
returns-in_err-reserve-clause-before c =
    let now = c.args.self.now in
    let cleared = c.change.view_is ∙ c.clear.ensures in
    ap₂ (λ t noted. if t then with_noted now noted else c.reserve.new.self.items)
    (ap (λ (change : ContactsChange). change.in_place) cleared) (ap (λ (change : ContactsChange). change.noted) cleared)
    ∙ none_noted now

pub returns-in_err-reserve-clause-no_memory : goal.returns-in_err-reserve-clause-no_memory
returns-in_err-reserve-clause-no_memory c = λ none.
    let count = room_after c.args.self.now c.args.splices.now c.args.added.now c.len-old_count.result c.dropped_count.result
    (c.len-old_count.ensures ∙ c.self.inside.list.ok.0 ∙ ap length c.self.view_is) c.dropped_count.ensures c.requires.within c.requires.added in
    let empty : vec_len c.change.inside.before ≡ 0 =
    c.change.inside.before.ok.0 ∙ ap (λ (change : ContactsChange). length change.before) (c.change.view_is ∙ c.clear.ensures) in
    absurd (omega (arith, count, ap length none, empty, c.in_err-reserve.ensures.full))

pub add_spliced-requires-clause-room : goal.add_spliced-requires-clause-room
add_spliced-requires-clause-room c =
    let old : c.deref.result.now ≡ c.args.self.now =
    c.deref.ensures.value ∙ ap (λ l. l.items) c.swap.ensures.y_after ∙ c.self.view_is in
    let count = room_after c.args.self.now c.args.splices.now c.args.added.now c.len-old_count.result c.dropped_count.result
    (c.len-old_count.ensures ∙ c.self.inside.list.ok.0 ∙ ap length c.self.view_is) c.dropped_count.ensures c.requires.within c.requires.added in
    rw (old, c.swap.ensures.x_after) (omega (arith, count, c.in_ok-reserve.ensures.ok))

made : (c : goal.After-add_spliced) → c.add_spliced.new.list.items
    ≡ contacts_of_keys c.args.self.now (keys_after c.args.splices.now c.args.added.now (keys_of c.args.self.now))
made c =
    let old : c.deref.result.now ≡ c.args.self.now =
    c.deref.ensures.value ∙ ap (λ l. l.items) c.swap.ensures.y_after ∙ c.self.view_is in
    let empty : c.swap.new.x.items ≡ [] = ap (λ l. l.items) c.swap.ensures.x_after ∙ c.in_ok-reserve.ensures.items
    ∙ ap (λ (change : ContactsChange). change.before) (c.change.view_is ∙ c.clear.ensures) in
    c.add_spliced.ensures
    ∙ ap₂ (λ front cs. front ++ contacts_of_keys cs (keys_after c.args.splices.now c.args.added.now (keys_of cs))) empty old

pub invariant_of-self : goal.invariant_of-self
invariant_of-self c =
    subst AreContacts (sym (made c))
    (updated_are_contacts c.args.self.now (keys_after c.args.splices.now c.args.added.now (keys_of c.args.self.now)) c.requires.keys)

pub returns-clause-value : goal.returns-clause-value
returns-clause-value c = made c
