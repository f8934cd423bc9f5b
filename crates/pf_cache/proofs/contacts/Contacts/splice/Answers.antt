use Rattle.std.proofs.Common.{◌≡◌, ◌∙◌, [], ap, eqb-true, sym, vec_len}
use Rattle.std.proofs.lemmas.List.{nil_from_length}
use Rattle.pf_cache.specs.KeySplices.{KeySplices}
use Rattle.pf_cache.specs.ContactsChange.{ContactsChange, contacts_before}
use Rattle.pf_cache.proofs.Splicing.{none_spliced}
use Rattle.pf_cache.proofs.Restoring.{none_noted}
use Rattle.pf_cache.proofs.contacts.Contacts.splice.Goals as goal

pub returns-then-is_empty-clause-value : goal.returns-then-is_empty-clause-value
returns-then-is_empty-clause-value c =
    let none : vec_len c.splices.inside.splices ≡ 0 = eqb-true (vec_len c.splices.inside.splices) 0 (sym c.is_empty.ensures ∙ c.if-is_empty.true) in
    let empty : c.args.splices.now.splices ≡ [] =
    ap (λ (e : KeySplices). e.splices) (sym c.splices.view_is)
    ∙ nil_from_length c.splices.inside.splices.items (sym c.splices.inside.splices.ok.0 ∙ none) in
    sym (none_spliced c.args.self.now c.args.splices.now.splices c.args.splices.now.added empty c.requires.keys)

pub returns-then-is_empty-clause-before : goal.returns-then-is_empty-clause-before
returns-then-is_empty-clause-before c =
    let now = c.args.self.now in
    ap (λ (change : ContactsChange). contacts_before change now) c.clear.ensures ∙ none_noted now
