use Rattle.std.proofs.Common.{◌∙◌, sym}
use Rattle.pf_cache.specs.SameLaws.{Decides-contacts}
use Rattle.pf_cache.proofs.contacts.ContactsPartialEq.eq.Goals as goal

pub returns-clause-equal : goal.returns-clause-equal
returns-clause-equal c =
    let decides = Decides-contacts c.args.self.now c.args.other.now in
    (λ h. decides.0 (sym c.is_same.ensures ∙ h), λ e. c.is_same.ensures ∙ decides.1 e)
