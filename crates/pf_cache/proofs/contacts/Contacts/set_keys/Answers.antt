use Rattle.std.proofs.Common.{◌∙◌, ap, length, subst, sym}
use Rattle.std.proofs.lemmas.Result.{on_ok_weaker}
use Rattle.pf_cache.specs.Contact.{AreKeys, contacts_of_keys}
use Rattle.pf_cache.proofs.Splicing.{all_spliced}
use Rattle.pf_cache.proofs.contacts.Contacts.set_keys.Goals as goal

pub make_anew-requires-clause-keys : goal.make_anew-requires-clause-keys
make_anew-requires-clause-keys c =
    let count = c.len.ensures ∙ c.self.inside.list.ok.0 ∙ ap length c.self.view_is in
    subst AreKeys (sym (all_spliced c.args.self.now c.args.keys.now c.len.result count)) c.requires

pub returns-clause-value : goal.returns-clause-value
returns-clause-value c =
    let count = c.len.ensures ∙ c.self.inside.list.ok.0 ∙ ap length c.self.view_is in
    let after = all_spliced c.args.self.now c.args.keys.now c.len.result count in
    on_ok_weaker c.make_anew.result (λ made. made ∙ ap (contacts_of_keys c.args.self.now) after) c.make_anew.ensures.value

pub returns-clause-no_memory : goal.returns-clause-no_memory
returns-clause-no_memory c = λ none.
    let count = c.len.ensures ∙ c.self.inside.list.ok.0 ∙ ap length c.self.view_is in
    c.make_anew.ensures.no_memory (all_spliced c.args.self.now c.args.keys.now c.len.result count ∙ none)
