use Rattle.std.proofs.Common.{List, map, subst, sym}
use Rattle.std.proofs.lemmas.List.Elements.{All-map}
use Rattle.std.proofs.lemmas.Simd.{map-map}
use Rattle.pf_manifold.specs.Key.{IsKey, IsRising, rank}
use Rattle.pf_cache.specs.Contact.{AreContacts, AreKeys, Contact}
use Rattle.pf_cache.specs.KeySplices.{spliced_keys}
use Rattle.pf_cache.proofs.SplicesMade.{no_splices_between}
use Rattle.tests_tick.proofs.contacts.stay_unspliced.Goals as goal

keys_are : (contacts : List Contact) → AreContacts contacts → AreKeys (map (λ (c : Contact). c.key) contacts)
keys_are contacts are = record {
  rising = subst (IsRising 0) (sym (map-map rank (λ (c : Contact). c.key) contacts)) are.rising;
  each = All-map IsKey (λ (c : Contact). c.key) contacts are.keys;
}

pub splice-requires-clause-keys : goal.splice-requires-clause-keys
splice-requires-clause-keys c =
    let contacts = c.args.contacts.now in
    let keys = map (λ (x : Contact). x.key) contacts in
    subst (λ splices. AreKeys (spliced_keys splices keys)) (sym c.new.ensures)
    (subst AreKeys (sym (no_splices_between keys).1) (keys_are contacts c.as_slice.ensures.contacts))
