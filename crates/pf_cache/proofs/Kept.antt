-- Updated contacts are in the order of their keys, and those of points are those of their keys.
use Rattle.std.proofs.Common.{◌≡◌, ◌∙◌, ap, ℕ, ◌≤◌, List, [], ◌∷◌, length, map, sym, subst, take, take_all, refl}
use Rattle.std.proofs.lemmas.List.Elements.{All-map}
use Rattle.std.proofs.lemmas.Simd.{map-map}
use Rattle.pf_manifold.specs.Touches.{Touch}
use Rattle.pf_manifold.specs.Key.{IsRising, AreTouches, IsKey, Key, key_of, rank}
use Rattle.pf_cache.specs.Contact.{Contact, AreContacts, AreKeys, contact_of_key, contacts_of_keys, next_contacts}

pub updated_are_contacts : (old : List Contact) (keys : List Key) → AreKeys keys → AreContacts (contacts_of_keys old keys)
unfolding contacts_of_keys
updated_are_contacts old keys order = record {
  rising = subst (IsRising 0) (sym (map-map (λ (c : Contact). rank c.key) (contact_of_key old) keys)) order.rising;
  keys = All-map (λ c. IsKey c.key) (contact_of_key old) keys order.each;
}

pub same_keys : (old : List Contact) (touches : List Touch)
    → map (λ c. c.key) (next_contacts old touches) ≡ map key_of touches
unfolding next_contacts
same_keys old [] = refl
same_keys old (t ∷ touches) = rw (same_keys old touches) refl

-- all keys have their contacts
pub finished : (old : List Contact) (keys : List Key) (i : ℕ) (made : List Contact) → length keys ≤ i
    → made ≡ map (contact_of_key old) (take i keys) → made ≡ contacts_of_keys old keys
unfolding contacts_of_keys
finished old keys i made over done = done ∙ ap (map (contact_of_key old)) (take_all i keys over)

-- the contacts of points are those of their keys
pub next_by_keys : (old : List Contact) (touches : List Touch)
    → next_contacts old touches ≡ contacts_of_keys old (map key_of touches)
unfolding next_contacts contacts_of_keys
next_by_keys old touches = sym (map-map (contact_of_key old) key_of touches)

-- the keys of points that are in their order
pub keys_in_order : (touches : List Touch) → AreTouches touches → AreKeys (map key_of touches)
keys_in_order touches order = record {
  rising = subst (IsRising 0) (sym (map-map rank key_of touches)) order.rising;
  each = All-map IsKey key_of touches order.keys;
}
