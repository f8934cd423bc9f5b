-- The tests of equality decide equality. These lemmas stand in specs, since the impls of `==` cite
-- them.
use Rattle.std.proofs.Common.{◌≡◌, refl, ap}
use Rattle.std.specs.Bool.{Decides}
use Rattle.std.specs.Cmp.{IsEquivalence, decided}
use Rattle.std.proofs.lemmas.Bool.Decides.{Decides-and, Decides-like}
use Rattle.std.proofs.lemmas.Slice.Eq.{slice_eq-Decides}
use Rattle.std.specs.Prelude.{List}
use Rattle.pf_manifold.specs.SameKeys.{Decides-key}
use Rattle.pf_rows.specs.ImpulsesLaws.{Decides-impulses}
use Rattle.pf_cache.specs.Contact.{Contact}
use Rattle.pf_cache.specs.Same.{same_contact, same_contacts}

pub Decides-contact : (a b : Contact) → Decides (same_contact a b) (a ≡ b)
Decides-contact a b =
    Decides-like (same_contact a b) (λ e i. record {
      key = e.0 i;
      impulses = e.1 i;
    })
    (λ e. (ap (λ (c : Contact). c.key) e, ap (λ (c : Contact). c.impulses) e))
    (Decides-and _ _ (Decides-key a.key b.key) (Decides-impulses a.impulses b.impulses))

pub Decides-contacts : (a b : List Contact) → Decides (same_contacts a b) (a ≡ b)
Decides-contacts a b = slice_eq-Decides Decides-contact a b _ refl

pub lists_equivalent : IsEquivalence same_contacts
lists_equivalent = decided same_contacts Decides-contacts
