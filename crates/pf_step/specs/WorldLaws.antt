-- The test of equality decides equality. Stands here, since the laws of `==` are members of its
-- impls.
use Rattle.std.proofs.Common.{◌≡◌, refl, ap}
use Rattle.std.specs.Bool.{Decides}
use Rattle.std.specs.Cmp.{IsEquivalence, decided}
use Rattle.std.proofs.lemmas.Bool.Decides.{Decides-and, Decides-like}
use Rattle.std.proofs.lemmas.Slice.Eq.{slice_eq-Decides}
use Rattle.pf_shapes.specs.SameLaws.{Decides-state}
use Rattle.pf_cache.specs.SameLaws.{Decides-contacts}
use Rattle.pf_step.specs.World.{World, same_world}

pub Decides-world : (a b : World) → Decides (same_world a b) (a ≡ b)
Decides-world a b =
    Decides-like (same_world a b) (λ e i. record {
      bodies = e.0 i;
      contacts = e.1 i;
    })
    (λ e. (ap (λ (w : World). w.bodies) e, ap (λ (w : World). w.contacts) e))
    (Decides-and _ _ (slice_eq-Decides Decides-state a.bodies b.bodies _ refl)
    (Decides-contacts a.contacts b.contacts))

pub worlds_equivalent : IsEquivalence same_world
worlds_equivalent = decided same_world Decides-world
