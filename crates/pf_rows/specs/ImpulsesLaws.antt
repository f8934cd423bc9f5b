-- The test of equality decides equality. These lemmas stand in specs, since the impl of `==` cites
-- them.
use Rattle.std.proofs.Common.{◌≡◌, ap}
use Rattle.std.specs.Bool.{Decides}
use Rattle.std.proofs.lemmas.Bool.Decides.{Decides-int_eq, Decides-and, Decides-like}
use Rattle.pf_rows.specs.Impulses.{Impulses, same_impulses}

pub Decides-impulses : (a b : Impulses) → Decides (same_impulses a b) (a ≡ b)
Decides-impulses a b =
    Decides-like (same_impulses a b) (λ e i. record {
      normal = e.0 i;
      tangent = e.1 i;
    })
    (λ e. (ap (λ (p : Impulses). p.normal) e, ap (λ (p : Impulses). p.tangent) e))
    (Decides-and _ _ (Decides-int_eq a.normal b.normal) (Decides-int_eq a.tangent b.tangent))
