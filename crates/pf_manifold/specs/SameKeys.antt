-- The test of equality of keys, which decides equality. The lemma stands in specs, since the impl
-- of `==` cites it.
use Rattle.std.proofs.Common.{◌≡◌, ap, Bool, ◌&&◌, ◌==◌}
use Rattle.std.specs.Bool.{Decides}
use Rattle.std.proofs.lemmas.Bool.Decides.{Decides-eqb, Decides-and, Decides-like}
use Rattle.pf_manifold.specs.Key.{Key}

abbrev pub same_key : Key → Key → Bool
same_key a b = (a.a == b.a) && ((a.b == b.b) && (a.feature == b.feature))

pub Decides-key : (a b : Key) → Decides (same_key a b) (a ≡ b)
Decides-key a b =
    Decides-like (same_key a b) (λ e i. record {
      a = e.0 i;
      b = e.1.0 i;
      feature = e.1.1 i;
    })
    (λ e. (ap (λ (k : Key). k.a) e, (ap (λ (k : Key). k.b) e, ap (λ (k : Key). k.feature) e)))
    (Decides-and _ _ (Decides-eqb a.a b.a)
    (Decides-and _ _ (Decides-eqb a.b b.b) (Decides-eqb a.feature b.feature)))
