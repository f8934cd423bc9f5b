-- Ranks are in the order of keys.
use Rattle.std.proofs.Common.{◌≡◌, ◌<◌, ◌⊎◌, ◌↔◌, inl, inr, arith}
use Rattle.std.proofs.lemmas.Bool.{cases_order}
use Rattle.pf_manifold.specs.Key.{Key, IsKey, rank}
use Rattle.pf_manifold.specs.Laws.{IsBefore}

before_is_lower : (k l : Key) → IsKey k → IsKey l → IsBefore k l → rank k < rank l
before_is_lower k l hk hl (inl a) = omega (arith, a, hk.order, hk.bodies, hk.feature, hl.order, hl.bodies, hl.feature)
before_is_lower k l hk hl (inr (e, inl b)) = omega (arith, e, b, hk.feature, hl.feature)
before_is_lower k l hk hl (inr (e, inr (f, g))) = omega (arith, e, f, g)

lower_is_before : (k l : Key) → IsKey k → IsKey l → rank k < rank l → IsBefore k l
lower_is_before k l hk hl low = by_first (cases_order k.a l.a)
  where
    by_feature : k.a ≡ l.a → k.b ≡ l.b → (k.feature ≡ l.feature) ⊎ ((k.feature < l.feature) ⊎ (l.feature < k.feature)) → IsBefore k l
    by_feature e f (inl g) = absurd (omega (arith, e, f, g, low))
    by_feature e f (inr (inl g)) = inr (e, inr (f, g))
    by_feature e f (inr (inr g)) = absurd (omega (arith, e, f, g, low))

    by_second : k.a ≡ l.a → (k.b ≡ l.b) ⊎ ((k.b < l.b) ⊎ (l.b < k.b)) → IsBefore k l
    by_second e (inl f) = by_feature e f (cases_order k.feature l.feature)
    by_second e (inr (inl f)) = inr (e, inl f)
    by_second e (inr (inr f)) = absurd (omega (arith, e, f, low, hk.feature, hl.feature))

    by_first : (k.a ≡ l.a) ⊎ ((k.a < l.a) ⊎ (l.a < k.a)) → IsBefore k l
    by_first (inl e) = by_second e (cases_order k.b l.b)
    by_first (inr (inl a)) = inl a
    by_first (inr (inr a)) = absurd (omega (arith, a, low, hk.order, hk.bodies, hk.feature, hl.order, hl.bodies, hl.feature))

pub ranks_are_in_order : (k l : Key) → IsKey k → IsKey l → (rank k < rank l) ↔ IsBefore k l
ranks_are_in_order k l hk hl = (lower_is_before k l hk hl, before_is_lower k l hk hl)
