-- The order of names is total and tells all names apart.
use Rattle.std.proofs.Common.{ℕ, ap}
use Rattle.std.specs.Ordering.{nat_cmp, ordering_then}
use Rattle.std.specs.Cmp.{IsTotalOrder}
use Rattle.std.specs.FinMap.{IsAntisymmetric}
use Rattle.std.proofs.lemmas.Cmp.{nat_cmp_total, on_total, then_total}
use Rattle.std.proofs.lemmas.Map.Lookups.{exact_pairs, exact_unsigned}
use Rattle.pf_commands.specs.Name.{Name}
use Rattle.pf_commands.specs.Merge.{name_cmp}

pub name_cmp_total : IsTotalOrder name_cmp
name_cmp_total =
    then_total (on_total (λ n. n.tick) nat_cmp_total)
    (then_total (on_total (λ n. n.player) nat_cmp_total) (on_total (λ n. n.number) nat_cmp_total))

-- the name of a tick, a player and a number
name_of : ℕ × (ℕ × ℕ) → Name
name_of parts = record { tick = parts.0; player = parts.1.0; number = parts.1.1 }

pub name_cmp-IsAntisymmetric : IsAntisymmetric name_cmp
unfolding name_of
name_cmp-IsAntisymmetric a b tied =
    let pair_cmp : (x y : ℕ × ℕ) → _ = λ x y. ordering_then (nat_cmp x.0 y.0) (nat_cmp x.1 y.1) in
    ap name_of (exact_pairs nat_cmp pair_cmp exact_unsigned (exact_pairs nat_cmp nat_cmp exact_unsigned exact_unsigned) (a.tick, (a.player, a.number)) (b.tick, (b.player, b.number)) tied)
