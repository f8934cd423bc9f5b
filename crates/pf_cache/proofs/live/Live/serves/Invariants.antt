use Rattle.std.proofs.Common.{◌≡◌, ℕ, false, get_or, take}
use Rattle.pf_broad.specs.Partners.{has_body}
use Rattle.pf_cache.proofs.live.Live.serves.Given as goal

abbrev pub invariant-loop-number : goal.invariant-loop-number
invariant-loop-number l =
    (k : ℕ) → get_or l.self.watched.items k false ≡ false → has_body (take l.number-index l.dirty) k ≡ false
