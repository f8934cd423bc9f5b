use Rattle.std.proofs.Common.{◌≡◌, ℕ, ◌<◌, false, get_or, length, take}
use Rattle.pf_broad.specs.Partners.{has_body}
use Rattle.pf_cache.proofs.live.dirty_flags.Given as goal

abbrev pub invariant-loop-number : goal.invariant-loop-number
invariant-loop-number l = record {
  count : length l.flags.items ≡ l.count;
  others : (k : ℕ) → k < l.count → get_or l.flags.items k false ≡ false
      → (l.before ≡ l.count) × (has_body (take l.number-index l.dirty) k ≡ false);
}
