use Rattle.std.proofs.Common.{◌≡◌, ◌-◌, ◌≤◌, ℕ, IsTrue, drop, length}
use Rattle.std.specs.List.{flat_map}
use Rattle.pf_cache.specs.Ranked.{element_at}
use Rattle.pf_cache.specs.Slots.{pair_rank, slot_touches}
use Rattle.pf_cache.proofs.CarriedSlots.{slot_rank}
use Rattle.pf_cache.proofs.carrying.advance_to.Given as goal

abbrev pub invariant-loop-place : goal.invariant-loop-place
invariant-loop-place l = record {
  within : l.place ≤ length l.old;
  same : (n : ℕ) → pair_rank l.pair ≤ n → element_at slot_rank n (drop l.place l.old) ≡ element_at slot_rank n (drop l.start l.old);
  empty : IsTrue l.are_empty → flat_map slot_touches (drop l.place l.old) ≡ flat_map slot_touches (drop l.start l.old);
}

abbrev pub decreases-loop-place : goal.decreases-loop-place
decreases-loop-place l = length l.old - l.place
