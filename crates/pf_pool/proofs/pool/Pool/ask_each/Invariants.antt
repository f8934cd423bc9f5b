use Rattle.std.proofs.Common.{◌≡◌, ℕ, ◌<◌, ◌≤◌, None, get_or, length}
use Rattle.pf_pool.specs.Slots.{AreAway}
use Rattle.pf_pool.proofs.pool.Pool.ask_each.Given as goal

abbrev pub invariant-loop-least : goal.invariant-loop-least
invariant-loop-least g l = record {
  knows : l.collector ≡ l.initial.collector;
  count : length l.slots ≡ length l.initial.slots;
  few : l.least ≤ length l.slots;
  left : (w : ℕ) → w < l.least → get_or l.slots w None ≡ get_or l.initial.slots w None;
  away : AreAway l.least l.slots;
}

abbrev pub decreases-loop-least : goal.decreases-loop-least
decreases-loop-least g l = l.least
