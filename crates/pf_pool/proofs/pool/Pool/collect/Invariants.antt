use Rattle.std.proofs.Common.{◌≡◌, ℕ, None, Some, get_or, length}
use Rattle.std.specs.Prelude.{IsSome}
use Rattle.pf_pool.specs.Slots.{AreAnswers}
use Rattle.pf_pool.specs.declared.reply.Dealt.{Dealt}
use Rattle.pf_pool.proofs.pool.Pool.collect.Given as goal

abbrev pub invariant-loop : goal.invariant-loop
invariant-loop g l = record {
  next : (goal.iterator-loop g).can_next l.iterator' × (goal.iterator-loop g).is_finite l.iterator';
  knows : l.collector ≡ l.initial.collector;
  count : length l.slots ≡ length l.initial.slots;
  kept : (w : ℕ) → IsSome (get_or l.initial.slots w None) → get_or l.slots w None ≡ get_or l.initial.slots w None;
  done : (d : Dealt g.row.T-Part.Denot) → l.initial.collector ≡ Some d
      → AreAnswers g.T.Task.is_done d l.fn.least l.initial.slots → AreAnswers g.T.Task.is_done d l.fn.least l.slots;
}
