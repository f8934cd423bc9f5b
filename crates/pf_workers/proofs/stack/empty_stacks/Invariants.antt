use Rattle.std.proofs.Common.{◌≡◌, [], length}
use Rattle.std.specs.Prelude.{All}
use Rattle.pf_workers.proofs.stack.empty_stacks.Given as goal

abbrev pub invariant-loop-made : goal.invariant-loop-made
invariant-loop-made l = record {
  made : length l.stacks.items ≡ l._made;
  empty : All (λ stack. stack ≡ []) l.stacks.items;
}
