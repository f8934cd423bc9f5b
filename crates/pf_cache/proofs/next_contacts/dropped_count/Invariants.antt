use Rattle.std.proofs.Common.{◌≡◌, take}
use Rattle.std.specs.Prelude.{sum_by}
use Rattle.pf_cache.specs.declared.key_splices.KeySplice.{KeySplice}
use Rattle.pf_cache.proofs.next_contacts.dropped_count.Given as goal

abbrev pub invariant-loop-splice : goal.invariant-loop-splice
invariant-loop-splice l = l.dropped ≡ sum_by (λ (e : KeySplice). e.dropped) (take l.splice-index l.splices)
