use Rattle.std.proofs.Common.{◌≡◌, take}
use Rattle.pf_cache.specs.ContactRows.{with_rows}
use Rattle.pf_cache.proofs.contacts.store_at.Given as goal

abbrev pub invariant-loop-row : goal.invariant-loop-row
invariant-loop-row l = l.contacts ≡ with_rows l.initial.contacts (take l.row-index l.rows)
