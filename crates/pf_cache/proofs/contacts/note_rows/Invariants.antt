use Rattle.std.proofs.Common.{◌≡◌, ◌++◌, map, take}
use Rattle.pf_cache.specs.ContactsChange.{contact_of_row}
use Rattle.pf_cache.proofs.contacts.note_rows.Given as goal

abbrev pub invariant-loop-row : goal.invariant-loop-row
invariant-loop-row l =
    l.noted.items ≡ l.initial.noted.items ++ map (contact_of_row l.contacts) (take l.row-index l.rows)
