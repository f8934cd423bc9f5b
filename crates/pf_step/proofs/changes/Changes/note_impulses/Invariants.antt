use Rattle.std.proofs.Common.{◌≡◌, All, take}
use Rattle.pf_cache.specs.ContactsChange.{contacts_before}
use Rattle.pf_islands.specs.Split.{Island}
use Rattle.pf_step.specs.Changes.{MayChange}
use Rattle.pf_step.proofs.changes.Changes.note_impulses.Given as goal

abbrev pub invariant-loop-island : goal.invariant-loop-island
invariant-loop-island l = record {
  bodies : l.self-inside.bodies ≡ l.initial.self-inside.bodies;
  in_place : l.self-inside.contacts.in_place ≡ l.initial.self-inside.contacts.in_place;
  noted : All (λ (i : Island). MayChange l.self-inside.contacts i.rows) (take l.island-index l.islands);
  same : contacts_before l.self-inside.contacts l.contacts ≡ contacts_before l.initial.self-inside.contacts l.contacts;
}
