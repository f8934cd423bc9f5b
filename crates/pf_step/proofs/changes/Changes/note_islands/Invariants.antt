use Rattle.std.proofs.Common.{◌≡◌, ◌++◌, take}
use Rattle.pf_step.specs.Changes.{changes_of_islands}
use Rattle.pf_step.proofs.changes.Changes.note_islands.Given as goal

abbrev pub invariant-loop-island : goal.invariant-loop-island
invariant-loop-island l = record {
  noted : l.self-inside.bodies.items ≡ l.initial.self-inside.bodies.items ++ changes_of_islands l.bodies (take l.island-index l.islands);
  contacts : l.self-inside.contacts ≡ l.initial.self-inside.contacts;
}
