use Rattle.std.proofs.Common.{◌≡◌, ◌++◌, take}
use Rattle.pf_step.specs.Changes.{changes_by_commands}
use Rattle.pf_step.proofs.changes.Changes.note_commanded.Given as goal

abbrev pub invariant-loop-payload : goal.invariant-loop-payload
invariant-loop-payload l = record {
  noted : l.self-inside.bodies.items ≡ l.initial.self-inside.bodies.items ++ changes_by_commands l.bodies (take l.payload-index l.payloads);
  contacts : l.self-inside.contacts ≡ l.initial.self-inside.contacts;
}
