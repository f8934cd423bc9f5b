use Rattle.std.proofs.Common.{◌≡◌, [], length, map}
use Rattle.std.specs.Prelude.{replicate}
use Rattle.pf_sessions.specs.Session.{turns_of}
use Rattle.pf_console.specs.Turns.{said_by}
use Rattle.pf_console.proofs.scripts.ScriptsPlayUnit.begin.Given as goal

abbrev pub invariant-loop : goal.invariant-loop
invariant-loop l =
    (length l.scripts.items ≡ l.counter) × (map (map said_by) (turns_of l.scripts.items) ≡ replicate l.counter [])
