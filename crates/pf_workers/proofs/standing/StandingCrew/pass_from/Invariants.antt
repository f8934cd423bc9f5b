use Rattle.std.proofs.Common.{◌≡◌, true}
use Rattle.std.specs.Prelude.{IsTrue}
use Rattle.pf_workers.proofs.standing.StandingCrew.pass_from.Given as goal

abbrev pub invariant-loop-number : goal.invariant-loop-number
invariant-loop-number g l = g.G.Gate.ALWAYS ≡ true → IsTrue l.is_open
