use Rattle.std.proofs.Common.{◌≡◌, ◌∙◌, None, map, ap, subst}
use Rattle.pf_sessions.specs.Session.{session_results, shown_by, turns_of}
use Rattle.pf_console.specs.Blocks.{fault_of}
use Rattle.pf_console.specs.Scripts.{Scripts, blocks_of, scripts_refusal}
use Rattle.pf_console.specs.SessionText.{EndsBy}
use Rattle.pf_console.proofs.ScriptFaults.{none_refused}
use Rattle.pf_console.proofs.SessionEnds.{fault_ends}
use Rattle.pf_console.proofs.ScriptBlocks.{session_blocks}
use Rattle.pf_console.proofs.scripts.Scripts.play.Goals as goal

pub returns-in-Err-clause-fault : goal.returns-in-Err-clause-fault
returns-in-Err-clause-fault g c =
    let turns = turns_of c.self.inside.scripts.items in
    let ends = fault_ends c.args.crew c.self.inside.scene turns c.in-Err.fault (rw (c.deref.ensures.value) at c.in-Err.ensures.fault) in
    rw c.fault_of.ensures (subst (λ (s : Scripts). EndsBy c.args.crew s (fault_of c.in-Err.fault)) c.self.view_is ends)

pub returns-clause-blocks : goal.returns-clause-blocks
returns-clause-blocks g c =
    let s = c.self.inside.scene in
    let turns = turns_of c.self.inside.scripts.items in
    let results : map shown_by c.deref-2.result.now ≡ session_results s turns =
    rw (c.deref-2.ensures.value) (rw (c.deref.ensures.value) at c.in-Ok.ensures.results) in
    c.in_ok-push_blocks.ensures
    ∙ rw (c.new-text.ensures.bytes, c.fixtures.ensures.value, results)
    (session_blocks s turns ∙ ap blocks_of c.self.view_is)

pub returns-clause-taken : goal.returns-clause-taken
returns-clause-taken g c =
    let none = none_refused c.self.inside.scene (turns_of c.self.inside.scripts.items) (rw (c.deref.ensures.value) at c.in-Ok.ensures.no_fault) in
    subst (λ (s : Scripts). scripts_refusal s.scene s.scripts ≡ None) c.self.view_is none
