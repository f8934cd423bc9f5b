use Rattle.std.proofs.Common.{◌∙◌, Some, ap, refl, subst, sym}
use Rattle.std.specs.Prelude.{All}
use Rattle.pf_commands.specs.Merge.{IsCommand}
use Rattle.pf_rollback.specs.Peer.{Peer as Player}
use Rattle.pf_scripts.specs.Frames.{Setting, commands_in, core_setting}
use Rattle.pf_scripts.specs.Peer.{kept_of, scripted_player}
use Rattle.pf_scripts.specs.declared.error.SessionError.TheVariants as errors
use Rattle.pf_scripts.proofs.Steps.{advanced, moved_alone, not_advanced, setting_advanced}
use Rattle.pf_scripts.proofs.peer.Peer.go_on.Goals as goal

pub invariant_of-self : goal.invariant_of-self
invariant_of-self c =
    let p = c.args.self.now in
    let same = setting_advanced p.core c.advance.new.self c.args.ticks c.advance.result c.advance.ensures.peer c.advance.ensures.rest in
    record { ranges = subst (λ z. All IsCommand (commands_in z (kept_of p))) (sym same) p.ranges }

pub returns-in-Ok-clause-moved : goal.returns-in-Ok-clause-moved
returns-in-Ok-clause-moved c =
    let core = c.args.self.now.core in
    let on = (advanced (scripted_player c.args.self.now) c.args.ticks _ _ c.in-Ok.ensures.peer).0 in
    moved_alone c.args.self.now _ c.args.ticks
    (ap core_setting c.in-Ok.ensures.rest
    ∙ ap (λ (p : Player). let z : Setting = record { scene = core.scene; horizon = p.horizon } in z) on) on refl refl refl

pub returns-in-Ok-clause-no_fault : goal.returns-in-Ok-clause-no_fault
returns-in-Ok-clause-no_fault c = (advanced (scripted_player c.args.self.now) c.args.ticks _ _ c.in-Ok.ensures.peer).1

pub returns-in-Err-clause-fault : goal.returns-in-Err-clause-fault
returns-in-Err-clause-fault c =
    not_advanced (scripted_player c.args.self.now) c.args.ticks c.advance.new.self.peer c.advance.result c.advance.ensures.peer c.advance.ensures.no_memory
    (rw c.in-Err.is refl)
    ∙ ap (λ player. Some (errors.TickLimit player)) (sym c.player-player.ensures.value)
