use Rattle.std.proofs.Common.{◌≡◌, ◌∙◌, ◌+◌, ap, arith, refl, subst, sym}
use Rattle.std.specs.Prelude.{All}
use Rattle.pf_commands.specs.Merge.{IsCommand}
use Rattle.pf_rollback.specs.Core.{PeerCore}
use Rattle.pf_scripts.specs.Frames.{commands_in, core_setting}
use Rattle.pf_scripts.specs.Peer.{kept_of, scripted_player}
use Rattle.pf_scripts.proofs.Steps.{moved_alone, setting_settled}
use Rattle.pf_scripts.proofs.peer.Peer.settle.Goals as goal

pub invariant_of-self : goal.invariant_of-self
invariant_of-self g c =
    let p = c.args.self.now in
    let same = setting_settled p.core c.settle_by.new.self c.settle_by.result c.settle_by.ensures.settle in
    record { ranges = subst (λ z. All IsCommand (commands_in z (kept_of p))) (sym same) p.ranges }

pub returns-in-Ok-clause-moved : goal.returns-in-Ok-clause-moved
returns-in-Ok-clause-moved g c =
    let p = scripted_player c.args.self.now in
    let rest = c.in-Ok.ensures.settle.ok.rest in
    let stays : p.reached ≡ p.reached + 0 = omega arith in
    moved_alone c.args.self.now _ 0 (ap core_setting rest)
    (ap (λ (core : PeerCore). core.peer) rest ∙ ap (λ reached. record p { reached = reached }) stays) refl refl refl
