use Rattle.std.proofs.Common.{rules, ◌≡◌, ◌∷◌, ◌∙◌, [], Some, ap, inr, length, refl, sym, subst}
use Rattle.std.proofs.lemmas.List.Elements.{length_all_zip}
use Rattle.std.specs.List.{AllZip}
use Rattle.std.specs.Prelude.{All}
use Rattle.pf_commands.specs.Merge.{IsCommand}
use Rattle.pf_pool.proofs.Lists.{written_back}
use Rattle.pf_scripts.specs.Frames.{commands_in}
use Rattle.pf_scripts.specs.Peer.{WereHanded, kept_of, scripted_player, setting_of}
use Rattle.pf_scripts.specs.declared.error.SessionError.TheVariants as errors
use Rattle.pf_scripts.proofs.Faults.{frame_fault_here}
use Rattle.pf_scripts.proofs.Steps.{moved_own}
use Rattle.pf_scripts.proofs.peer.Peer.take_own.Goals as goal

pub invariant_of-self-in-Err : goal.invariant_of-self-in-Err
invariant_of-self-in-Err c =
    let p = c.args.self.now in
    record { ranges = subst (λ z. All IsCommand (commands_in z (kept_of p))) (sym c.take.ensures.setting) p.ranges }

pub returns-in-Ok-Some-clause-fault : goal.returns-in-Ok-Some-clause-fault
returns-in-Ok-Some-clause-fault c =
    let p = c.args.self.now in
    inr (frame_fault_here (setting_of p) (scripted_player p).player c.args.place c.args.frame.now [] c.in-Ok-Some.refusal (sym c.in-Ok-Some.ensures.refusal ∙ c.in-Ok-Some.field-0-is)
    ∙ ap (λ player. Some (errors.Frame player c.args.place c.in-Ok-Some.refusal)) (sym c.player-player.ensures.value))

pub returns-in-Ok-hand_to_all-clause-moved : goal.returns-in-Ok-hand_to_all-clause-moved
returns-in-Ok-hand_to_all-clause-moved c =
    let old = c.args.self.now.outputs in
    let new = c.hand_to_all.new.outputs in
    let R = WereHanded (c.args.frame.now ∷ []) in
    let frame : c.in-Ok.frame ≡ c.args.frame.now = search rules in
    let each : AllZip R old.items new =
    subst (λ xs. AllZip R xs new) c.deref_mut.ensures.value
    (subst (λ f. AllZip (WereHanded (f ∷ [])) c.deref_mut.result.now new) frame c.in-Ok-hand_to_all.ensures) in
    let long : length new ≡ length old.items = sym (length_all_zip R old.items new each) in
    moved_own c.args.self.now _ c.args.frame.now c.in_range.ensures.core c.in_range.ensures.kept c.take.ensures.ranges c.take.ensures.setting
    c.in-Ok-None.ensures.peer refl refl (subst (AllZip R old.items) (sym (written_back old.len new old.items long old.ok.0)) each)
