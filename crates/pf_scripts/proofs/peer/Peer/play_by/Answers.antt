use Rattle.std.proofs.Common.{rules, Bool, true, false, ◌≡◌, ◌∙◌, ◌<◌, ◌≤◌, ◌+◌, Err, None, Some, ap, ap₂, arith, drop, get_or, inl, inr, length, refl, subst, sym, take, ⊎_elim}
use Rattle.std.proofs.lemmas.List.{drop_all, take_all}
use Rattle.std.proofs.lemmas.Result.{err_from_is_err_and}
use Rattle.std.specs.Prelude.{◌⊎◌, IfErr, IsTrue}
use Rattle.pf_events.specs.Crews.{CanFail}
use Rattle.pf_step.specs.declared.crew.CrewError.{CrewError}
use Rattle.pf_step.specs.declared.crew.CrewError.TheVariants.{GateShut, OutOfMemory}
use Rattle.pf_scripts.specs.Peer.{scripted_player, setting_of}
use Rattle.pf_scripts.specs.Play.{HasMoved, IsPeerError}
use Rattle.pf_scripts.specs.Script.{frames_in, script_frames, script_fault, script_ticks, turn_fault}
use Rattle.pf_scripts.specs.declared.error.SessionError.TheVariants as errors
use Rattle.pf_scripts.proofs.Faults.{frames_more, script_fault_end, ticks_more, turn_fault_here, turn_fault_later}
use Rattle.pf_scripts.proofs.Moves.{moved_none, moved_then}
use Rattle.pf_scripts.proofs.peer.Peer.play_by.Goals as goal

-- a gate that was shut does not let everybody through
not_always : (always passed : Bool) → (always ≡ true → IsTrue passed) → passed ≡ false → always ≡ false
not_always true passed lets shut = sym (lets refl) ∙ shut
not_always false passed lets shut = refl

pub loop-number-init : goal.loop-number-init
loop-number-init g c = record {
  moved = moved_none c.args.self;
  fault = refl;
  done = λ some. absurd (omega (arith, some));
  idle = λ none. refl;
}

pub returns-then-not-pass-clause-fault : goal.returns-then-not-pass-clause-fault
returns-then-not-pass-clause-fault g c =
    let shut : c.pass.result ≡ false = search rules in
    inl (GateShut, inr (refl, not_always g.G.Gate.ALWAYS c.pass.result c.pass.ensures shut), ap (λ p. errors.Peer p GateShut) c.player-player.ensures.value)

pub returns-in_err-place-clause-fault : goal.returns-in_err-place-clause-fault
returns-in_err-place-clause-fault g c =
    let first = c.args.self in
    let s = setting_of first in
    let p = scripted_player first in
    let script = c.args.script.now in
    let n = c.loop-number.number in
    let is = c.loop-number.invariant in
    let turn = c.index-script-number.result in
    let low : n < length script = search rules in
    let at : get_or script n turn ≡ turn = search rules in
    let error = err_from_is_err_and c.from_residual.result c.from_residual.ensures.1 in
    let fault = c.in_err-place.field-0.0 in
    let outcome : c.from_residual.result ≡ Err fault = rw (error.1, error.2) refl in
    let MayBe : CrewError → Type 0 = λ e. (e ≡ OutOfMemory ⊎ CanFail g.C.Crew.may_fail e) ⊎ (e ≡ GateShut) × (g.G.Gate.ALWAYS ≡ false) in
    subst (λ r. IfErr r (λ f. IsPeerError MayBe p.player f ⊎ (script_fault s p.player 0 p.reached script ≡ Some f))) (sym outcome)
    (⊎_elim (λ own. inl (own.0, inl own.1, own.2 ∙ ap (λ player. errors.Peer player own.0) is.moved.player))
    (λ own. inr (turn_fault_here s p.player 0 c.loop-number.place p.reached (scripted_player c.loop-number.peer).reached script n turn low at is.fault fault
    (ap₂ (λ z player. turn_fault z player c.loop-number.place (scripted_player c.loop-number.peer).reached turn) (sym is.moved.setting) (sym is.moved.player) ∙ own)))
    c.in_err-place.ensures.fault)

pub loop-number-preserved : goal.loop-number-preserved
loop-number-preserved g c =
    let first = c.args.self in
    let s = setting_of first in
    let p = scripted_player first in
    let script = c.args.script.now in
    let n = c.loop-number.number in
    let is = c.loop-number.invariant in
    let now = c.loop-number.peer in
    let new = c.play_turn.new.self in
    let turn = c.index-script-number.result in
    let low : n < length script = search rules in
    let at : get_or script n turn ≡ turn = search rules in
    let ok = c.in_ok-place.ensures in
    let none : turn_fault s p.player c.loop-number.place (scripted_player now).reached turn ≡ None =
    ap₂ (λ z player. turn_fault z player c.loop-number.place (scripted_player now).reached turn) (sym is.moved.setting) (sym is.moved.player) ∙ ok.no_fault in record {
      moved = subst (λ t. HasMoved (script_frames (take (n + 1) script)) t first new) (sym (ticks_more script n turn low at))
          (subst (λ fs. HasMoved fs (script_ticks (take n script) + turn.ticks) first new) (sym (frames_more script n turn low at))
          (moved_then (script_frames (take n script)) (frames_in turn) (script_ticks (take n script)) turn.ticks first now new c.in_range.ensures.all is.moved ok.moved));
      fault = turn_fault_later s p.player 0 c.loop-number.place p.reached (scripted_player now).reached script n turn low at is.fault none
          ∙ ap₂ (λ place reached. script_fault s p.player place reached (drop (n + 1) script)) (sym ok.place) (sym ok.moved.reached);
      done = λ some. (ok.kept, ok.settled);
      idle = λ none. absurd (omega (arith, none));
    }

pub returns-clause-played : goal.returns-clause-played
returns-clause-played g c =
    let first = c.args.self in
    let s = setting_of first in
    let p = scripted_player first in
    let script = c.args.script.now in
    let n = c.loop-number.number in
    let is = c.loop-number.invariant in
    let over : length script ≤ n = search rules in
    let few : n ≤ length script = search rules in
    record {
      moved = subst (λ turns. HasMoved (script_frames turns) (script_ticks turns) first c.loop-number.peer) (take_all n script over) is.moved;
      no_fault = is.fault
          ∙ ap (script_fault s p.player c.loop-number.place (scripted_player c.loop-number.peer).reached) (drop_all n script over)
          ∙ script_fault_end s p.player c.loop-number.place (scripted_player c.loop-number.peer).reached;
      done = λ some. is.done (omega (arith, some, over));
      idle = λ none. is.idle (omega (arith, few, ap length none));
    }
