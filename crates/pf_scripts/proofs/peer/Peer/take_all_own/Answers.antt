use Rattle.std.proofs.Common.{rules, ℕ, Global, Vec, ◌≡◌, ◌∙◌, ◌<◌, ◌≤◌, ◌+◌, ◌++◌, ◌∷◌, [], Err, None, Some, ap, ap₂, arith, drop, get_or, inl, inr, length, refl, subst, sym, take, ⊎_elim}
use Rattle.std.proofs.lemmas.List.{drop_all, length-map, take_more}
use Rattle.std.proofs.lemmas.Result.{err_from_is_err_and}
use Rattle.std.specs.Prelude.{◌⊎◌, IfErr}
use Rattle.pf_step.specs.declared.crew.CrewError.TheVariants.{OutOfMemory}
use Rattle.pf_scripts.specs.Frames.{refusal_of}
use Rattle.pf_scripts.specs.Peer.{scripted_player, setting_of}
use Rattle.pf_scripts.specs.Play.{HasMoved, IsPeerError}
use Rattle.pf_scripts.specs.Script.{frame_bytes, frame_fault, place_after}
use Rattle.pf_scripts.proofs.Faults.{bytes_at, fault_here, fault_later, frame_fault_end, place_after_end, place_later}
use Rattle.pf_scripts.proofs.Moves.{moved_none, moved_then}
use Rattle.pf_scripts.proofs.peer.Peer.take_all_own.Goals as goal

pub loop-number-init : goal.loop-number-init
loop-number-init c = record { moved = moved_none c.args.self.now; place = refl; fault = refl }

pub returns-in_err-take_own-clause-fault : goal.returns-in_err-take_own-clause-fault
returns-in_err-take_own-clause-fault c =
    let s = setting_of c.args.self.now in
    let player = (scripted_player c.args.self.now).player in
    let all = frame_bytes c.args.frames.now in
    let n = c.loop-number.number in
    let is = c.loop-number.invariant in
    let frame = c.deref.result.now in
    let few : n < length c.args.frames.now = search rules in
    let low : n < length all = omega (arith, few, length-map c.args.frames.now (λ (f : Vec ℕ Global). f.items)) in
    let v = c.index-frames-number.result in
    let here : get_or c.args.frames.now n v ≡ v = search rules in
    let at = bytes_at c.args.frames.now n v frame few (c.deref.ensures.value ∙ ap (λ (f : Vec ℕ Global). f.items) (sym here)) in
    let error = err_from_is_err_and c.from_residual.result c.from_residual.ensures.1 in
    let fault = c.in_err-take_own.field-0.0 in
    let outcome : c.from_residual.result ≡ Err fault = rw (error.1, error.2) refl in
    subst (λ r. IfErr r (λ f. IsPeerError (λ e. e ≡ OutOfMemory) player f ⊎ (frame_fault s player c.args.place all ≡ Some f))) (sym outcome)
    (⊎_elim (λ memory. inl (subst (λ p. IsPeerError (λ e. e ≡ OutOfMemory) p fault) is.moved.player memory))
    (λ refused. inr (fault_here s player c.args.place c.loop-number.place all n frame low at fault is.fault
    (ap₂ (λ z p. frame_fault z p c.loop-number.place (frame ∷ [])) (sym is.moved.setting) (sym is.moved.player) ∙ refused)))
    c.in_err-take_own.ensures.fault)

pub loop-number-preserved : goal.loop-number-preserved
loop-number-preserved c =
    let s = setting_of c.args.self.now in
    let player = (scripted_player c.args.self.now).player in
    let all = frame_bytes c.args.frames.now in
    let n = c.loop-number.number in
    let is = c.loop-number.invariant in
    let frame = c.deref.result.now in
    let few : n < length c.args.frames.now = search rules in
    let low : n < length all = omega (arith, few, length-map c.args.frames.now (λ (f : Vec ℕ Global). f.items)) in
    let v = c.index-frames-number.result in
    let here : get_or c.args.frames.now n v ≡ v = search rules in
    let at = bytes_at c.args.frames.now n v frame few (c.deref.ensures.value ∙ ap (λ (f : Vec ℕ Global). f.items) (sym here)) in
    let none : refusal_of s frame ≡ None = ap (λ z. refusal_of z frame) (sym is.moved.setting) ∙ c.in_ok-take_own.ensures.no_fault in
    let next = sym c.saturating_add-place.ensures in record {
      moved = subst (λ fs. HasMoved fs 0 c.args.self.now c.take_own.new.self) (ap (λ f. take n all ++ f ∷ []) (sym at) ∙ sym (take_more all n frame low))
          (moved_then (take n all) (frame ∷ []) 0 0 c.args.self.now c.loop-number.self c.take_own.new.self c.in_range.ensures.all is.moved c.in_ok-take_own.ensures.moved);
      place = place_later s player c.args.place c.loop-number.place all n frame low at is.place
          ∙ ap (λ place. place_after place (drop (n + 1) all)) next;
      fault = fault_later s player c.args.place c.loop-number.place all n frame low at is.fault none
          ∙ ap (λ place. frame_fault s player place (drop (n + 1) all)) next;
    }

pub returns-clause-place : goal.returns-clause-place
returns-clause-place c =
    let all = frame_bytes c.args.frames.now in
    let over : length c.args.frames.now ≤ c.loop-number.number = search rules in
    let none : drop c.loop-number.number all ≡ [] =
    drop_all c.loop-number.number all (omega (arith, over, length-map c.args.frames.now (λ (f : Vec ℕ Global). f.items))) in
    sym (c.loop-number.invariant.place ∙ ap (place_after c.loop-number.place) none ∙ place_after_end c.loop-number.place)

pub returns-clause-no_fault : goal.returns-clause-no_fault
returns-clause-no_fault c =
    let s = setting_of c.args.self.now in
    let player = (scripted_player c.args.self.now).player in
    let all = frame_bytes c.args.frames.now in
    let over : length c.args.frames.now ≤ c.loop-number.number = search rules in
    let none : drop c.loop-number.number all ≡ [] =
    drop_all c.loop-number.number all (omega (arith, over, length-map c.args.frames.now (λ (f : Vec ℕ Global). f.items))) in
    c.loop-number.invariant.fault ∙ ap (frame_fault s player c.loop-number.place) none ∙ frame_fault_end s player c.loop-number.place
