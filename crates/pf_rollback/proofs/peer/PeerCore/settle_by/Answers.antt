use Rattle.std.proofs.Common.{◌≡◌, ◌+◌, ◌-◌, ◌∙◌, List, suc, refl, sym, subst, ap, arith}
use Rattle.pf_step.specs.Split.{Island}
use Rattle.pf_step.specs.Stepping.{FailsBy}
use Rattle.pf_rollback.specs.Core.{HasSettled}
use Rattle.pf_rollback.specs.Kept.{settled_tick}
use Rattle.pf_rollback.specs.Settling.{AreCalls, islands_at}
use Rattle.pf_rollback.proofs.Cores.{no_calls, one_call_more, same_islands, settled_more, settled_none, settled_same}
use Rattle.pf_rollback.proofs.peer.PeerCore.settle_by.Goals as goal

pub loop-tick-init : goal.loop-tick-init
loop-tick-init g c =
    let core = c.args.self.now in
    let none : c.settled-settled.result - c.settled-settled.result ≡ 0 = omega arith in
    record {
      has = subst (λ n. HasSettled n core core) (sym none) (settled_none core core.peer core.kept core.meter refl refl refl);
      settled = sym c.settled-settled.ensures.value;
      called = subst (λ n. AreCalls g.C.Crew.is_called core n c.args.crew.now c.args.crew.now) (sym none) (no_calls _ _ _);
    }

pub returns-in-Err-clause-settle : goal.returns-in-Err-clause-settle
returns-in-Err-clause-settle g c = record {
  answer = tt;
  settled = tt;
  ok = tt;
  err = (
    c.loop-tick.tick - c.settled-settled.result,
    omega (arith, c.settled-settled.ensures.value, c.reached-last.ensures.value),
    settled_same _ _ _ _ c.loop-tick.invariant.has c.in-Err.ensures.err,
  );
}

pub returns-in-Err-clause-crew : goal.returns-in-Err-clause-crew
returns-in-Err-clause-crew g c =
    let core = c.args.self.now in
    let more = c.loop-tick.tick - c.settled-settled.result in
    let here : c.loop-tick.tick ≡ settled_tick core.kept + more = omega (arith, c.settled-settled.ensures.value, c.loop-tick.auto.tick) in
    let islands : islands_at c.loop-tick.self c.loop-tick.tick ≡ islands_at core (settled_tick core.kept + more) =
    same_islands core c.loop-tick.self more c.loop-tick.tick c.loop-tick.invariant.has ∙ ap (islands_at core) here in (
      more,
      omega (arith, c.settled-settled.ensures.value, c.reached-last.ensures.value),
      settled_same _ _ _ _ c.loop-tick.invariant.has c.in-Err.ensures.err,
      (
        c.loop-tick.crew,
        c.loop-tick.invariant.called,
        subst (λ (is : List Island). FailsBy g.C.Crew.may_fail c.loop-tick.crew is c.in-Err.error c.settle_tick.new.crew) islands c.in-Err.ensures.crew,
      ),
    )

pub loop-tick-preserved : goal.loop-tick-preserved
loop-tick-preserved g c =
    let core = c.args.self.now in
    let more = c.loop-tick.tick - c.settled-settled.result in
    let here : c.loop-tick.tick ≡ settled_tick core.kept + more = omega (arith, c.settled-settled.ensures.value, c.loop-tick.auto.tick) in
    let islands : islands_at c.loop-tick.self c.loop-tick.tick ≡ islands_at core (settled_tick core.kept + more) =
    same_islands core c.loop-tick.self more c.loop-tick.tick c.loop-tick.invariant.has ∙ ap (islands_at core) here in
    let next : suc more ≡ c.loop-tick.tick + 1 - c.settled-settled.result = omega (arith, c.loop-tick.auto.tick) in
    record {
      has =
          subst (λ n. HasSettled n core c.settle_tick.new.self) next
          (settled_more _ _ _ _ c.loop-tick.invariant.has c.in_default.ensures.ok);
      settled = c.in_default.ensures.settled;
      called =
          subst (λ n. AreCalls g.C.Crew.is_called core n c.args.crew.now c.settle_tick.new.crew) next
          (one_call_more _ _ _ _ _ _ c.loop-tick.invariant.called
          (subst (λ (is : List Island). g.C.Crew.is_called c.loop-tick.crew is c.settle_tick.new.crew) islands c.in_default.ensures.crew));
    }
