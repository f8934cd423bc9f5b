use Rattle.std.proofs.Common.{rules, ◌≡◌, subst, sym, ap, ◌∙◌}
use Rattle.pf_rollback.specs.Kept.{settled_tick}
use Rattle.pf_rollback.specs.Snapshots.{IsKept, IsSnapshots, last_world, settled_world, ticks_of}
use Rattle.pf_rollback.proofs.KeptWorlds.{settled_tick_kept}
use Rattle.pf_rollback.proofs.snapshots.Snapshots.latest.Goals as goal

pub returns-in-Some-clause-kept : goal.returns-in-Some-clause-kept
returns-in-Some-clause-kept c =
    let s = c.self.inside in
    let now = c.args.self.now in
    let world : settled_world now ≡ c.in-Some.world =
    ap settled_world (sym c.self.view_is) ∙ ap (last_world s.base s.keyframes.items) c.in-Some.is in
    subst (IsKept now (settled_tick (ticks_of now))) world (settled_tick_kept now (subst IsSnapshots c.self.view_is c.self.invariant))

pub returns-in-None-clause-kept : goal.returns-in-None-clause-kept
returns-in-None-clause-kept c =
    let now = c.args.self.now in
    let world : settled_world now ≡ c.unwrap_or.result.now = search rules in
    subst (IsKept now (settled_tick (ticks_of now))) world (settled_tick_kept now (subst IsSnapshots c.self.view_is c.self.invariant))
