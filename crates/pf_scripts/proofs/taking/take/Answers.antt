use Rattle.std.proofs.Common.{rules, ◌≡◌, ◌∙◌, Err, ap, refl, sym, arith}
use Rattle.pf_commands.specs.Frame.{decode}
use Rattle.pf_rollback.specs.declared.error.PeerError.TheVariants.{OutOfMemory, Refused}
use Rattle.pf_rollback.specs.Peer.{Peer}
use Rattle.pf_scripts.specs.Frames.{Setting, core_setting}
use Rattle.pf_scripts.proofs.Puts.{frame_long, frame_not_refused, frame_ranges, frame_refused, frame_taken}
use Rattle.pf_scripts.proofs.taking.take.Goals as goal

pub returns-in-Ok-clause-refusal : goal.returns-in-Ok-clause-refusal
returns-in-Ok-clause-refusal c =
    let core = c.args.core.now in
    sym (frame_taken (core_setting core) core.peer refl (decode c.args.frame.now) _ _ c.in-Ok.ensures.peer).0

pub returns-in-Ok-clause-peer : goal.returns-in-Ok-clause-peer
returns-in-Ok-clause-peer c =
    let core = c.args.core.now in
    (frame_taken (core_setting core) core.peer refl (decode c.args.frame.now) _ _ c.in-Ok.ensures.peer).1

pub returns-in-Ok-clause-long : goal.returns-in-Ok-clause-long
returns-in-Ok-clause-long c = λ none.
    let core = c.args.core.now in
    frame_long (core_setting core) core.peer refl c.args.frame.now (λ i. omega (arith, c.type_inv.frame i)) _ _ c.in-Ok.ensures.peer

pub returns-in-Ok-clause-setting : goal.returns-in-Ok-clause-setting
returns-in-Ok-clause-setting c =
    let core = c.args.core.now in
    ap core_setting c.in-Ok.ensures.rest
    ∙ ap (λ (p : Peer). let z : Setting = record { scene = core.scene; horizon = p.horizon } in z)
    (frame_taken (core_setting core) core.peer refl (decode c.args.frame.now) _ _ c.in-Ok.ensures.peer).1

pub returns-in-Ok-clause-base : goal.returns-in-Ok-clause-base
returns-in-Ok-clause-base c =
    let core = c.args.core.now in
    ap (λ (p : Peer). p.base) (frame_taken (core_setting core) core.peer refl (decode c.args.frame.now) _ _ c.in-Ok.ensures.peer).1

pub returns-in-Ok-clause-ranges : goal.returns-in-Ok-clause-ranges
returns-in-Ok-clause-ranges c =
    frame_ranges (core_setting c.args.core.now) c.args.frame.now (λ i. omega (arith, c.type_inv.frame i))

pub returns-in-Err-Refused-clause-ranges : goal.returns-in-Err-Refused-clause-ranges
returns-in-Err-Refused-clause-ranges c =
    frame_ranges (core_setting c.args.core.now) c.args.frame.now (λ i. omega (arith, c.type_inv.frame i))

pub returns-in-Err-OutOfMemory-clause-ranges : goal.returns-in-Err-OutOfMemory-clause-ranges
returns-in-Err-OutOfMemory-clause-ranges c =
    frame_ranges (core_setting c.args.core.now) c.args.frame.now (λ i. omega (arith, c.type_inv.frame i))

pub returns-in-Err-Refused-clause-refusal : goal.returns-in-Err-Refused-clause-refusal
returns-in-Err-Refused-clause-refusal c =
    let core = c.args.core.now in
    let was : c.take.result ≡ Err (Refused c.in-Err-Refused.refusal) = search rules in
    sym (frame_refused (core_setting core) core.peer refl (decode c.args.frame.now) c.in-Err-Refused.refusal c.take.new.self.peer c.take.result was c.take.ensures.peer).0

pub returns-in-Err-Refused-clause-peer : goal.returns-in-Err-Refused-clause-peer
returns-in-Err-Refused-clause-peer c =
    let core = c.args.core.now in
    let was : c.take.result ≡ Err (Refused c.in-Err-Refused.refusal) = search rules in
    (frame_refused (core_setting core) core.peer refl (decode c.args.frame.now) c.in-Err-Refused.refusal c.take.new.self.peer c.take.result was c.take.ensures.peer).1

pub returns-in-Err-OutOfMemory-clause-memory : goal.returns-in-Err-OutOfMemory-clause-memory
returns-in-Err-OutOfMemory-clause-memory c =
    let core = c.args.core.now in
    let was : c.take.result ≡ Err OutOfMemory = search rules in
    frame_not_refused (core_setting core) core.peer refl (decode c.args.frame.now) c.take.new.self.peer c.take.result was c.take.ensures.peer
