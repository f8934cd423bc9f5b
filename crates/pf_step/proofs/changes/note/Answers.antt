use Rattle.std.proofs.Common.{◌≡◌, ◌∙◌, ◌++◌, ◌<◌, ◌≤◌, Some, append-nil, ap, refl, arith, length, slice_get, sym}
use Rattle.std.proofs.lemmas.Bool.Decides.{nat_tests}
use Rattle.std.proofs.lemmas.Option.{slice_get_past, slice_get_read}
use Rattle.pf_step.specs.Changes.{change_if}
use Rattle.pf_step.proofs.changes.note.Goals as goal

pub returns-in_ok-push-clause-ok : goal.returns-in_ok-push-clause-ok
returns-in_ok-push-clause-ok c =
    let bodies = c.args.bodies.now in
    let n = c.args.number in
    let test = c.in-Some.ensures.lookup.0 in
    let within : n < length bodies = grind (arith, nat_tests) in
    let found : slice_get bodies n ≡ Some c.in-Some.body.now =
    slice_get_read bodies (length bodies) n c.in-Some.body.now refl within c.in-Some.ensures.lookup.1 in
    c.in_ok-push.ensures.items ∙ ap (λ b. c.args.changes.now.items ++ change_if n b) (sym found)

pub returns-in_default-clause-ok : goal.returns-in_default-clause-ok
returns-in_default-clause-ok c =
    let bodies = c.args.bodies.now in
    let n = c.args.number in
    let test = c.in_default.ensures.lookup.0 in
    let beyond : length bodies ≤ n = grind (arith, nat_tests) in
    sym (append-nil c.args.changes.now.items)
    ∙ ap (λ b. c.args.changes.now.items ++ change_if n b) (sym (slice_get_past bodies n beyond))
