use Rattle.std.proofs.Common.{refl, ap, sym, ◌∙◌, subst}
use Rattle.std.specs.Prelude.{IsSome}
use Rattle.std.specs.FinMap.{get, insert}
use Rattle.pf_commands.specs.declared.payload.Command.{Command}
use Rattle.pf_commands.specs.News.{put_outcome, is_change}
use Rattle.pf_commands.proofs.Changes.{merge_one-changed, merge_one-kept, held_after, taken_back}
use Rattle.pf_commands.proofs.map.CommandMap.put.Goals as goal

pub returns-in_default-clause-ok : goal.returns-in_default-clause-ok
returns-in_default-clause-ok c =
    let fresh = ap (λ held. is_change (put_outcome held c.args.command.now.payload)) (sym c.in_ok-held.ensures.value ∙ c.in_default.is) in
    c.in_ok-held.ensures.ok ∙ sym (merge_one-changed c.args.self.now c.args.command.now.name c.args.command.now.payload fresh)

pub returns-else-not-is_change-clause-ok : goal.returns-else-not-is_change-clause-ok
returns-else-not-is_change-clause-ok c =
    let fresh = ap (λ held. is_change (put_outcome held c.args.command.now.payload)) (sym c.in_ok-held.ensures.value ∙ c.in-Some.is)
    ∙ ap is_change (sym c.compared-put.ensures) ∙ sym c.is_change.ensures ∙ c.if-not-is_change.false in
    c.in_ok-held.ensures.ok ∙ sym (merge_one-changed c.args.self.now c.args.command.now.name c.args.command.now.payload fresh)

pub returns-in_ok-write-clause-ok : goal.returns-in_ok-write-clause-ok
returns-in_ok-write-clause-ok c =
    let held = sym c.in_ok-held.ensures.value ∙ c.in-Some.is in
    let steady = ap (λ held. is_change (put_outcome held c.args.command.now.payload)) held
    ∙ ap is_change (sym c.compared-put.ensures) ∙ sym c.is_change.ensures ∙ c.if-not-is_change.true in
    c.in_ok-write.ensures.ok
    ∙ ap (λ (back : Command). insert c.write.new.self back.name back.payload) c.command_of.ensures
    ∙ ap (λ m. insert m c.args.command.now.name c.in-Some.held) c.in_ok-held.ensures.ok
    ∙ taken_back c.args.self.now c.args.command.now.name c.args.command.now.payload c.in-Some.held held
    ∙ sym (merge_one-kept c.args.self.now c.args.command.now.name c.args.command.now.payload steady)

pub returns-in_err-write-clause-err : goal.returns-in_err-write-clause-err
returns-in_err-write-clause-err c =
    let there = ap (λ (back : Command). get c.write.new.self back.name) c.command_of.ensures
    ∙ ap (λ m. get m c.args.command.now.name) c.in_ok-held.ensures.ok
    ∙ held_after c.args.self.now c.args.command.now.name c.args.command.now.payload in
    let succeeds = c.in_err-write.ensures.held (subst IsSome (sym there) refl) in cc

pub returns-in_err-write-clause-held : goal.returns-in_err-write-clause-held
returns-in_err-write-clause-held c some =
    let there = ap (λ (back : Command). get c.write.new.self back.name) c.command_of.ensures
    ∙ ap (λ m. get m c.args.command.now.name) c.in_ok-held.ensures.ok
    ∙ held_after c.args.self.now c.args.command.now.name c.args.command.now.payload in
    let succeeds = c.in_err-write.ensures.held (subst IsSome (sym there) refl) in cc
