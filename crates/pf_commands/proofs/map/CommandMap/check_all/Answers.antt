use Rattle.std.proofs.Common.{◌≡◌, ◌∷◌, [], ◌++◌, map, ap, sym, ◌∙◌}
use Rattle.std.specs.Map.Iter.{deref_pair}
use Rattle.std.proofs.lemmas.List.{map-append}
use Rattle.std.proofs.lemmas.Map.Iter.{iter_end, rest_so_far}
use Rattle.pf_commands.specs.declared.payload.Command.{Command}
use Rattle.pf_commands.specs.Check.{check}
use Rattle.pf_commands.proofs.Checks.{check_all_more, check_all_stops}
use Rattle.pf_commands.proofs.Stored.{entries-from_entries}
use Rattle.pf_commands.proofs.map.CommandMap.check_all.Goals as goal

pub loop-name-preserved : goal.loop-name-preserved
loop-name-preserved c =
    let e = deref_pair (c.in-Some.name, c.in-Some.payload) in
    rw (map-append deref_pair c.loop-name.yielded ((c.in-Some.name, c.in-Some.payload) ∷ []))
    (check_all_more c.args.scene.now (map deref_pair c.loop-name.yielded) e c.loop-name.invariant
    (ap (λ (x : Command). check c.args.scene.now x.name x.payload) (sym c.command_of-command.ensures) ∙ sym c.check.ensures.value ∙ c.in_default.is))

pub returns-in-Err : goal.returns-in-Err
returns-in-Err c =
    let es = c.self.inside.commands.entries in
    let e = deref_pair (c.in-Some.name, c.in-Some.payload) in
    let done = map deref_pair c.loop-name.yielded in
    let whole : es ≡ done ++ e ∷ c.next.new.self =
    sym (c.into_iter-name-iterator.ensures.into_iter_gives ∙ c.iter-name-items.ensures.rest)
    ∙ rest_so_far deref_pair c.loop-name.yielded _ _ c.loop-name.yielded_by
    ∙ ap (λ t. done ++ t) c.in-Some.ensures.steps in
    rw (← c.self.view_is, entries-from_entries es c.iter-name-items.ensures.ordered)
    (sym (check_all_stops c.args.scene.now es done c.next.new.self e c.in-Err.fault whole c.loop-name.invariant
    (ap (λ (x : Command). check c.args.scene.now x.name x.payload) (sym c.command_of-command.ensures) ∙ sym c.check.ensures.value ∙ c.in-Err.is)))

pub returns : goal.returns
returns c =
    let es = c.self.inside.commands.entries in
    let whole = iter_end deref_pair es c.loop-name.yielded _ _ _ _ (c.into_iter-name-iterator.ensures.into_iter_gives ∙ c.iter-name-items.ensures.rest) c.loop-name.yielded_by c.in-None.is c.next.ensures.steps in
    rw (← c.self.view_is, entries-from_entries es c.iter-name-items.ensures.ordered, ← whole.0) (sym c.loop-name.invariant)
