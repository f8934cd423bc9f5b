use Rattle.std.proofs.Common.{◌∷◌, [], map, ap, sym, ◌∙◌}
use Rattle.std.specs.Map.Iter.{deref_pair}
use Rattle.std.proofs.lemmas.List.{map-append}
use Rattle.std.proofs.lemmas.Map.Iter.{iter_end}
use Rattle.pf_commands.specs.declared.payload.Command.{Command}
use Rattle.pf_commands.specs.Merge.{merge, singleton}
use Rattle.pf_commands.proofs.Changes.{put_entries, put_entries-push, put_entries-all}
use Rattle.pf_commands.proofs.map.CommandMap.put_all.Goals as goal

pub loop-name-preserved : goal.loop-name-preserved
loop-name-preserved c =
    let e = deref_pair (c.in-Some.name, c.in-Some.payload) in
    let done = map deref_pair c.loop-name.yielded in
    c.in_ok-put.ensures.ok ∙ ap (λ (x : Command). merge c.loop-name.self (singleton x.name x.payload)) c.command_of-command.ensures
    ∙ ap (λ m. merge m (singleton e.0 e.1)) c.loop-name.invariant ∙ sym (put_entries-push c.args.self.now done e)
    ∙ ap (put_entries c.args.self.now) (sym (map-append deref_pair c.loop-name.yielded ((c.in-Some.name, c.in-Some.payload) ∷ [])))

pub returns : goal.returns
returns c =
    let es = c.other.inside.commands.entries in
    let start = c.into_iter-name-iterator.ensures.into_iter_gives ∙ c.iter-name-items.ensures.rest in
    let whole = iter_end deref_pair es c.loop-name.yielded _ _ _ _ start c.loop-name.yielded_by c.in-None.is c.next.ensures.steps in
    c.loop-name.invariant ∙ ap (put_entries c.args.self.now) whole.0 ∙ put_entries-all c.args.self.now es c.iter-name-items.ensures.ordered
    ∙ ap (merge c.args.self.now) c.other.view_is
