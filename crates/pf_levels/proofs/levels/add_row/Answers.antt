use Rattle.std.proofs.Common.{rules, ◌≡◌, ◌∙◌, ◌≤◌, ◌++◌, ◌∷◌, [], Some, length, ap, get_or, subst, sym}
use Rattle.std.proofs.lemmas.List.{get_or_default}
use Rattle.std.specs.Prelude.{slice_get}
use Rattle.pf_levels.specs.Levels.{IsRowPairOf, RowPair}
use Rattle.pf_levels.specs.SoFar.{next_level}
use Rattle.pf_levels.proofs.Steps.{added, grown}
use Rattle.pf_levels.proofs.levels.add_row.Goals as goal

pub returns-clause-levels : goal.returns-clause-levels
returns-clause-levels c = λ pairs at so_far.
    let pair : RowPair = record { first = c.pair.inside.first; second = c.pair.inside.second } in
    let here : slice_get pairs c.args.place ≡ Some pair = at ∙ ap Some (sym c.pair.view_is) in
    let fits : IsRowPairOf (length c.args.next.now) pair = subst (IsRowPairOf (length c.args.next.now)) (sym c.pair.view_is) c.requires.pair in
    let first : next_level c.args.next.now pair.first ≤ c.in_ok-number.number = search rules in
    let second : next_level c.args.next.now pair.second ≤ c.in_ok-number.number = search rules in
    let after = grown pairs c.args.place c.args.next.now c.args.levels.now.items c.level_with_room.new.levels.items (search rules) so_far in
    let there = added pairs c.args.next.now c.args.place c.in_ok-number.number c.level_with_room.new.levels.items pair after here fits.first fits.second first second (search rules) in
    let pushed : c.push.new.self ≡ get_or c.level_with_room.new.levels.items c.in_ok-number.number [] ++ c.args.place ∷ [] =
    c.push.ensures ∙ ap (λ l. l ++ c.args.place ∷ []) (c.index_mut.ensures.value ∙ get_or_default c.level_with_room.new.levels.items c.in_ok-number.number c.index_mut.result.now [] (search rules)) in
    rw (c.set_next-2.ensures, c.set_next.ensures, pushed) there
