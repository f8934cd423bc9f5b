use Rattle.std.proofs.Common.{◌≡◌, List, [], ◌∷◌, ◌++◌, ℕ, None, sym, ap, ◌∙◌, unwrap_or}
use Rattle.std.specs.Option.{option_map, option_copied_mut}
use Rattle.indexmap.specs.IndexMap.{get}
use Rattle.smallvec.specs.SmallVec.{SmallVec}
use Rattle.pf_broad.specs.Stored.{cell_eq}
use Rattle.pf_broad.proofs.Listing.{listed}
use Rattle.pf_broad.proofs.cells.add_to_cell.Goals as goal

pub returns : goal.returns
returns c =
    let same = c.get_mut.follows.holds-at-none in
    let absent : get cell_eq c.args.cells.now c.args.cell ≡ None = sym c.get_mut.ensures.value ∙ ap option_copied_mut c.in_default.is in
    let items = λ (v : SmallVec ℕ). v.items in
    listed c.args.cells.now c.insert.new.self c.args.cell c.push-2.new.self c.args.body
    (λ q. rw same at (c.in_ok-insert.ensures.updates.0 q))
    (c.in_ok-push-2.ensures.ok ∙ ap (λ (xs : List ℕ). xs ++ c.args.body ∷ []) (c.new-bodies.ensures.items ∙ sym (ap (λ o. unwrap_or (option_map items o) []) absent)))
