use Rattle.std.proofs.Common.{◌≡◌, ◌∙◌, All, ap, subst, take_all, true}
use Rattle.std.proofs.lemmas.List.Elements.{All-more, All-weaker}
use Rattle.pf_manifold.specs.Key.{key_of, rank}
use Rattle.pf_rows.specs.Row.{Row}
use Rattle.pf_cache.specs.ContactsChange.{may_change}
use Rattle.pf_islands.specs.Split.{Island}
use Rattle.pf_step.specs.Changes.{MayChange}
use Rattle.pf_step.proofs.changes.Changes.note_impulses.Goals as goal

pub loop-island-preserved : goal.loop-island-preserved
loop-island-preserved c =
    let old = c.loop-island.self-inside.contacts in
    let new = c.note.new.change in
    let item = c.island-item.result in
    record {
      bodies = c.loop-island.invariant.bodies;
      in_place = c.note.ensures.in_place ∙ c.loop-island.invariant.in_place;
      noted = All-more (λ (i : Island). MayChange new i.rows) c.args.islands.now c.loop-island.island-index item c.loop-island-test.true
          (All-weaker (λ (i : Island). MayChange old i.rows) (λ (i : Island). MayChange new i.rows)
          (λ i own.
          All-weaker (λ (r : Row). may_change old (rank (key_of r.entry.touch)) ≡ true)
          (λ (r : Row). may_change new (rank (key_of r.entry.touch)) ≡ true)
          (λ r may. c.note.ensures.others (rank (key_of r.entry.touch)) may) i.rows own)
          _ c.loop-island.invariant.noted)
          (subst (MayChange new) (c.deref.ensures.value ∙ ap (λ (i : Island). i.rows) (c.island.view_is ∙ c.island-item.is))
          c.in_ok-note.ensures.noted);
      same = c.note.ensures.same ∙ c.loop-island.invariant.same;
    }

pub returns-clause-noted : goal.returns-clause-noted
returns-clause-noted c =
    subst (All (λ (i : Island). MayChange c.loop-island.self-inside.contacts i.rows))
    (take_all c.loop-island.island-index c.args.islands.now c.loop-island-test.false) c.loop-island.invariant.noted
