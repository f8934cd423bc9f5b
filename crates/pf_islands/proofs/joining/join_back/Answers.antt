use Rattle.std.proofs.Common.{◌≡◌, ◌∙◌, ◌+◌, ◌∷◌, add-one, ap, ap₂, map, subst, sym}
use Rattle.std.proofs.Math.Seq.{drop-cons}
use Rattle.std.specs.Prelude.{drop, fold, slice_set}
use Rattle.std.specs.List.{zip}
use Rattle.pf_cache.specs.Contact.{Contact}
use Rattle.pf_cache.specs.ContactRows.{AreRowsAt, with_rows}
use Rattle.pf_islands.specs.Join.{joined_bodies, joined_contacts, with_states}
use Rattle.pf_islands.specs.Split.{Island}
use Rattle.pf_islands.proofs.HomeAgain.{rows_at_same_keys, with_rows_keys}
use Rattle.pf_islands.proofs.joining.join_back.Goals as goal

pub store_impulses-requires : goal.store_impulses-requires
store_impulses-requires c =
    let island : Island = c.island-item.result in
    let rows_are = c.deref.ensures.value ∙ ap (λ (i : Island). i.rows) c.island.view_is in
    let at = subst (λ (i : Island). AreRowsAt c.args.contacts.now i.rows) (sym c.island-item.is)
    (c.requires.contacts c.loop-island.island-index island c.loop-island-test.true) in
    rows_at_same_keys c.args.contacts.now c.loop-island.contacts c.deref.result.now c.loop-island.invariant.keys
    (subst (AreRowsAt c.args.contacts.now) (sym rows_are) at)

pub loop-island-preserved : goal.loop-island-preserved
loop-island-preserved c =
    let islands = c.args.islands.now in
    let k = c.loop-island.island-index in
    let island : Island = c.island-item.result in
    let here : drop k islands ≡ island ∷ drop (k + 1) islands =
    drop-cons islands k island c.loop-island-test.true
    ∙ ap₂ (λ i n. i ∷ drop n islands) (sym c.island-item.is) (sym (add-one k)) in
    let numbers = c.as_slice.ensures ∙ ap (λ (i : Island). i.numbers) c.island.view_is in
    let states = c.as_slice-in-loop-island.ensures ∙ ap (λ (i : Island). i.bodies) c.island.view_is in
    let rows = c.deref.ensures.value ∙ ap (λ (i : Island). i.rows) c.island.view_is in
    let put : c.put_states.new.bodies ≡ with_states island c.loop-island.bodies =
    c.put_states.ensures
    ∙ ap₂ (λ ns ss. fold (λ bs m. slice_set bs m.0 m.1) c.loop-island.bodies (zip ns ss)) numbers states in
    let stored = c.store_impulses.ensures ∙ ap (with_rows c.loop-island.contacts) rows in
    record {
      bodies = ap (joined_bodies (drop (k + 1) islands)) put
          ∙ sym (ap (λ is. joined_bodies is c.loop-island.bodies) here) ∙ c.loop-island.invariant.bodies;
      contacts = ap (joined_contacts (drop (k + 1) islands)) stored
          ∙ sym (ap (λ is. joined_contacts is c.loop-island.contacts) here) ∙ c.loop-island.invariant.contacts;
      keys = ap (map (λ (x : Contact). x.key)) c.store_impulses.ensures
          ∙ with_rows_keys c.loop-island.contacts c.deref.result.now ∙ c.loop-island.invariant.keys;
    }
