use Rattle.std.proofs.Common.{◌∙◌, ◌∷◌, [], ◌++◌, ap, append_assoc, arith, map, refl, take}
use Rattle.pf_cache.specs.Contact.{Contact, contact_of_key}
use Rattle.pf_cache.proofs.Kept.{finished}
use Rattle.pf_cache.proofs.Walk.{made_step, same_step}
use Rattle.pf_cache.proofs.next_contacts.add_next.Goals as goal

pub returns-clause-items : goal.returns-clause-items
returns-clause-items c =
    c.loop-key.invariant.made
    ∙ ap (λ made. c.args.list.now.items ++ made)
    (finished c.args.old.now c.args.keys.now _ _ c.loop-key-test.false refl)

pub loop-key-preserved : goal.loop-key-preserved
loop-key-preserved c =
    let old = c.args.old.now in
    let keys = c.args.keys.now in
    let l = c.loop-key in
    let k = c.key-item.result in
    let next : Contact = record { key = k; impulses = c.impulses_of-impulses.result.0 } in
    let made = map (contact_of_key old) (take l.key-index keys) in
    record {
      within = c.impulses_of-impulses.ensures.within;
      made = c.push_reserved.ensures.items ∙ ap (λ xs. xs ++ next ∷ []) l.invariant.made ∙ append_assoc c.args.list.now.items made (next ∷ [])
          ∙ ap (λ xs. c.args.list.now.items ++ xs)
          (made_step old keys l.key-index l.place k k c.loop-key-test.true c.key-item.is l.invariant.same made (made ++ next ∷ []) c.impulses_of-impulses.result.0
          c.impulses_of-impulses.ensures.impulses refl refl);
      len = omega (arith, c.push_reserved.ensures.len, l.invariant.len);
      room = omega (arith, c.push_reserved.ensures.capacity, l.invariant.room);
      same = same_step old keys l.key-index l.place k k c.loop-key-test.true c.key-item.is l.invariant.same c.impulses_of-impulses.result.1
          c.impulses_of-impulses.ensures.later c.requires.keys.rising;
    }
