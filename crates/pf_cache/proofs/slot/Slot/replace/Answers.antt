use Rattle.std.proofs.Common.{◌≡◌, ◌∙◌, ◌+◌, ◌++◌, ◌∷◌, [], ap, length, map, subst, sym}
use Rattle.std.proofs.lemmas.List.{length-map}
use Rattle.pf_manifold.specs.Key.{key_of}
use Rattle.pf_cache.specs.KeySplices.{AreSplicesUpTo}
use Rattle.pf_cache.specs.Slots.{Slot, manifold_touches, slot_touches}
use Rattle.pf_cache.proofs.SplicesMade.{splices_more, splices_stay, same_keys}
use Rattle.pf_cache.proofs.slot.Slot.replace.Goals as goal

pub returns-then-same_keys-clause-splices : goal.returns-then-same_keys-clause-splices
returns-then-same_keys-clause-splices c = λ before after are.
    let pair = c.self.inside.pair in
    let old = map key_of (slot_touches c.args.self.now) in
    let same = ap (λ s. map key_of (slot_touches s)) (sym c.self.view_is)
    ∙ same_keys pair c.self.inside.points c.args.points (c.have_same_features-same_keys.ensures.0 c.if-same_keys.true) in
    let count_is : c.count-dropped.result ≡ length old =
    c.count-dropped.ensures.count ∙ sym (length-map (slot_touches c.args.self.now) key_of) in
    let stay = splices_stay c.args.splices.now c.args.kept c.count-dropped.result before after old are count_is in
    ((stay.0.0, stay.0.1 ∙ ap (λ l. after ++ l) same), stay.1)

pub returns-clause-splices : goal.returns-clause-splices
returns-clause-splices c = λ before after are.
    let pair = c.self.inside.pair in
    let old = map key_of (slot_touches c.args.self.now) in
    let now : Slot = record { pair = pair; touches = manifold_touches pair c.args.points } in
    let new = map key_of (slot_touches now) in
    let dropped : length old ≡ c.count-dropped.result = length-map (slot_touches c.args.self.now) key_of ∙ sym c.count-dropped.ensures.count in
    let added : length new ≡ c.count-added.result = length-map (slot_touches now) key_of ∙ sym c.count-added.ensures.count in
    let splices_are = (λ i. (sym c.splices.view_is i).splices ++ record { kept = c.args.kept; dropped = dropped i; added = added i } ∷ []) ∙ sym c.in_ok-push.ensures.items in
    let added_are = (λ i. (sym c.splices.view_is i).added ++ new) ∙ sym c.in_ok-push_keys.ensures.added in
    subst (λ e. AreSplicesUpTo e 0 (before ++ old) (after ++ new)) (λ i. record { splices = splices_are i; added = added_are i })
    (splices_more c.args.splices.now c.args.kept before after old new are)
