use Rattle.std.proofs.Common.{rules, ◌≡◌, ◌∙◌, ◌<◌, ◌∷◌, ◌++◌, [], arith, get_or, length, subst}
use Rattle.std.proofs.lemmas.List.{get_or_default}
use Rattle.pf_links.specs.Link.{SameOut, handed}
use Rattle.pf_scripts.specs.Peer.{WereHanded}
use Rattle.pf_scripts.proofs.Each.{changed_more, same_at}
use Rattle.pf_scripts.proofs.play.hand_to_all.Goals as goal

pub loop-number-preserved : goal.loop-number-preserved
loop-number-preserved c =
    let R = WereHanded (c.args.frame ∷ []) in
    let k = c.loop-number.number in
    let olds = c.args.outputs.now in
    let news = c.loop-number.outputs in
    let y = c.hand_in.new.self in
    let x = get_or news k c.index-outputs-number.result in
    let low : k < length olds = search rules in
    let at : x ≡ get_or olds k y =
    get_or_default news k c.index-outputs-number.result y (omega (arith, low, c.loop-number.invariant.long))
    ∙ same_at R k olds news y low c.loop-number.invariant in
    let same : SameOut x y = c.hand_in.ensures.same in
    let more : handed y ≡ handed x ++ c.args.frame ∷ [] = c.in_ok-hand_in.ensures.ok in
    changed_more R k olds news y low c.loop-number.invariant
    (subst (λ l. SameOut l y) at same, subst (λ l. handed y ≡ handed l ++ c.args.frame ∷ []) at more)
