-- What has come over links.
use Rattle.std.proofs.Common.{◌≡◌, ◌∙◌, List, [], ◌∷◌, ◌++◌, ap, ap₂, arith, drop, length, refl, sym}
use Rattle.std.proofs.lemmas.Grind.{flat_map-append}
use Rattle.std.proofs.lemmas.List.{append_assoc, drop_all}
use Rattle.std.proofs.Math.Seq.{drop-append_seam}
use Rattle.std.specs.List.{AllZip}
use Rattle.pf_scripts.specs.Frames.{Setting}
use Rattle.pf_links.specs.Link.{Frame, got}
use Rattle.pf_links.specs.declared.input.LinkIn.{LinkIn}
use Rattle.pf_scripts.specs.Frames.{commands_in}
use Rattle.pf_scripts.specs.Peer.{IsLater, all_fresh, fresh}
use Rattle.pf_scripts.proofs.Members.{SameMembers, members_append, members_exchange, members_refl, members_then}

-- nothing has come where nothing was taken
pub fresh_same : (l : LinkIn) → fresh l l ≡ []
fresh_same l = drop_all (length (got l)) (got l) (omega arith)

pub all_fresh_same : (links : List LinkIn) → all_fresh links links ≡ []
all_fresh_same [] = refl
all_fresh_same (l ∷ links) = ap₂ (λ a b. a ++ b) (fresh_same l) (all_fresh_same links)

pub all_fresh-append : (olds news more mores : List LinkIn) → length olds ≡ length news
    → all_fresh (olds ++ more) (news ++ mores) ≡ all_fresh olds news ++ all_fresh more mores
all_fresh-append [] [] more mores same = refl
all_fresh-append [] (new ∷ news) more mores same = absurd (omega (arith, same))
all_fresh-append (old ∷ olds) [] more mores same = absurd (omega (arith, same))
all_fresh-append (old ∷ olds) (new ∷ news) more mores same =
    ap (λ l. fresh old new ++ l) (all_fresh-append olds news more mores (omega (arith, same)))
    ∙ sym (append_assoc (fresh old new) (all_fresh olds news) (all_fresh more mores))

-- what has come since, and what has come since then
fresh_then : (a b c : LinkIn) → IsLater a b → IsLater b c → fresh a c ≡ fresh a b ++ fresh b c
fresh_then a b c first second =
    ap (drop (length (got a))) (second.1 ∙ ap (λ l. l ++ fresh b c) first.1 ∙ append_assoc (got a) (fresh a b) (fresh b c))
    ∙ drop-append_seam (got a) (fresh a b ++ fresh b c)

later_then : (a b c : LinkIn) → IsLater a b → IsLater b c → IsLater a c
later_then a b c first second = (
  search,
  second.1 ∙ ap (λ l. l ++ fresh b c) first.1 ∙ append_assoc (got a) (fresh a b) (fresh b c) ∙ ap (λ l. got a ++ l) (sym (fresh_then a b c first second)),
)

pub all_later_then : (xs ys zs : List LinkIn) → AllZip IsLater xs ys → AllZip IsLater ys zs → AllZip IsLater xs zs
all_later_then [] [] [] p q = tt
all_later_then [] (y ∷ ys) zs p q = absurd p
all_later_then [] [] (z ∷ zs) p q = absurd q
all_later_then (x ∷ xs) [] zs p q = absurd p
all_later_then (x ∷ xs) (y ∷ ys) [] p q = absurd q
all_later_then (x ∷ xs) (y ∷ ys) (z ∷ zs) p q = (later_then x y z p.0 q.0, all_later_then xs ys zs p.1 q.1)

-- the commands that have come since, link by link, and in two parts
pub commands_then : (s : Setting) (xs ys zs : List LinkIn) → AllZip IsLater xs ys → AllZip IsLater ys zs
    → SameMembers (commands_in s (all_fresh xs ys) ++ commands_in s (all_fresh ys zs)) (commands_in s (all_fresh xs zs))
commands_then s [] [] [] p q = λ c. (λ has. has, λ has. has)
commands_then s [] (y ∷ ys) zs p q = absurd p
commands_then s [] [] (z ∷ zs) p q = absurd q
commands_then s (x ∷ xs) [] zs p q = absurd p
commands_then s (x ∷ xs) (y ∷ ys) [] p q = absurd q
commands_then s (x ∷ xs) (y ∷ ys) (z ∷ zs) p q =
    let of = commands_in s in
    let split : (fs gs : List Frame) → of (fs ++ gs) ≡ of fs ++ of gs = λ fs gs. flat_map-append _ fs gs in
    let first = fresh x y in
    let second = fresh y z in
    members_then _ _ _ (members_refl _ _ (ap₂ (λ l r. l ++ r) (split first (all_fresh xs ys)) (split second (all_fresh ys zs))))
    (members_then _ _ _ (members_exchange (of first) (of (all_fresh xs ys)) (of second) (of (all_fresh ys zs)))
    (members_then _ _ _
    (members_append (of first ++ of second) (of (fresh x z)) (of (all_fresh xs ys) ++ of (all_fresh ys zs)) (of (all_fresh xs zs))
    (members_refl _ _ (sym (ap of (fresh_then x y z p.0 q.0) ∙ split first second)))
    (commands_then s xs ys zs p.1 q.1))
    (members_refl _ _ (sym (split (fresh x z) (all_fresh xs zs))))))
