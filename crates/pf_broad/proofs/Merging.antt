-- Two ascending lists of pairs, those that pass a test and those that don't, merged to one.
use Rattle.std.proofs.Common.{◌≡◌, ℕ, suc, ◌+◌, ◌<◌, Bool, true, false, cond, not, List, [], ◌∷◌, ◌++◌, length, drop, get_or, refl, sym, subst, ap, ◌∙◌, arith, add-one, append_assoc}
use Rattle.std.proofs.lemmas.Bool.Decides.{nat_tests}
use Rattle.std.proofs.Math.Seq.{drop-cons}
use Rattle.std.specs.List.{filter, AllByRecursion}
use Rattle.pf_shapes.specs.Pair.{is_before, IsAscending, Pair}
use Rattle.pf_broad.specs.Enlarged.{has_one_of, pairs_without}

-- what is merged so far of two lists: the pairs that pass a test, and the others, each from a place
-- on, are those of the rest
pub record IsMerged (t : Pair → Bool) (all merged fresh others : List Pair) : Type 0 where
  pub rest : List Pair
  pub parts : merged ++ rest ≡ all
  pub ascending : IsAscending rest
  pub passing : filter t rest ≡ fresh
  pub failing : filter (λ p. not (t p)) rest ≡ others

-- what holds of all holds of the first that passes
each_first : (t : Pair → Bool) (P : Pair → Type 0) (xs ps : List Pair) (p : Pair) → AllByRecursion P xs → filter t xs ≡ p ∷ ps → P p
each_first t P [] ps p all is = absurd (cc)
each_first t P (x ∷ xs) ps p all is =
    elim (t x) as (λ b. cond b (x ∷ filter t xs) (filter t xs) ≡ p ∷ ps → P p) [
      | true ↦ λ e. (let same : x ≡ p = cc in subst P same all.0)
      | false ↦ λ e. each_first t P xs ps p all.1 e
    ] is

not_both : (p q : Pair) → is_before p q ≡ true → is_before q p ≡ true → true ≡ false
not_both p q one other = grind (arith, nat_tests)

-- the next of the rest is the next that passes, if it is before the next other one
pub merge_fresh : (t : Pair → Bool) (all merged fresh others fs hs : List Pair) (p h : Pair) → fresh ≡ p ∷ fs → others ≡ h ∷ hs → is_before p h ≡ true
    → IsMerged t all merged fresh others → IsMerged t all (merged ++ p ∷ []) fs others
merge_fresh t all merged fresh others fs hs p h at_p at_h before is = next is.rest is.parts is.ascending (is.passing ∙ at_p) is.failing
  where
    next : (rest : List Pair) → merged ++ rest ≡ all → IsAscending rest → filter t rest ≡ p ∷ fs → filter (λ p. not (t p)) rest ≡ others
        → IsMerged t all (merged ++ p ∷ []) fs others
    next [] parts ascending passed other = absurd (cc)
    next (x ∷ xs) parts ascending passed other =
        elim (t x) as (λ b. cond b (x ∷ filter t xs) (filter t xs) ≡ p ∷ fs
        → cond (not b) (x ∷ filter (λ p. not (t p)) xs) (filter (λ p. not (t p)) xs) ≡ others → IsMerged t all (merged ++ p ∷ []) fs others) [
          | true ↦ λ e k.
              (let same : x ≡ p = cc in
              record {
                rest = xs;
                parts = append_assoc merged (p ∷ []) xs ∙ ap (λ q. merged ++ q ∷ xs) (sym same) ∙ parts;
                ascending = ascending.1;
                passing = cc;
                failing = k;
              })
          | false ↦ λ e k.
              (let same : x ≡ h = cc (k ∙ at_h) in
              let wrong = each_first t (λ q. is_before x q ≡ true) xs fs p ascending.0 e in
              absurd (let e = not_both p h before (subst (λ q. is_before q p ≡ true) same wrong) in cc))
        ] passed other

-- else it is the next other one
pub merge_other : (t : Pair → Bool) (all merged fresh others hs : List Pair) (h : Pair) → others ≡ h ∷ hs
    → ((p : Pair) (fs : List Pair) → fresh ≡ p ∷ fs → is_before p h ≡ false)
    → IsMerged t all merged fresh others → IsMerged t all (merged ++ h ∷ []) fresh hs
merge_other t all merged fresh others hs h at_h after is = next is.rest is.parts is.ascending is.passing (is.failing ∙ at_h)
  where
    next : (rest : List Pair) → merged ++ rest ≡ all → IsAscending rest → filter t rest ≡ fresh → filter (λ p. not (t p)) rest ≡ h ∷ hs
        → IsMerged t all (merged ++ h ∷ []) fresh hs
    next [] parts ascending passed other = absurd (cc)
    next (x ∷ xs) parts ascending passed other =
        elim (t x) as (λ b. cond b (x ∷ filter t xs) (filter t xs) ≡ fresh
        → cond (not b) (x ∷ filter (λ p. not (t p)) xs) (filter (λ p. not (t p)) xs) ≡ h ∷ hs → IsMerged t all (merged ++ h ∷ []) fresh hs) [
          | true ↦ λ e k.
              (let before = each_first (λ p. not (t p)) (λ q. is_before x q ≡ true) xs hs h ascending.0 k in
              let no = after x (filter t xs) (sym e) in
              absurd (cc))
          | false ↦ λ e k.
              (let same : x ≡ h = cc in
              record {
                rest = xs;
                parts = append_assoc merged (h ∷ []) xs ∙ ap (λ q. merged ++ q ∷ xs) (sym same) ∙ parts;
                ascending = ascending.1;
                passing = e;
                failing = cc;
              })
        ] passed other

-- where no other is left, the rest are those that pass
pub merge_rest : (t : Pair → Bool) (all merged fresh : List Pair) → IsMerged t all merged fresh [] → merged ++ fresh ≡ all
merge_rest t all merged fresh is = ap (λ l. merged ++ l) (sym is.passing ∙ every is.rest is.failing) ∙ is.parts
  where
    every : (xs : List Pair) → filter (λ p. not (t p)) xs ≡ [] → filter t xs ≡ xs
    every [] none = refl
    every (x ∷ xs) none =
        elim (t x) as (λ b. cond (not b) (x ∷ filter (λ p. not (t p)) xs) (filter (λ p. not (t p)) xs) ≡ [] → cond b (x ∷ filter t xs) (filter t xs) ≡ x ∷ xs) [
          | true ↦ λ e. ap (λ l. x ∷ l) (every xs e)
          | false ↦ λ e. absurd (cc)
        ] none

-- a pair of those that pass, passes
pub passes_first : (t : Pair → Bool) (xs ps : List Pair) (p : Pair) → filter t xs ≡ p ∷ ps → t p ≡ true
passes_first t [] ps p is = absurd (cc)
passes_first t (x ∷ xs) ps p is =
    elim (t x) as (λ b. t x ≡ b → cond b (x ∷ filter t xs) (filter t xs) ≡ p ∷ ps → t p ≡ true) [
      | true ↦ λ yes e. (let same : x ≡ p = cc in subst (λ q. t q ≡ true) same yes)
      | false ↦ λ no e. passes_first t xs ps p e
    ] refl is

-- a list from a place on, and from the next one
pub from_place : {X : Type 0} (xs : List X) (i : ℕ) (x : X) → i < length xs → x ≡ get_or xs i x → drop i xs ≡ x ∷ drop (i + 1) xs
from_place xs i x below is =
    rw add-one (drop-cons xs i x below ∙ ap (λ y. y ∷ drop (suc i) xs) (sym is))

-- the others from a place on
pub others_from : (left : List ℕ) (ps : List Pair) (i : ℕ) (b : Bool) (p : Pair) → i < length ps → p ≡ get_or ps i p → has_one_of left p ≡ b
    → pairs_without left (drop i ps)
    ≡ cond (not b) (p ∷ pairs_without left (drop (i + 1) ps)) (pairs_without left (drop (i + 1) ps))
others_from left ps i b p below at_p is =
    ap (pairs_without left) (from_place ps i p below at_p)
    ∙ ap (λ c. cond (not c) (p ∷ pairs_without left (drop (i + 1) ps)) (pairs_without left (drop (i + 1) ps))) is
