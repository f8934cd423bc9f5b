-- Lemmas of lists.
use Rattle.std.proofs.Common.{◌≡◌, ◌∙◌, ℕ, zero, suc, ◌+◌, ◌<◌, List, [], ◌∷◌, ◌++◌, drop, take, length, get_or, refl, ap, sym, arith, append-nil}
use Rattle.std.proofs.lemmas.List.{append_assoc, drop_all, length-append, take-append-drop, take_all}
use Rattle.std.proofs.Math.Seq.{get_or-append_seam, take-append_seam}
use Rattle.std.specs.Prelude.{All}

module _ {X : Type 0} where
  -- what stands in a list does not depend on what stands for nothing
  pub default_same : (xs : List X) (i : ℕ) (d e : X) → i < length xs → get_or xs i d ≡ get_or xs i e
  default_same [] i d e low = absurd (omega (arith, low))
  default_same (x ∷ xs) zero d e low = refl
  default_same (x ∷ xs) (suc i) d e low = default_same xs i d e (omega (arith, low))

  -- the last of those that are left is the one of its number
  pub popped : (all now after : List X) (x : X) → now ≡ take (length now) all → now ≡ after ++ x ∷ []
      → (after ≡ take (length after) all) × ((none : X) → get_or all (length after) none ≡ x)
  popped all now after x now_is split =
      let m = length after in
      let long : length now ≡ m + 1 = omega (arith, ap length split, length-append after (x ∷ [])) in
      let whole : all ≡ after ++ x ∷ drop (m + 1) all =
      sym (take-append-drop (m + 1) all) ∙ ap (λ l. l ++ drop (m + 1) all) (sym (ap (λ i. take i all) long) ∙ sym now_is ∙ split)
      ∙ append_assoc after (x ∷ []) (drop (m + 1) all) in (
        sym (ap (take m) whole ∙ take-append_seam after (x ∷ drop (m + 1) all)),
        λ none. ap (λ l. get_or l m none) whole ∙ get_or-append_seam after x (drop (m + 1) all) none,
      )

module _ {X : Type 0} (P : X → Type 0) where
  pub all_more : (xs : List X) (x : X) → All P xs → P x → All P (xs ++ x ∷ [])
  all_more [] x ps p zero d low = p
  all_more [] x ps p (suc i) d low = absurd (omega arith)
  all_more (y ∷ ys) x ps p zero d low = ps 0 d (omega arith)
  all_more (y ∷ ys) x ps p (suc i) d low =
      all_more ys x (λ j e below. ps (suc j) e (omega (arith, below))) p i d (omega (arith, low))

-- a list whose elements were all written in place
pub written_back : {X : Type 0} (count : ℕ) (new old : List X) → length new ≡ length old → count ≡ length old
    → take count (new ++ drop (length new) old) ≡ new
written_back count new old long all =
    ap (λ rest. take count (new ++ rest)) (drop_all (length new) old (omega (arith, long)))
    ∙ ap (take count) (append-nil new) ∙ take_all count new (omega (arith, long, all))

pub none_left : {X : Type 0} (xs : List X) → length xs ≡ 0 → xs ≡ []
none_left [] none = refl
none_left (x ∷ xs) none = absurd (omega (arith, none))
