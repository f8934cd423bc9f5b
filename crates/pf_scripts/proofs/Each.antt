-- A loop that changes the elements of a list one after the other.
use Rattle.std.proofs.Common.{◌≡◌, ◌∙◌, ℕ, ◌+◌, ◌<◌, ◌≤◌, List, [], ◌∷◌, ◌++◌, ap, arith, drop, get_or, length, refl, set, subst, sym, take}
use Rattle.std.proofs.lemmas.List.{drop-set-lt, drop_more, length-set, take_all, take_more, take_more_set}
use Rattle.std.proofs.lemmas.List.Elements.{AllZip-push}
use Rattle.std.specs.List.{AllZip}

module _ {X : Type 0} (R : X → X → Type 0) where
  -- the elements below number k were changed so, and no other
  pub record AreChanged (k : ℕ) (olds news : List X) : Type 0 where
    pub done : AllZip R (take k olds) (take k news)
    pub rest : drop k news ≡ drop k olds
    pub long : length news ≡ length olds

  pub changed_none : (xs : List X) → AreChanged 0 xs xs
  changed_none xs = record { done = tt; rest = refl; long = refl }

  -- an element that was not changed yet
  pub same_at : (k : ℕ) (olds news : List X) (d : X) → k < length olds → AreChanged k olds news → get_or news k d ≡ get_or olds k d
  same_at k olds news d low is =
      let head : List X → X = λ xs. get_or xs 0 d in
      ap head (sym (drop_more news k d (omega (arith, low, is.long))) ∙ is.rest ∙ drop_more olds k d low)

  pub changed_more : (k : ℕ) (olds news : List X) (y : X) → k < length olds → AreChanged k olds news → R (get_or olds k y) y
      → AreChanged (k + 1) olds (set news k y)
  changed_more k olds news y low is related =
      let low_too : k < length news = omega (arith, low, is.long) in
      let tail : List X → List X = λ xs. drop 1 xs in record {
        done = subst (λ xs. AllZip R xs (take (k + 1) (set news k y))) (sym (take_more olds k y low))
            (subst (AllZip R (take k olds ++ get_or olds k y ∷ [])) (sym (take_more_set news k y low_too))
            (AllZip-push R (take k olds) (take k news) (get_or olds k y) y is.done related));
        rest = drop-set-lt (k + 1) news k y (omega arith)
            ∙ ap tail (sym (drop_more news k y low_too) ∙ is.rest ∙ drop_more olds k y low);
        long = length-set news k y ∙ is.long;
      }

  pub changed_all : (k : ℕ) (olds news : List X) → length olds ≤ k → AreChanged k olds news → AllZip R olds news
  changed_all k olds news all is =
      subst (λ xs. AllZip R xs news) (take_all k olds all)
      (subst (AllZip R (take k olds)) (take_all k news (omega (arith, all, is.long))) is.done)
