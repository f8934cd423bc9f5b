-- A list whose elements are changed from the last to the first.
use Rattle.std.proofs.Common.{◌≡◌, ◌∙◌, ℕ, ◌+◌, ◌<◌, List, [], ◌∷◌, ◌++◌, length, map, take, drop, get_or, set, sym, ap, append_assoc, length-take, arith}
use Rattle.std.proofs.lemmas.List.{drop_more, get_or_at, set_at, take_more}

module _ {X : Type 0} (f : X → X) (xs ys : List X) (m place : ℕ) (d : X) (next : m ≡ place + 1) (within : place < length xs)
    (ys_are : ys ≡ take m xs ++ map f (drop m xs)) where
  front_long : length (take place xs) ≡ place
  front_long = length-take place xs ∙ omega (arith, within)

  -- what is changed, what is not, and the element between them
  parts : ys ≡ take place xs ++ get_or xs place d ∷ map f (drop (place + 1) xs)
  parts =
      ys_are ∙ ap (λ n. take n xs ++ map f (drop n xs)) next
      ∙ ap (λ front. front ++ map f (drop (place + 1) xs)) (take_more xs place d within)
      ∙ append_assoc (take place xs) (get_or xs place d ∷ []) (map f (drop (place + 1) xs))

  -- the last element that is not changed is as it was
  pub same_before : get_or ys place d ≡ get_or xs place d
  same_before = ap (λ zs. get_or zs place d) parts ∙ get_or_at (take place xs) _ _ d place front_long

  -- its change
  pub solved_before : (y : X) → y ≡ f (get_or xs place d) → set ys place y ≡ take place xs ++ map f (drop place xs)
  solved_before y is =
      ap (λ zs. set zs place y) parts ∙ set_at (take place xs) _ _ y place front_long
      ∙ ap (λ z. take place xs ++ z ∷ map f (drop (place + 1) xs)) is
      ∙ ap (λ rest. take place xs ++ map f rest) (sym (drop_more xs place d within))
