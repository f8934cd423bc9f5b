-- A list in two parts, one of which is read or written.
use Rattle.std.proofs.Common.{◌≡◌, ℕ, ◌-◌, ◌<◌, List, ◌++◌, Some, length, get_or, ap, sym, ◌∙◌, arith}
use Rattle.std.specs.Prelude.{slice_get, slice_set}
use Rattle.std.proofs.lemmas.Option.{get_or_from_slice_get}
use Rattle.std.proofs.lemmas.List.{get_or_append_left, get_or-append_right, set-append_left, set-append_right}

-- an element of the first part
pub front_element : {X : Type 0} (all front back : List X) (i : ℕ) (x y : X) → all ≡ front ++ back → i < length front
    → x ≡ get_or front i x → slice_get all i ≡ Some y → x ≡ y
front_element all front back i x y parts within is found =
    is ∙ sym (get_or_append_left front back x i within) ∙ ap (λ xs. get_or xs i x) (sym parts) ∙ get_or_from_slice_get all i y x found

-- the first element of the second part
pub back_element : {X : Type 0} (all front back : List X) (i : ℕ) (x y : X) → all ≡ front ++ back → length front ≡ i
    → x ≡ get_or back 0 x → slice_get all i ≡ Some y → x ≡ y
back_element all front back i x y parts at is found =
    let here : i - i ≡ 0 = omega arith in
    is ∙ ap (λ k. get_or back k x) (sym here) ∙ sym (get_or-append_right front back i i x at (omega arith))
    ∙ ap (λ xs. get_or xs i x) (sym parts) ∙ get_or_from_slice_get all i y x found

pub front_written : {X : Type 0} (all front back : List X) (i : ℕ) (x : X) → all ≡ front ++ back → i < length front
    → slice_set front i x ++ back ≡ slice_set all i x
front_written all front back i x parts within = sym (set-append_left front back i x within) ∙ ap (λ xs. slice_set xs i x) (sym parts)

pub back_written : {X : Type 0} (all front back : List X) (i : ℕ) (x : X) → all ≡ front ++ back → length front ≡ i
    → front ++ slice_set back 0 x ≡ slice_set all i x
back_written all front back i x parts at =
    let here : i - i ≡ 0 = omega arith in
    ap (λ k. front ++ slice_set back k x) (sym here) ∙ sym (set-append_right front back i i x at (omega arith))
    ∙ ap (λ xs. slice_set xs i x) (sym parts)
