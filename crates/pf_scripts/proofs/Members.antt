-- Lists with the same members.
use Rattle.std.proofs.Common.{◌≡◌, ◌∙◌, ◌↔◌, Contains, List, ◌++◌, ap, ⊎_elim, refl, subst, sym}
use Rattle.std.proofs.lemmas.List.{append_assoc}
use Rattle.std.proofs.lemmas.List.Elements.{Contains-append_cases, Contains-append_left, Contains-append_right}

module _ {X : Type 0} where
  abbrev pub SameMembers : List X → List X → Type 0
  SameMembers xs ys = (x : X) → Contains xs x ↔ Contains ys x

  pub members_refl : (xs ys : List X) → xs ≡ ys → SameMembers xs ys
  members_refl xs ys same = subst (SameMembers xs) same (λ x. (λ has. has, λ has. has))

  pub members_then : (xs ys zs : List X) → SameMembers xs ys → SameMembers ys zs → SameMembers xs zs
  members_then xs ys zs p q x = (λ has. (q x).0 ((p x).0 has), λ has. (p x).1 ((q x).1 has))

  pub members_append : (us vs cs ds : List X) → SameMembers us vs → SameMembers cs ds → SameMembers (us ++ cs) (vs ++ ds)
  members_append us vs cs ds p q x = (
    λ has. ⊎_elim (λ h. Contains-append_left vs ds x ((p x).0 h)) (λ h. Contains-append_right vs ds x ((q x).0 h)) (Contains-append_cases us cs x has),
    λ has. ⊎_elim (λ h. Contains-append_left us cs x ((p x).1 h)) (λ h. Contains-append_right us cs x ((q x).1 h)) (Contains-append_cases vs ds x has),
  )

  pub members_swap : (us vs : List X) → SameMembers (us ++ vs) (vs ++ us)
  members_swap us vs x = (
    λ has. ⊎_elim (λ h. Contains-append_right vs us x h) (λ h. Contains-append_left vs us x h) (Contains-append_cases us vs x has),
    λ has. ⊎_elim (λ h. Contains-append_right us vs x h) (λ h. Contains-append_left us vs x h) (Contains-append_cases vs us x has),
  )

  -- the middle two of four lists exchanged
  pub members_exchange : (us vs cs ds : List X) → SameMembers ((us ++ vs) ++ (cs ++ ds)) ((us ++ cs) ++ (vs ++ ds))
  members_exchange us vs cs ds =
      let four : (xs ys : List X) → (us ++ xs) ++ (ys ++ ds) ≡ us ++ ((xs ++ ys) ++ ds) =
      λ xs ys. append_assoc us xs (ys ++ ds) ∙ ap (λ l. us ++ l) (sym (append_assoc xs ys ds)) in
      members_then _ _ _ (members_refl _ _ (four vs cs))
      (members_then _ _ _
      (members_append us us ((vs ++ cs) ++ ds) ((cs ++ vs) ++ ds) (members_refl us us refl)
      (members_append (vs ++ cs) (cs ++ vs) ds ds (members_swap vs cs) (members_refl ds ds refl)))
      (members_refl _ _ (sym (four cs vs))))
