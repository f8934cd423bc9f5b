use Rattle.std.proofs.Common.{◌≡◌, ℕ, ◌<◌, ◌≤◌, List, [], ◌∷◌, length, map, get_or, Bor, refl, ◌∙◌, arith}
use Rattle.pf_shapes.specs.Numbers.{checked_body, checked_box, checked_fixture, turned_transform}
use Rattle.pf_shapes.specs.SceneText.{box_parts, field_number, owner_of}
use Rattle.pf_shapes.proofs.scene_text.read_box.Goals as goal

-- nine fields are those of a box
box_parts-nine : (xs : List (Bor (List ℕ))) (d : Bor (List ℕ)) → 9 ≤ length xs → length xs < 10
    → checked_body
    (checked_fixture (owner_of (get_or xs 0 d).now) (field_number (get_or xs 1 d).now) (field_number (get_or xs 2 d).now)
    (checked_box (field_number (get_or xs 3 d).now) (field_number (get_or xs 4 d).now)))
    (turned_transform (field_number (get_or xs 5 d).now) (field_number (get_or xs 6 d).now) (field_number (get_or xs 7 d).now) (field_number (get_or xs 8 d).now))
    ≡ box_parts (map (λ field. field.now) xs)
unfolding box_parts
box_parts-nine (a ∷ b ∷ c ∷ e ∷ f ∷ g ∷ h ∷ i ∷ j ∷ []) d low high = refl
box_parts-nine (a ∷ b ∷ c ∷ e ∷ f ∷ g ∷ h ∷ i ∷ j ∷ k ∷ xs) d low high = absurd (omega arith)
box_parts-nine xs d low high = absurd (omega arith)

pub returns-in-len9-clause-value : goal.returns-in-len9-clause-value
returns-in-len9-clause-value c =
    c.checked_body.ensures.value
    ∙ (λ n. checked_body (c.box_of.ensures n) (c.turned.ensures.value n))
    ∙ (λ n. checked_body
    (checked_fixture (c.read_owner.ensures.value n) (c.whole.ensures n) (c.whole-in-len9.ensures n)
    (checked_box (c.whole-in-len9-2.ensures n) (c.whole-in-len9-3.ensures n)))
    (turned_transform (c.whole-in-len9-4.ensures n) (c.whole-in-len9-5.ensures n) (c.whole-in-len9-6.ensures n) (c.whole-in-len9-7.ensures n)))
    ∙ box_parts-nine c.args.arguments.now _ c.in-len9.len_at_least c.in-len9.len_below
