use Rattle.std.proofs.Common.{◌≡◌, ◌∷◌, [], ℕ, List, eqb-true, length, vec_len, refl, sym, ap, ◌∙◌, arith}
use Rattle.std.proofs.lemmas.Bool.Decides.{nat_tests}
use Rattle.pf_broad.specs.Enlarged.{left_bodies}
use Rattle.pf_broad.proofs.Leaving.{none_left}
use Rattle.pf_broad.proofs.broad_phase.BroadPhase.update.Goals as goal

pub returns-then-is_empty-clause-enlarged : goal.returns-then-is_empty-clause-enlarged
returns-then-is_empty-clause-enlarged c =
    let bounds = c.args.bounds.now in
    let shown : c.deref.result.now ≡ c.replace-kept.result = c.deref.ensures.value ∙ c.kept.view_is in
    let as_many : length c.replace-kept.result ≡ length bounds = grind (arith, nat_tests, ap length shown) in
    let empty : vec_len c.in_ok-left.left ≡ 0 = eqb-true (vec_len c.in_ok-left.left) 0 (sym c.is_empty.ensures ∙ c.if-is_empty.true) in
    none_left c.replace-kept.result bounds as_many
    (ap (λ l. left_bodies l bounds) (sym shown) ∙ sym c.in_ok-left.ensures ∙ none c.in_ok-left.left.items (omega (arith, empty)))
  where
    none : (l : List ℕ) → length l ≡ 0 → l ≡ []
    none [] long = refl
    none (x ∷ xs) long = absurd (omega arith)
