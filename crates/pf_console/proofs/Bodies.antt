-- The lines of bodies, one body after the other.
use Rattle.std.proofs.Common.{◌≡◌, ℕ, suc, ◌+◌, ◌<◌, ◌≤◌, List, [], ◌∷◌, ◌++◌, length, drop, get_or, refl, ap, ◌∙◌, sym, add-one, arith, min, ⊎_elim}
use Rattle.std.proofs.Math.Seq.{drop-cons}
use Rattle.std.proofs.lemmas.Bool.{cases_lt}
use Rattle.std.proofs.lemmas.List.{drop_all}
use Rattle.pf_shapes.specs.Fixture.{Fixture}
use Rattle.pf_shapes.specs.Body.{BodyState}
use Rattle.pf_console.specs.Print.{dynamic_body_text, bodies_text}

bodies_text_cons : (i : ℕ) (f : Fixture) (fixtures : List Fixture) (b : BodyState) (bodies : List BodyState) →
    bodies_text i (f ∷ fixtures) (b ∷ bodies) ≡ dynamic_body_text i f b ++ bodies_text (i + 1) fixtures bodies
unfolding bodies_text
bodies_text_cons i f fixtures b bodies = refl

-- the body of one number, and then the rest
pub bodies_text_more : (fixtures : List Fixture) (bodies : List BodyState) (i : ℕ) (f : Fixture) (b : BodyState) →
    i < length fixtures → i < length bodies → f ≡ get_or fixtures i f → b ≡ get_or bodies i b →
    bodies_text i (drop i fixtures) (drop i bodies)
    ≡ dynamic_body_text i f b ++ bodies_text (i + 1) (drop (i + 1) fixtures) (drop (i + 1) bodies)
bodies_text_more fixtures bodies i f b hf hb ef eb =
    let df : drop i fixtures ≡ f ∷ drop (suc i) fixtures =
    drop-cons fixtures i f hf ∙ ap (λ (x : Fixture). x ∷ drop (suc i) fixtures) (sym ef) in
    let db : drop i bodies ≡ b ∷ drop (suc i) bodies =
    drop-cons bodies i b hb ∙ ap (λ (x : BodyState). x ∷ drop (suc i) bodies) (sym eb) in
    rw (df, db, add-one) (bodies_text_cons i f (drop (suc i) fixtures) b (drop (suc i) bodies) ∙ rw add-one refl)

no_fixtures : (i : ℕ) (bodies : List BodyState) → bodies_text i [] bodies ≡ []
unfolding bodies_text
no_fixtures i bodies = refl

no_bodies : (i : ℕ) (fixtures : List Fixture) → bodies_text i fixtures [] ≡ []
unfolding bodies_text
no_bodies i [] = refl
no_bodies i (f ∷ fixtures) = refl

-- no body is left
pub bodies_text_end : (fixtures : List Fixture) (bodies : List BodyState) (i : ℕ) → min (length fixtures) (length bodies) ≤ i →
    bodies_text i (drop i fixtures) (drop i bodies) ≡ []
bodies_text_end fixtures bodies i h =
    ⊎_elim
    (λ (l : i < length fixtures). rw (drop_all i bodies (omega arith)) (no_bodies i (drop i fixtures)))
    (λ (l : length fixtures ≤ i). rw (drop_all i fixtures l) (no_fixtures i (drop i bodies)))
    (cases_lt i (length fixtures))
