-- What is noted of groups, by their labels, along the bodies.
use Rattle.std.proofs.Common.{◌≡◌, ◌∙◌, ℕ, ◌+◌, ◌<◌, ◌≤◌, ◌==◌, ⊎_elim, Bool, true, false, cond, ◌&&◌, ◌||◌, List, length, take, get_or, set, take_all, refl, sym, ap, arith}
use Rattle.std.proofs.lemmas.Bool.{cases_eq, cond-true, cond-false, eq-eqb, ne_eqb}
use Rattle.std.proofs.lemmas.List.{get_or-set_same, get_or-set_other}
use Rattle.std.proofs.lemmas.List.Folds.{list_any_more}
use Rattle.std.proofs.lemmas.Slice.Zip.{get_or-zip, length-zip}
use Rattle.std.specs.List.{list_any, zip}
use Rattle.pf_shapes.specs.Body.{BodyState}

-- the marks of so many groups are these
abbrev pub AreNoted : ℕ → List Bool → (ℕ → Bool) → Type 0
AreNoted n marks noted = (label : ℕ) → label < n → get_or marks label false ≡ noted label

-- a mark of one group is written
pub noted_set : (n : ℕ) (marks : List Bool) (before after : ℕ → Bool) (x : ℕ) (v : Bool) → length marks ≡ n → x < n
    → ((label : ℕ) → after label ≡ cond (x == label) v (before label))
    → AreNoted n marks before → AreNoted n (set marks x v) after
noted_set n marks before after x v long within step noted label small =
    ⊎_elim
    (λ e.
    ap (λ y. get_or (set marks x v) y false) e ∙ get_or-set_same marks x v false (omega (arith, long, within))
    ∙ sym (step label ∙ cond-true _ _ _ (eq-eqb x label (sym e))))
    (λ apart.
    get_or-set_other marks x label v false apart ∙ noted label small
    ∙ sym (step label ∙ cond-false _ _ _ (ne_eqb x label (λ e. apart (sym e)))))
    (cases_eq label x)

-- nothing is written
pub noted_same : (n : ℕ) (marks : List Bool) (before after : ℕ → Bool) → ((label : ℕ) → after label ≡ before label)
    → AreNoted n marks before → AreNoted n marks after
noted_same n marks before after step noted label small = noted label small ∙ sym (step label)

-- a test that passes decides at the label e, and one that fails changes nothing
any_step : (e b r : Bool) → b ≡ true → (r || (e && b)) ≡ cond e true r
any_step true true true h = refl
any_step true true false h = refl
any_step true false true h = refl
any_step true false false h = h
any_step false b true h = refl
any_step false b false h = refl

any_none : (e b r : Bool) → b ≡ false → (r || (e && b)) ≡ r
any_none e b true h = refl
any_none true b false h = h
any_none false b false h = refl

module _ (test : BodyState → Bool) (labels : List ℕ) (bodies : List BodyState) where
  -- one of the first bodies of the group passes the test
  abbrev pub any_of : ℕ → ℕ → Bool
  any_of i label = list_any (λ (m : ℕ × BodyState). (m.0 == label) && test m.1) (take i (zip labels bodies))

  -- all bodies are passed
  zip_all : (i : ℕ) → length bodies ≤ i → take i (zip labels bodies) ≡ zip labels bodies
  zip_all i over = take_all i (zip labels bodies) (omega (arith, length-zip labels bodies, over))

  -- one of all bodies of the group passes
  pub any_all : (i : ℕ) → length bodies ≤ i → (label : ℕ)
      → any_of i label ≡ list_any (λ (m : ℕ × BodyState). (m.0 == label) && test m.1) (zip labels bodies)
  any_all i over label = ap (list_any (λ (m : ℕ × BodyState). (m.0 == label) && test m.1)) (zip_all i over)

  -- the next body
  module _ (i : ℕ) (d : BodyState) (paired : length bodies ≡ length labels) (within : i < length bodies) where
    -- it stands in the list of pairs
    within_both : i < length (zip labels bodies)
    within_both = omega (arith, length-zip labels bodies, paired, within)

    pair : get_or (zip labels bodies) i (0, d) ≡ (get_or labels i 0, get_or bodies i d)
    pair = get_or-zip labels bodies i (0, d) (omega (arith, paired, within)) within

    -- what it adds
    any_more : (label : ℕ) → any_of (i + 1) label ≡ (any_of i label || ((get_or labels i 0 == label) && test (get_or bodies i d)))
    any_more label =
        list_any_more (λ (m : ℕ × BodyState). (m.0 == label) && test m.1) (zip labels bodies) i (0, d) within_both
        ∙ ap (λ (m : ℕ × BodyState). any_of i label || ((m.0 == label) && test m.1)) pair

    -- it passes
    pub any_passed : test (get_or bodies i d) ≡ true → (label : ℕ)
        → any_of (i + 1) label ≡ cond (get_or labels i 0 == label) true (any_of i label)
    any_passed passes label = any_more label ∙ any_step (get_or labels i 0 == label) _ (any_of i label) passes

    -- it fails
    pub any_failed : test (get_or bodies i d) ≡ false → (label : ℕ) → any_of (i + 1) label ≡ any_of i label
    any_failed fails label = any_more label ∙ any_none (get_or labels i 0 == label) _ (any_of i label) fails
