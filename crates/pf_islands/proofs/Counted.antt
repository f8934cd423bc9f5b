-- Which groups have contacts, counted one after the other.
use Rattle.std.proofs.Common.{◌≡◌, ◌≢◌, ◌∙◌, ℕ, ◌+◌, ◌<◌, ◌==◌, Bool, true, false, not, ◌||◌, List, [], ◌∷◌, get_or, length, set, take, refl, sym, ap, arith, if◌then◌else◌}
use Rattle.std.proofs.lemmas.Bool.{eqb-true, ne_eqb, true≢false}
use Rattle.std.proofs.lemmas.List.{get_or-set_other, get_or-set_same, map_more}
use Rattle.std.proofs.lemmas.List.Folds.{list_any-append}
use Rattle.std.specs.List.{list_any}
use Rattle.std.specs.Prelude.{All}
use Rattle.pf_shapes.specs.Scene.{Scene, is_static_at}
use Rattle.pf_manifold.specs.Touches.{IsTouchOf, Touch}
use Rattle.pf_rows.specs.declared.row.Side.TheVariants.{Static, Dynamic}
use Rattle.pf_islands.specs.Dealing.{group_of_sides}
use Rattle.pf_islands.specs.Lone.{group_of_touch}
use Rattle.pf_islands.specs.Settled.{touches_of}

-- a contact point is of the group of a body
pub group_within : (s : Scene) (labels : List ℕ) (t : Touch) → IsTouchOf (length labels) t
    → All (λ label. label < length labels) labels → group_of_touch s labels t < length labels
group_within s labels t is labelled = by (is_static_at s t.a) (is_static_at s t.b)
  where
    by : (d e : Bool)
        → group_of_sides labels (if d then Static else Dynamic t.a) (if e then Static else Dynamic t.b) < length labels
    by true true = omega (arith, is.0, is.1)
    by true false = labelled t.b 0 is.1
    by false e = labelled t.a 0 (omega (arith, is.0, is.1))

-- the number at a label is 0 where no contact point of these is of its group
abbrev pub IsCounted : Scene → List ℕ → List (ℕ × Touch) → List ℕ → ℕ → Type 0
IsCounted s labels points rows label =
    label < length labels → (get_or rows label 0 == 0)
    ≡ not (list_any (λ t. group_of_touch s labels t == label) (touches_of points))

-- one contact point more
pub counted_more : (s : Scene) (labels : List ℕ) (points : List (ℕ × Touch)) (rows : List ℕ) (k : ℕ) (m : ℕ × Touch) (count : ℕ)
    → k < length points → m ≡ get_or points k m
    → length rows ≡ length labels → count ≢ 0
    → ((label : ℕ) → IsCounted s labels (take k points) rows label)
    → (label : ℕ) → IsCounted s labels (take (k + 1) points) (set rows (group_of_touch s labels m.1) count) label
counted_more s labels points rows k m count inside is long some before label low =
    by (own == label) refl ∙ ap not (sym more)
  where
    own : ℕ
    own = group_of_touch s labels m.1

    test : Touch → Bool
    test u = group_of_touch s labels u == label

    more : list_any test (touches_of (take (k + 1) points)) ≡ (list_any test (touches_of (take k points)) || (test m.1 || false))
    more =
        ap (list_any test) (map_more (λ (n : ℕ × Touch). n.1) points k m inside)
        ∙ list_any-append test (touches_of (take k points)) ((get_or points k m).1 ∷ [])
        ∙ ap (λ (n : ℕ × Touch). list_any test (touches_of (take k points)) || (test n.1 || false)) (sym is)

    or_true : (e : Bool) → (e || true) ≡ true
    or_true true = refl
    or_true false = refl

    or_false : (e : Bool) → (e || false) ≡ e
    or_false true = refl
    or_false false = refl

    by : (e : Bool) → (own == label) ≡ e
        → (get_or (set rows own count) label 0 == 0) ≡ not (list_any test (touches_of (take k points)) || (test m.1 || false))
    by true same =
        ap (λ n. get_or (set rows n count) label 0 == 0) (eqb-true own label same)
        ∙ ap (λ n. n == 0) (get_or-set_same rows label count 0 (omega (arith, low, long)))
        ∙ ne_eqb count 0 some
        ∙ sym
        (ap (λ e. not (list_any test (touches_of (take k points)) || (e || false))) same
        ∙ ap not (or_true (list_any test (touches_of (take k points)))))
    by false other =
        ap (λ n. n == 0)
        (get_or-set_other rows own label count 0 (λ is_own. true≢false (sym (ap (λ n. n == label) (sym is_own) ∙ self label) ∙ other)))
        ∙ before label low
        ∙ sym
        (ap (λ e. not (list_any test (touches_of (take k points)) || (e || false))) other
        ∙ ap not (or_false (list_any test (touches_of (take k points)))))
      where
        self : (n : ℕ) → (n == n) ≡ true
        self n = grind arith
