-- What holds of places holds of parts of their list, and in any order.
use Rattle.std.proofs.Common.{ℕ, List, [], ◌∷◌, ◌++◌, subst, sym}
use Rattle.std.proofs.lemmas.List.Elements.{All-append, All-cons, All-head, All-nil, All-tail}
use Rattle.std.specs.Prelude.{All}
use Rattle.std.specs.List.{concat}
use Rattle.pf_levels.specs.Levels.{IsReordering}

pub All-left : (P : ℕ → Type 0) (front back : List ℕ) → All P (front ++ back) → All P front
All-left P [] back all = All-nil P
All-left P (x ∷ front) back all = All-cons P x front (All-head P x (front ++ back) all) (All-left P front back (All-tail P x (front ++ back) all))

pub All-right : (P : ℕ → Type 0) (front back : List ℕ) → All P (front ++ back) → All P back
All-right P [] back all = all
All-right P (x ∷ front) back all = All-right P front back (All-tail P x (front ++ back) all)

-- what holds of all places holds of them in any order
pub All-reordering : (P : ℕ → Type 0) (places order : List ℕ) → IsReordering places order → All P places → All P order
All-reordering P [] order is all = subst (All P) (sym is) (All-nil P)
All-reordering P (p ∷ places) order (front, back, is, rest) all =
    let both = All-reordering P places (front ++ back) rest (All-tail P p places all) in
    subst (All P) (sym is)
    (All-append P front (p ∷ back) (All-left P front back both)
    (All-cons P p back (All-head P p places all) (All-right P front back both)))

-- what holds of all places of some levels holds of those of each level
pub All-levels : (P : ℕ → Type 0) (levels : List (List ℕ)) → All P (concat levels) → All (All P) levels
All-levels P [] all = All-nil (All P)
All-levels P (g ∷ levels) all =
    All-cons (All P) g levels (All-left P g (concat levels) all) (All-levels P levels (All-right P g (concat levels) all))

-- what holds of two lists holds of them the other way round
pub All-swapped : (P : ℕ → Type 0) (front back : List ℕ) → All P (front ++ back) → All P (back ++ front)
All-swapped P front back all = All-append P back front (All-right P front back all) (All-left P front back all)
