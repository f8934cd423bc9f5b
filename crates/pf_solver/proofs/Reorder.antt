-- Rows may be solved in any order that keeps, for each dynamic body, the order of its rows.
use Rattle.std.proofs.Common.{◌≡◌, ◌∙◌, ℕ, zero, suc, ◌+◌, ◌<◌, ◌≤◌, List, [], ◌∷◌, ◌++◌, length, map, refl, sym, ap, subst, arith}
use Rattle.std.proofs.lemmas.List.{length-map}
use Rattle.std.proofs.lemmas.List.Elements.{All-append, All-cons, All-head, All-nil, All-tail, All-weaker}
use Rattle.std.proofs.lemmas.List.Sums.{fold-append}
use Rattle.std.specs.List.{fold, range_with_len}
use Rattle.std.specs.Prelude.{All}
use Rattle.pf_levels.proofs.Places.{All-left, All-reordering, All-right}
use Rattle.pf_solver.specs.Laws.{solved_at}
use Rattle.pf_levels.specs.Levels.{ShareNoBodyAt, IsReordering, KeepsOrder, RowPair, pair_of}
use Rattle.pf_solver.specs.Order.{IsOrderOf, solved_in}
use Rattle.pf_solver.specs.Velocities.{Batch, Step, pass}
use Rattle.pf_solver.proofs.Commute.{commute, pairs_kept}
use Rattle.pf_solver.proofs.OneList.{pass_behind}

-- ---- places

-- the places of a range are above what is below its first one, and below what is not below its end
between : (n k p end : ℕ) → p < k → k + n ≤ end → All (λ q. (p < q) × (q < end)) (range_with_len k n)
between zero k p end below above = All-nil (λ q. (p < q) × (q < end))
between (suc n) k p end below above =
    All-cons (λ q. (p < q) × (q < end)) k (range_with_len (k + 1) n) (below, omega (arith, above))
    (between n (k + 1) p end (omega (arith, below)) (omega (arith, above)))

module _ (pairs : List RowPair) where
  -- the rows before a row are apart from it, if they come behind it in the list
  front_apart : (front back : List ℕ) (p : ℕ) → KeepsOrder pairs (front ++ p ∷ back) → All (λ q. p < q) front
      → All (λ q. ShareNoBodyAt pairs p q) front
  front_apart [] back p keeps behind = All-nil (λ q. ShareNoBodyAt pairs p q)
  front_apart (q ∷ front) back p keeps behind =
      let later = All-right (λ x. x < q → ShareNoBodyAt pairs x q) front (p ∷ back) keeps.0 in
      All-cons (λ x. ShareNoBodyAt pairs p x) q front
      (All-head (λ x. x < q → ShareNoBodyAt pairs x q) p back later (All-head (λ x. p < x) q front behind))
      (front_apart front back p keeps.1 (All-tail (λ x. p < x) q front behind))

  -- without one row the order is still kept
  keeps_rest : (front back : List ℕ) (p : ℕ) → KeepsOrder pairs (front ++ p ∷ back) → KeepsOrder pairs (front ++ back)
  keeps_rest [] back p keeps = keeps.1
  keeps_rest (q ∷ front) back p keeps =
      let P : ℕ → Type 0 = λ x. x < q → ShareNoBodyAt pairs x q in (
        All-append P front back (All-left P front (p ∷ back) keeps.0)
            (All-tail P p back (All-right P front (p ∷ back) keeps.0)),
        keeps_rest front back p keeps.1,
      )

-- what two rows do commutes where they are apart: their steps may be done in another order
module _ {X : Type 0} (next : X → ℕ → X) (pairs : List RowPair) (Is : X → Type 0) (count : ℕ)
    (stays : (x : X) (p : ℕ) → Is x → Is (next x p))
    (commute : (x : X) (p q : ℕ) → Is x → p < q → q < count → ShareNoBodyAt pairs p q → next (next x q) p ≡ next (next x p) q) where
  -- a row comes before rows that are apart from it
  first : (front : List ℕ) (p : ℕ) (x : X) → Is x → All (λ q. (p < q) × (q < count)) front
      → All (λ q. ShareNoBodyAt pairs p q) front
      → next (fold next x front) p ≡ fold next (next x p) front
  first [] p x is behind apart = refl
  first (q ∷ front) p x is behind apart =
      let P : ℕ → Type 0 = λ y. (p < y) × (y < count) in
      let here = All-head P q front behind in
      first front p (next x q) (stays x q is) (All-tail P q front behind) (All-tail (λ y. ShareNoBodyAt pairs p y) q front apart)
      ∙ ap (λ y. fold next y front) (commute x p q is here.0 here.1 (All-head (λ y. ShareNoBodyAt pairs p y) q front apart))

  -- the rows from a place on, in another order
  pub reordered : (n k : ℕ) (order : List ℕ) (x : X) → k + n ≤ count → Is x → IsReordering (range_with_len k n) order
      → KeepsOrder pairs order → fold next x order ≡ fold next x (range_with_len k n)
  reordered zero k order x end is same keeps = ap (fold next x) same
  reordered (suc n) k order x end is (front, back, same, rest) keeps =
      let P : ℕ → Type 0 = λ q. (k < q) × (q < count) in
      let places = range_with_len (k + 1) n in
      let kept : KeepsOrder pairs (front ++ k ∷ back) = subst (KeepsOrder pairs) same keeps in
      let all_behind = All-reordering P places (front ++ back) rest (between n (k + 1) k count (omega arith) (omega (arith, end))) in
      let behind = All-left P front back all_behind in
      let above = All-weaker P (λ q. k < q) (λ q h. h.0) front behind in
      ap (fold next x) same
      ∙ fold-append next x front (k ∷ back)
      ∙ ap (λ y. fold next y back) (first front k x is behind (front_apart pairs front back k kept above))
      ∙ sym (fold-append next (next x k) front back)
      ∙ reordered n (k + 1) (front ++ back) (next x k) (omega (arith, end)) (stays x k is) rest (keeps_rest pairs front back k kept)

module _ (step : Step) where
  -- rows of a batch with these pairs, in another order
  solved_reordered : (pairs : List RowPair) (order : List ℕ) (b : Batch) → map pair_of b.rows ≡ pairs
      → IsReordering (range_with_len 0 (length pairs)) order → KeepsOrder pairs order
      → fold (solved_at step) b order ≡ fold (solved_at step) b (range_with_len 0 (length pairs))
  solved_reordered pairs order b are =
      reordered (solved_at step) pairs (λ (x : Batch). map pair_of x.rows ≡ pairs) (length pairs)
      (λ x p is. pairs_kept step x p ∙ is)
      (λ x p q is less within apart.
      sym (commute step x q p (omega (arith, less)) (subst (λ ps. ShareNoBodyAt ps p q) (sym is) apart)))
      (length pairs) 0 order b (omega arith) are

  -- a pass in another order
  pub pass_in_order : (b : Batch) (order : List ℕ) → IsOrderOf b order → solved_in order step b ≡ pass step b.bodies b.rows
  pass_in_order b order is =
      solved_reordered (map pair_of b.rows) order b refl is.all is.keeps
      ∙ ap (λ n. fold (solved_at step) b (range_with_len 0 n)) (length-map b.rows pair_of)
      ∙ pass_behind step b.bodies [] b.rows
