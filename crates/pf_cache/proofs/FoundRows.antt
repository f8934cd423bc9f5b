-- Rows are found by their keys.
use Rattle.std.proofs.Common.{◌≡◌, ◌≢◌, ◌==◌, ◌∙◌, ℕ, suc, Bool, true, false, List, [], ◌∷◌, map, refl, arith}
use Rattle.std.proofs.lemmas.Bool.Decides.{Decides-eqb}
use Rattle.std.proofs.lemmas.List.Elements.{All-cons, All-head, All-nil, All-tail}
use Rattle.std.specs.Prelude.{All, get_or, if◌then◌else◌}
use Rattle.pf_manifold.specs.Key.{IsRising, Key, key_of, rank}
use Rattle.pf_manifold.proofs.Rising.{rising-all}
use Rattle.pf_rows.specs.Impulses.{Impulses}
use Rattle.pf_rows.specs.Row.{AreRows, Row, impulses_or}
use Rattle.pf_cache.proofs.RankedLists as ranked

abbrev pub row_rank : Row → ℕ
row_rank r = rank (key_of r.entry.touch)

abbrev pub impulses_of : Row → Impulses
impulses_of r = r.entry.impulses

-- the ranks of rows ascend
pub rows_rise : (rows : List Row) → AreRows rows → IsRising 0 (map row_rank rows)
rows_rise rows order = by 0 rows order.rising
  where
    by : (least : ℕ) (rs : List Row) → IsRising least (map (λ t. rank (key_of t)) (map (λ r. r.entry.touch) rs))
        → IsRising least (map row_rank rs)
    by least [] h = h
    by least (r ∷ rs) h = (h.0, by (suc (row_rank r)) rs h.1)

-- each row is found by its key
pub all_found : (p : Impulses) (least : ℕ) (rows : List Row) → IsRising least (map row_rank rows)
    → All (λ r. impulses_or p (row_rank r) rows ≡ r.entry.impulses) rows
all_found p least [] h = All-nil (λ r. impulses_or p (row_rank r) [] ≡ r.entry.impulses)
all_found p least (r ∷ rows) h =
    let above = rising-all row_rank (suc (row_rank r)) rows h.1 in
    let behind = all_found p (suc (row_rank r)) rows h.1 in
    All-cons (λ x. impulses_or p (row_rank x) (r ∷ rows) ≡ x.entry.impulses) r rows
    (ranked.first_alone row_rank impulses_of p (row_rank r) r rows refl)
    (λ k d w.
    let high = above k d w in
    ranked.other_rank row_rank impulses_of p (row_rank (get_or rows k d)) r rows (omega (arith, high)) ∙ behind k d w)

-- where no row has a key, the other impulses are taken
pub none_found : (p : Impulses) (k : Key) (rows : List Row) → All (λ r. row_rank r ≢ rank k) rows
    → impulses_or p (rank k) rows ≡ p
none_found p k [] h = refl
none_found p k (r ∷ rows) h =
    by (row_rank r == rank k) refl (none_found p k rows (All-tail (λ x. row_rank x ≢ rank k) r rows h))
  where
    by : (t : Bool) → (row_rank r == rank k) ≡ t → impulses_or p (rank k) rows ≡ p
        → (if t then r.entry.impulses else impulses_or p (rank k) rows) ≡ p
    by true e behind =
        absurd (All-head (λ x. row_rank x ≢ rank k) r rows h ((Decides-eqb (row_rank r) (rank k)).0 e))
    by false e behind = behind
