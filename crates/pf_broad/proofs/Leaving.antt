-- The bodies that left their enlarged bounds.
use Rattle.std.proofs.Common.{◌≡◌, ℕ, ◌<◌, Bool, true, false, not, ◌&&◌, List, [], length, nat_lt, ltb-true, refl, sym, ap, ◌∙◌, arith}
use Rattle.std.proofs.lemmas.Bool.Decides.{nat_tests}
use Rattle.std.specs.List.{range_with_len, filter}
use Rattle.pf_shapes.specs.Bounds.{Bounds}
use Rattle.pf_broad.specs.Pairs.{bounds_at}
use Rattle.pf_broad.specs.Partners.{has_body, AreBodies, AreInOrder}
use Rattle.pf_broad.specs.Enlarged.{contains, left_bodies, AreContained, AreEnlarged}
use Rattle.pf_broad.proofs.Ranges.{filter-same, has_body-filter, has_body-below, All-has_body}

has_body-filter_below : (p : ℕ → Bool) (n j : ℕ) → has_body (filter p (range_with_len 0 n)) j ≡ (p j && nat_lt j n)
has_body-filter_below p n j = has_body-filter p (range_with_len 0 n) j ∙ ap (λ b. p j && b) (has_body-below n j)

-- one that is no body that left, in range, is contained
pub left-contained : (enlarged bounds : List Bounds) (k : ℕ) → k < length bounds → has_body (left_bodies enlarged bounds) k ≡ false → contains (bounds_at enlarged k) (bounds_at bounds k) ≡ true
left-contained enlarged bounds k below stayed =
    let tested = has_body-filter_below (λ j. not (contains (bounds_at enlarged j) (bounds_at bounds j))) (length bounds) k in
    let here : nat_lt k (length bounds) ≡ true = grind (arith, nat_tests) in
    contained (contains (bounds_at enlarged k) (bounds_at bounds k)) (nat_lt k (length bounds)) here (sym tested ∙ stayed)
  where
    contained : (c n : Bool) → n ≡ true → (not c && n) ≡ false → c ≡ true
    contained true n h e = refl
    contained false n h e = sym e ∙ h

-- where none left, all are contained
pub none_left : (enlarged bounds : List Bounds) → length enlarged ≡ length bounds → left_bodies enlarged bounds ≡ [] → AreEnlarged enlarged bounds
none_left enlarged bounds as_many none = record {
  as_many = as_many;
  each = λ k below. left-contained enlarged bounds k below (ap (λ l. has_body l k) none);
}

-- those of the listed bodies that left are all that did
pub left-listed : (enlarged bounds : List Bounds) (dirty : List ℕ) → AreBodies bounds dirty → AreContained dirty enlarged bounds
    → (k : ℕ) → (not (contains (bounds_at enlarged k) (bounds_at bounds k)) && has_body dirty k)
    ≡ (not (contains (bounds_at enlarged k) (bounds_at bounds k)) && nat_lt k (length bounds))
left-listed enlarged bounds dirty are contained k =
    same (contains (bounds_at enlarged k) (bounds_at bounds k)) (has_body dirty k) (nat_lt k (length bounds))
    (λ other is. contained k (ltb-true k (length bounds) is) other)
    (λ listed. (let below = All-has_body (λ j. j < length bounds) dirty k are listed in grind (arith, nat_tests)))
  where
    same : (c m n : Bool) → (m ≡ false → n ≡ true → c ≡ true) → (m ≡ true → n ≡ true) → (not c && m) ≡ (not c && n)
    same true m n within listed = refl
    same false true n within listed = sym (listed refl)
    same false false true within listed = within refl refl
    same false false false within listed = refl

-- the bodies that pass a test are in order
pub in_order : (p : ℕ → Bool) (bs : List Bounds) (bodies : List ℕ) → bodies ≡ filter p (range_with_len 0 (length bs)) → AreInOrder bs bodies
in_order p bs bodies is =
    is ∙ filter-same p (has_body bodies) 0 (length bs) (λ k below.
    sym (ap (λ l. has_body l k) is ∙ has_body-filter_below p (length bs) k ∙ passes (p k) (nat_lt k (length bs)) (grind (arith, nat_tests, below))))
  where
    passes : (b c : Bool) → c ≡ true → (b && c) ≡ b
    passes true c h = h
    passes false c h = refl
