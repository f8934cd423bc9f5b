-- Awake bodies, and their flags.
use Rattle.std.proofs.Common.{◌≡◌, ◌∙◌, ◌<◌, ◌==◌, ⊎_elim, ℕ, Bool, true, false, not, ◌&&◌, ◌||◌, cond, List, [], length, nat_lt, refl, sym, ap, ap₂, arith}
use Rattle.std.specs.List.{range_with_len}
use Rattle.std.proofs.Math.ListN.{get_or-eq_default}
use Rattle.std.proofs.lemmas.Bool.{cases_lt, true≢false}
use Rattle.std.proofs.lemmas.Bool.Decides.{Decides-eqb, nat_tests}
use Rattle.std.proofs.lemmas.List.{nil_from_length}
use Rattle.pf_shapes.specs.Body.{BodyState, no_state}
use Rattle.pf_shapes.specs.Scene.{Scene, is_static_at}
use Rattle.pf_broad.specs.Partners.{has_body}
use Rattle.pf_broad.proofs.Ranges.{filter-range_none, has_body-below, has_body-filter}
use Rattle.pf_islands.specs.Flags.{ListsAwake, awake_numbers}
use Rattle.pf_islands.specs.Rows.{is_awake_at, is_simulated_at}

-- ---- bodies

-- an awake body is one of the bodies
pub awake_there : (bodies : List BodyState) (k : ℕ) → is_awake_at bodies k ≡ true → k < length bodies
awake_there bodies k awake =
    ⊎_elim (λ within. within)
    (λ beyond. absurd (true≢false (sym awake ∙ ap (λ (b : BodyState). b.awake) (get_or-eq_default bodies no_state beyond))))
    (cases_lt k (length bodies))

is_below : (k n : ℕ) → k < n → nat_lt k n ≡ true
is_below k n below = grind (arith, nat_tests)

-- all bodies are listed
pub all_listed : (numbers : List ℕ) (n : ℕ) (bodies : List BodyState) → numbers ≡ range_with_len 0 n → n ≡ length bodies
    → ListsAwake numbers bodies
all_listed numbers n bodies are long k awake =
    ap (λ ns. has_body ns k) are ∙ has_body-below n k
    ∙ is_below k n (let there = awake_there bodies k awake in omega (arith, there, long))

-- ---- flags of simulated bodies

module _ (s : Scene) where
  -- the flag of each body after those of some awake bodies are written
  abbrev pub flag_after : List ℕ → ℕ → Bool
  flag_after numbers k = has_body numbers k && not (is_static_at s k)

  -- one body more
  pub flag_more : (b : Bool) (x k : ℕ)
      → ((b || (x == k)) && not (is_static_at s k)) ≡ cond (x == k) (not (is_static_at s x)) (b && not (is_static_at s k))
  flag_more b x k = by (x == k) refl b
    where
      by : (e : Bool) → (x == k) ≡ e → (c : Bool)
          → ((c || e) && not (is_static_at s k)) ≡ cond e (not (is_static_at s x)) (c && not (is_static_at s k))
      by true same true = ap (λ n. not (is_static_at s n)) (sym ((Decides-eqb x k).0 same))
      by true same false = ap (λ n. not (is_static_at s n)) (sym ((Decides-eqb x k).0 same))
      by false other true = refl
      by false other false = refl

  -- all awake bodies
  pub flag_of_all : (bodies : List BodyState) (numbers : List ℕ) → numbers ≡ awake_numbers bodies
      → (k : ℕ) → k < length bodies → flag_after numbers k ≡ is_simulated_at s bodies k
  flag_of_all bodies numbers are k below =
      ap (λ b. b && not (is_static_at s k))
      (ap (λ ns. has_body ns k) are ∙ has_body-filter (is_awake_at bodies) (range_with_len 0 (length bodies)) k
      ∙ ap (λ b. is_awake_at bodies k && b) (has_body-below (length bodies) k ∙ is_below k (length bodies) below))
      ∙ by (is_awake_at bodies k) (not (is_static_at s k))
    where
      by : (a d : Bool) → ((a && true) && d) ≡ (d && a)
      by true true = refl
      by true false = refl
      by false true = refl
      by false false = refl

-- no body is awake where none is listed as awake
pub none_awake : (bodies : List BodyState) → length (awake_numbers bodies) ≡ 0 → (k : ℕ) → is_awake_at bodies k ≡ false
none_awake bodies none k = by (is_awake_at bodies k) refl
  where
    found : is_awake_at bodies k ≡ true → has_body (awake_numbers bodies) k ≡ true
    found is =
        has_body-filter (is_awake_at bodies) (range_with_len 0 (length bodies)) k
        ∙ ap₂ (λ a b. a && b) is
        (has_body-below (length bodies) k ∙ is_below k (length bodies) (awake_there bodies k is))

    by : (e : Bool) → is_awake_at bodies k ≡ e → is_awake_at bodies k ≡ false
    by true is =
        absurd (true≢false (sym (found is) ∙ ap (λ ns. has_body ns k) (nil_from_length (awake_numbers bodies) none)))
    by false is = is

-- no body is awake where none is listed
pub none_listed : (numbers : List ℕ) (bodies : List BodyState) → ListsAwake numbers bodies → length numbers ≡ 0
    → awake_numbers bodies ≡ []
none_listed numbers bodies awake none =
    filter-range_none (is_awake_at bodies) 0 (length bodies) (λ k low. by k (is_awake_at bodies k) refl)
  where
    by : (k : ℕ) (e : Bool) → is_awake_at bodies k ≡ e → is_awake_at bodies k ≡ false
    by k true is = absurd (true≢false (sym (awake k is) ∙ ap (λ ns. has_body ns k) (nil_from_length numbers none)))
    by k false is = is
