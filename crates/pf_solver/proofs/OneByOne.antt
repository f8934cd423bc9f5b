-- Bodies that go through a tick one after the other, where no contact touches them.
use Rattle.std.proofs.Common.{◌≡◌, ◌∙◌, ℕ, zero, suc, ◌+◌, ◌<◌, ◌≤◌, ◌==◌, ◌||◌, Bool, true, false, List, [], ◌∷◌, get_or, length, set, take, refl, sym, ap, ap₂, arith, if◌then◌else◌}
use Rattle.std.proofs.lemmas.Bool.{eq-eqb, eqb-true, ne_eqb, true≢false}
use Rattle.std.proofs.lemmas.List.{ext_get_or, get_or-map, get_or-set_other, get_or-set_same, length-map, length-set, take_more}
use Rattle.std.proofs.lemmas.List.Folds.{list_any-append}
use Rattle.std.proofs.lemmas.List.FromFn.{get_or-enumerate_from, length-enumerate_from}
use Rattle.std.specs.List.{enumerate_from}
use Rattle.pf_rot.specs.Vector.{V2}
use Rattle.pf_shapes.specs.Body.{BodyState, no_state}
use Rattle.pf_manifold.specs.Key.{IsRising}
use Rattle.pf_islands.specs.Island.{has_number}
use Rattle.pf_solver.specs.Alone.{lone_bodies_after_tick, lone_body_after_tick}

-- a number of a rising list is none of those before it
below_rest : (least n : ℕ) (numbers : List ℕ) → IsRising least numbers → n < least → has_number numbers n ≡ false
below_rest least n [] rising below = refl
below_rest least n (m ∷ numbers) rising below =
    ap₂ (λ s t. s || t) (ne_eqb m n (λ same. omega (arith, same, below, rising.0)))
    (below_rest (suc m) n numbers rising.1 (omega (arith, below, rising.0)))

above_least : (least : ℕ) (numbers : List ℕ) (k : ℕ) → IsRising least numbers → k < length numbers → least ≤ get_or numbers k 0
above_least least [] k rising within = absurd (omega (arith, within))
above_least least (m ∷ numbers) zero rising within = rising.0
above_least least (m ∷ numbers) (suc k) rising within =
    let up = above_least (suc m) numbers k rising.1 (omega (arith, within)) in
    omega (arith, up, rising.0)

none_before : (least : ℕ) (numbers : List ℕ) (k : ℕ) → IsRising least numbers → k < length numbers
    → has_number (take k numbers) (get_or numbers k 0) ≡ false
none_before least [] k rising within = absurd (omega (arith, within))
none_before least (m ∷ numbers) zero rising within = refl
none_before least (m ∷ numbers) (suc k) rising within =
    let up = above_least (suc m) numbers k rising.1 (omega (arith, within)) in
    ap₂ (λ s t. s || t) (ne_eqb m (get_or numbers k 0) (λ same. omega (arith, same, up)))
    (none_before (suc m) numbers k rising.1 (omega (arith, within)))

module _ (pull : V2) (bodies : List BodyState) where
  pub lone_bodies_long : (numbers : List ℕ) → length (lone_bodies_after_tick pull numbers bodies) ≡ length bodies
  lone_bodies_long numbers = length-map (enumerate_from 0 bodies) _ ∙ length-enumerate_from 0 bodies

  -- what a body is then
  pub lone_body_at : (numbers : List ℕ) (j : ℕ) → j < length bodies
      → get_or (lone_bodies_after_tick pull numbers bodies) j no_state
      ≡ (if has_number numbers j then lone_body_after_tick pull (get_or bodies j no_state) else get_or bodies j no_state)
  lone_body_at numbers j within =
      let from_zero : 0 + j ≡ j = omega arith in
      let long = length-enumerate_from 0 bodies in
      get_or-map one (enumerate_from 0 bodies) j (0, no_state) no_state (omega (arith, within, long))
      ∙ ap one (get_or-enumerate_from 0 bodies j (0, no_state) within)
      ∙ ap (λ n. one (n, get_or bodies j no_state)) from_zero
    where
      one : ℕ × BodyState → BodyState
      one m = if has_number numbers m.0 then lone_body_after_tick pull m.1 else m.1

  -- no body yet
  pub no_lone_bodies : bodies ≡ lone_bodies_after_tick pull [] bodies
  no_lone_bodies =
      ext_get_or no_state bodies (lone_bodies_after_tick pull [] bodies) (sym (lone_bodies_long []))
      (λ j within. sym (lone_body_at [] j within))

  -- one body more
  pub one_more : (numbers : List ℕ) (k : ℕ) (now : List BodyState) (b : BodyState) → k < length numbers
      → get_or numbers k 0 < length bodies → IsRising 0 numbers → now ≡ lone_bodies_after_tick pull (take k numbers) bodies
      → b ≡ lone_body_after_tick pull (get_or now (get_or numbers k 0) no_state)
      → set now (get_or numbers k 0) b ≡ lone_bodies_after_tick pull (take (k + 1) numbers) bodies
  one_more numbers k now b inside within rising now_is b_is =
      ext_get_or no_state (set now n b) (lone_bodies_after_tick pull (take (k + 1) numbers) bodies)
      (long ∙ sym (lone_bodies_long (take (k + 1) numbers)))
      (λ j below. at j (omega (arith, below, long)))
    where
      n : ℕ
      n = get_or numbers k 0

      now_long : length now ≡ length bodies
      now_long = ap length now_is ∙ lone_bodies_long (take k numbers)

      long : length (set now n b) ≡ length bodies
      long = length-set now n b ∙ now_long

      more : (j : ℕ) → has_number (take (k + 1) numbers) j ≡ (has_number (take k numbers) j || ((n == j) || false))
      more j =
          ap (λ ns. has_number ns j) (take_more numbers k 0 inside)
          ∙ list_any-append (λ m. m == j) (take k numbers) (n ∷ [])

      state : ℕ → Bool → BodyState
      state j e = if e then lone_body_after_tick pull (get_or bodies j no_state) else get_or bodies j no_state

      before : (j : ℕ) → j < length bodies → get_or now j no_state ≡ state j (has_number (take k numbers) j)
      before j below = ap (λ bs. get_or bs j no_state) now_is ∙ lone_body_at (take k numbers) j below

      at : (j : ℕ) → j < length bodies → get_or (set now n b) j no_state ≡ get_or (lone_bodies_after_tick pull (take (k + 1) numbers) bodies) j no_state
      at j below = by (n == j) refl ∙ sym (lone_body_at (take (k + 1) numbers) j below ∙ ap (state j) (more j))
        where
          or_false : (e : Bool) → (e || false) ≡ e
          or_false true = refl
          or_false false = refl

          or_true : (e : Bool) → (e || true) ≡ true
          or_true true = refl
          or_true false = refl

          by : (e : Bool) → (n == j) ≡ e
              → get_or (set now n b) j no_state ≡ state j (has_number (take k numbers) j || ((n == j) || false))
          by true is =
              let same = eqb-true n j is in
              ap (λ i. get_or (set now n b) i no_state) (sym same)
              ∙ get_or-set_same now n b no_state (omega (arith, within, now_long))
              ∙ b_is
              ∙ ap (lone_body_after_tick pull)
              (before n within ∙ ap (state n) (none_before 0 numbers k rising inside))
              ∙ ap (λ i. lone_body_after_tick pull (get_or bodies i no_state)) same
              ∙ sym (ap (λ e. state j (has_number (take k numbers) j || (e || false))) is ∙ ap (state j) (or_true (has_number (take k numbers) j)))
          by false other =
              get_or-set_other now n j b no_state (λ same. true≢false (sym (eq-eqb n j (sym same)) ∙ other))
              ∙ before j below
              ∙ sym (ap (λ e. state j (has_number (take k numbers) j || (e || false))) other ∙ ap (state j) (or_false (has_number (take k numbers) j)))
