-- Loops over the awake bodies alone: what the other bodies change nothing of.
use borrow.Author.Count.{below_more}
use Rattle.std.proofs.Common.{◌≡◌, ◌∙◌, ℕ, ◌+◌, ◌<◌, ◌==◌, ◌&&◌, Bool, true, false, cond, List, [], ◌∷◌, ◌++◌, length, filter, map, set, take, get_or, refl, sym, ap, ap₂, arith}
use Rattle.std.proofs.lemmas.Bool.{true≢false}
use Rattle.std.proofs.lemmas.List.{append-nil, get_or-set_other, get_or-set_same}
use Rattle.std.specs.List.{range_with_len}
use Rattle.pf_shapes.specs.Body.{BodyState}
use Rattle.pf_islands.specs.Dealing.{island_place}
use Rattle.pf_islands.specs.Rows.{is_awake_at}
use Rattle.pf_islands.specs.Split.{AreWoken, Island, active_labels, is_active_label, no_island}
use Rattle.pf_islands.proofs.Filled.{HasPlace, dealt_same, first_part, island_place_more, made_more, placed_same}
use Rattle.pf_islands.proofs.Members.{range_more}

-- one body more
pub numbers_more : (bodies : List BodyState) (k : ℕ) (e : Bool) → is_awake_at bodies k ≡ e
    → filter (is_awake_at bodies) (range_with_len 0 (k + 1))
    ≡ filter (is_awake_at bodies) (range_with_len 0 k) ++ cond e (k ∷ []) []
numbers_more bodies k e is =
    let from_zero : 0 + k ≡ k = omega arith in
    range_more (is_awake_at bodies) 0 k
    ∙ ap₂ (λ t m. filter (is_awake_at bodies) (range_with_len 0 k) ++ cond t (m ∷ []) [])
    (ap (is_awake_at bodies) from_zero ∙ is) from_zero

-- ---- empty islands

module _ (labels : List ℕ) (bodies : List BodyState) where
  -- of the first k labels those of groups that are simulated have islands, at the places that are noted
  pub record AreEmptied (islands : List Island) (count : ℕ) (island_places : List ℕ) (k : ℕ) : Type 0 where
    pub made : take count islands
        ≡ map (λ (label : ℕ). no_island) (filter (is_active_label labels bodies) (range_with_len 0 k))
    pub number : count ≡ island_place labels bodies k
    pub noted : (i : ℕ) → i < k → is_active_label labels bodies i ≡ true → get_or island_places i 0 ≡ island_place labels bodies i

  pub none_emptied : (islands : List Island) (island_places : List ℕ) → AreEmptied islands 0 island_places 0
  none_emptied islands island_places = record {
    made = refl;
    number = refl;
    noted = λ i below. absurd (omega (arith, below));
  }

  -- the label of a group that is simulated
  pub emptied_more : (islands after : List Island) (count : ℕ) (island_places : List ℕ) (k : ℕ) → k < length island_places
      → is_active_label labels bodies k ≡ true → take (count + 1) after ≡ take count islands ++ no_island ∷ []
      → AreEmptied islands count island_places k → AreEmptied after (count + 1) (set island_places k count) (k + 1)
  emptied_more islands after count island_places k within active cleared before =
      let more = island_place_more labels bodies k true active in
      let number = before.number in
      record {
        made = cleared ∙ ap (λ xs. xs ++ no_island ∷ []) before.made ∙ sym (made_more labels bodies k true active);
        number = omega (arith, number, more);
        noted = below_more
            (λ i. is_active_label labels bodies i ≡ true → get_or (set island_places k count) i 0 ≡ island_place labels bodies i) k
            (λ i below own. get_or-set_other island_places k i count 0 (λ same. omega (arith, same, below)) ∙ before.noted i below own)
            (λ own. get_or-set_same island_places k count 0 within ∙ before.number);
      }

  -- another label
  pub emptied_same : (islands : List Island) (count : ℕ) (island_places : List ℕ) (k : ℕ)
      → is_active_label labels bodies k ≡ false → AreEmptied islands count island_places k → AreEmptied islands count island_places (k + 1)
  emptied_same islands count island_places k other before =
      let more = island_place_more labels bodies k false other in
      let number = before.number in
      record {
        made = before.made ∙ sym (append-nil _) ∙ sym (made_more labels bodies k false other);
        number = omega (arith, number, more);
        noted = below_more (λ i. is_active_label labels bodies i ≡ true → get_or island_places i 0 ≡ island_place labels bodies i) k
            before.noted (λ own. absurd (true≢false (sym own ∙ other)));
      }

  and_false : (t : Bool) → (t && false) ≡ false
  and_false true = refl
  and_false false = refl

  -- a sleeping body is the label of none that is simulated
  pub asleep_inactive : (k : ℕ) → is_awake_at bodies k ≡ false → is_active_label labels bodies k ≡ false
  asleep_inactive k asleep = ap (λ t. (get_or labels k 0 == k) && t) asleep ∙ and_false (get_or labels k 0 == k)

  -- an awake body is a label where it is its own
  pub awake_active : (k : ℕ) (e : Bool) → is_awake_at bodies k ≡ true → (get_or labels k 0 == k) ≡ e
      → is_active_label labels bodies k ≡ e
  awake_active k e awake own = ap₂ (λ s t. s && t) own awake ∙ and_true e
    where
      and_true : (t : Bool) → (t && true) ≡ t
      and_true true = refl
      and_true false = refl

  -- ---- bodies

  -- of the first k bodies those that are awake are in their islands, and have places there
  pub record AreDealt (islands : List Island) (places : List ℕ) (k : ℕ) : Type 0 where
    pub parts : islands ≡ map (first_part labels bodies k) (active_labels labels bodies)
    pub noted : (i : ℕ) → i < k → HasPlace labels bodies places i

  -- a sleeping body
  pub dealt_asleep : (islands : List Island) (places : List ℕ) (k : ℕ) → k < length labels → AreWoken labels bodies
      → is_awake_at bodies k ≡ false → AreDealt islands places k → AreDealt islands places (k + 1)
  dealt_asleep islands places k within woken_bodies asleep before = record {
    parts = dealt_same labels bodies k islands within woken_bodies asleep before.parts;
    noted = placed_same labels bodies k places asleep before.noted;
  }
