-- What workers have of islands that are dealt to them in turn.
use Rattle.std.proofs.Common.{◌≡◌, ◌∙◌, ℕ, suc, ◌+◌, ◌<◌, ◌==◌, ◌%◌, Bool, true, false, List, [], ◌∷◌, ◌++◌, length, map, set, get_or, refl, sym, ap, ap₂, subst, arith, ◌≢◌, drop, take, ◌≤◌}
use Rattle.std.proofs.lemmas.Bool.{eq-eqb, eqb-true, ne_eqb, true≢false}
use Rattle.std.proofs.lemmas.List.{append_assoc, drop_more, get_or-set_other, get_or-set_same, length-append, length-map, length-set, map-append, take-append-drop, take_more}
use Rattle.std.proofs.Math.ListN.{get_or-map}
use Rattle.std.proofs.Math.Seq.{drop-append_seam, get_or-append_seam, take-append_seam}
use Rattle.std.specs.Prelude.{All, if◌then◌else◌}
use Rattle.pf_pool.proofs.Lists.{all_more, default_same}
use Rattle.pf_workers.specs.Dealing.{share, AreSharesFrom}

module _ {X : Type 0} where
  -- the first element is the worker's
  pub share_own : (n w k : ℕ) (x : X) (xs : List X) → k % n ≡ w → share n w k (x ∷ xs) ≡ share n w (k + 1) xs ++ x ∷ []
  unfolding share
  share_own n w k x xs own = ap (λ b. if b then share n w (k + 1) xs ++ x ∷ [] else share n w (k + 1) xs) (eq-eqb (k % n) w own)

  -- the first element is another worker's
  pub share_other : (n w k : ℕ) (x : X) (xs : List X) → k % n ≢ w → share n w k (x ∷ xs) ≡ share n w (k + 1) xs
  unfolding share
  share_other n w k x xs other = ap (λ b. if b then share n w (k + 1) xs ++ x ∷ [] else share n w (k + 1) xs) (ne_eqb (k % n) w other)

  -- one more is dealt
  pub dealt_more : (k who : ℕ) (x : X) (xs stack : List X) (stacks : List (List X)) → k % length stacks ≡ who → who < length stacks
      → AreSharesFrom (k + 1) xs stacks → stack ≡ get_or stacks who [] ++ x ∷ []
      → AreSharesFrom k (x ∷ xs) (set stacks who stack)
  dealt_more k who x xs stack stacks turn within shares stack_is w low =
      let n = length stacks in
      let same : length (set stacks who stack) ≡ n = length-set stacks who stack in
      let below : w < n = omega (arith, low, same) in
      subst (λ m. get_or (set stacks who stack) w [] ≡ share m w k (x ∷ xs)) (sym same)
      (by (who == w) refl below)
    where
      by : (b : Bool) → (who == w) ≡ b → w < length stacks → get_or (set stacks who stack) w [] ≡ share (length stacks) w k (x ∷ xs)
      by true is below =
          let own : who ≡ w = eqb-true who w is in
          subst (λ v. get_or (set stacks who stack) v [] ≡ share (length stacks) v k (x ∷ xs)) own
          (get_or-set_same stacks who stack [] within ∙ stack_is ∙ ap (λ p. p ++ x ∷ []) (shares who within)
          ∙ sym (share_own (length stacks) who k x xs turn))
      by false is below =
          let other : who ≢ w = λ same. absurd (true≢false (sym (eq-eqb who w same) ∙ is)) in
          get_or-set_other stacks who w stack [] (λ same. other (sym same)) ∙ shares w below
          ∙ sym (share_other (length stacks) w k x xs (λ same. other (sym turn ∙ same)))

  -- lists that differ in front of their last elements, or in these, differ
  last_same : (xs ys : List X) (x y : X) → xs ++ x ∷ [] ≡ ys ++ y ∷ [] → (xs ≡ ys) × (x ≡ y)
  last_same xs ys x y same =
      let long : length xs ≡ length ys = omega (arith, ap length same, length-append xs (x ∷ []), length-append ys (y ∷ [])) in (
        sym (take-append_seam xs (x ∷ [])) ∙ ap₂ take long same ∙ take-append_seam ys (y ∷ []),
        sym (get_or-append_seam xs x [] x) ∙ ap₂ (λ l i. get_or l i x) same long ∙ get_or-append_seam ys y [] x,
      )

  -- the first of those that are left is the last in the stack of the worker whose turn it is
  pub taken_next : (k who : ℕ) (x y : X) (xs stack : List X) (stacks : List (List X)) → k % length stacks ≡ who → who < length stacks
      → AreSharesFrom k (x ∷ xs) stacks → get_or stacks who [] ≡ stack ++ y ∷ []
      → (y ≡ x) × AreSharesFrom (k + 1) xs (set stacks who stack)
  taken_next k who x y xs stack stacks turn within shares stack_is =
      let n = length stacks in
      let both = last_same stack (share n who (k + 1) xs) y x
      (sym stack_is ∙ shares who within ∙ share_own n who k x xs turn) in (
        both.1,
        λ w low.
            let same : length (set stacks who stack) ≡ n = length-set stacks who stack in
            let below : w < n = omega (arith, low, same) in
            subst (λ m. get_or (set stacks who stack) w [] ≡ share m w (k + 1) xs) (sym same) (by w both.0 (who == w) refl below),
      )
    where
      by : (w : ℕ) → stack ≡ share (length stacks) who (k + 1) xs → (b : Bool) → (who == w) ≡ b → w < length stacks
          → get_or (set stacks who stack) w [] ≡ share (length stacks) w (k + 1) xs
      by w own true is below =
          subst (λ v. get_or (set stacks who stack) v [] ≡ share (length stacks) v (k + 1) xs) (eqb-true who w is)
          (get_or-set_same stacks who stack [] within ∙ own)
      by w own false is below =
          let other : who ≢ w = λ same. absurd (true≢false (sym (eq-eqb who w same) ∙ is)) in
          get_or-set_other stacks who w stack [] (λ same. other (sym same)) ∙ shares w below
          ∙ share_other (length stacks) w k x xs (λ same. other (sym turn ∙ same))

  -- the stack of the worker whose turn it is has an island, if one is left
  pub some_left : (k who : ℕ) (x : X) (xs : List X) (stacks : List (List X)) → k % length stacks ≡ who → who < length stacks
      → AreSharesFrom k (x ∷ xs) stacks → get_or stacks who [] ≢ []
  some_left k who x xs stacks turn within shares none =
      let rest = share (length stacks) who (k + 1) xs in
      let long = ap length (sym none ∙ shares who within ∙ share_own (length stacks) who k x xs turn) in
      absurd (omega (arith, long, length-append rest (x ∷ [])))

  -- stacks without islands are the shares of none
  pub shares_of_none : (k : ℕ) (stacks : List (List X)) → All (λ stack. stack ≡ []) stacks → AreSharesFrom k [] stacks
  unfolding share
  shares_of_none k stacks empty w low = empty w [] low

  pub all_empty : (k : ℕ) (stacks : List (List X)) → AreSharesFrom k [] stacks → All (λ stack. stack ≡ []) stacks
  unfolding share
  all_empty k stacks shares w d low = default_same stacks w d [] low ∙ shares w low

  -- ---- the loops

  -- the stack of the worker whose turn it is has an island, if one is left of all
  pub still_some : (all : List X) (k who : ℕ) (stacks : List (List X)) → k < length all → k % length stacks ≡ who → who < length stacks
      → AreSharesFrom k (drop k all) stacks → get_or stacks who [] ≢ []
  still_some [] k who stacks low turn within shares = absurd (omega (arith, low))
  still_some (x ∷ xs) k who stacks low turn within shares =
      some_left k who (get_or (x ∷ xs) k x) (drop (k + 1) (x ∷ xs)) stacks turn within
      (subst (λ l. AreSharesFrom k l stacks) (drop_more (x ∷ xs) k x low) shares)

  -- the last of those that are left is dealt
  pub deal_step : (all now after : List X) (x : X) (who : ℕ) (stack : List X) (stacks : List (List X))
      → now ≡ take (length now) all → length now ≤ length all → now ≡ after ++ x ∷ []
      → AreSharesFrom (length now) (drop (length now) all) stacks
      → length after % length stacks ≡ who → who < length stacks → stack ≡ get_or stacks who [] ++ x ∷ []
      → (after ≡ take (length after) all) × AreSharesFrom (length after) (drop (length after) all) (set stacks who stack)
  deal_step all now after x who stack stacks now_is few split shares turn within stack_is =
      let m = length after in
      let long : length now ≡ m + 1 = omega (arith, ap length split, length-append after (x ∷ [])) in
      let whole : all ≡ after ++ x ∷ drop (m + 1) all =
      sym (take-append-drop (m + 1) all) ∙ ap (λ l. l ++ drop (m + 1) all) (sym (ap (λ i. take i all) long) ∙ sym now_is ∙ split)
      ∙ append_assoc after (x ∷ []) (drop (m + 1) all) in
      let rest : drop m all ≡ x ∷ drop (m + 1) all =
      ap (drop m) whole ∙ drop-append_seam after (x ∷ drop (m + 1) all) in (
        sym (ap (take m) whole ∙ take-append_seam after (x ∷ drop (m + 1) all)),
        subst (λ l. AreSharesFrom m l (set stacks who stack)) (sym rest)
            (dealt_more m who x (drop (m + 1) all) stack stacks turn within (subst (λ i. AreSharesFrom i (drop i all) stacks) long shares) stack_is),
      )

  -- the first of those that are left is put behind those before
  pub gather_step : (all before : List X) (k who : ℕ) (x : X) (stack : List X) (stacks : List (List X)) → k < length all
      → k % length stacks ≡ who → who < length stacks → AreSharesFrom k (drop k all) stacks → get_or stacks who [] ≡ stack ++ x ∷ []
      → ((before ++ take k all) ++ x ∷ [] ≡ before ++ take (k + 1) all) × AreSharesFrom (k + 1) (drop (k + 1) all) (set stacks who stack)
  gather_step all before k who x stack stacks low turn within shares stack_is =
      let next = taken_next k who (get_or all k x) x (drop (k + 1) all) stack stacks turn within
      (subst (λ l. AreSharesFrom k l stacks) (drop_more all k x low) shares) stack_is in (
        append_assoc before (take k all) (x ∷ [])
            ∙ ap (λ l. before ++ l) (ap (λ y. take k all ++ y ∷ []) next.0 ∙ sym (take_more all k x low)),
        next.1,
      )

module _ {X Y : Type 0} (f : X → Y) where
  mapped_more : (n w k : ℕ) (x : X) (xs : List X) → share n w (k + 1) (map f xs) ≡ map f (share n w (k + 1) xs)
      → (b : Bool) → (k % n == w) ≡ b → share n w k (f x ∷ map f xs) ≡ map f (share n w k (x ∷ xs))
  mapped_more n w k x xs rest true is =
      let own = eqb-true (k % n) w is in
      share_own n w k (f x) (map f xs) own ∙ ap (λ ys. ys ++ f x ∷ []) rest
      ∙ sym (map-append f (share n w (k + 1) xs) (x ∷ [])) ∙ ap (map f) (sym (share_own n w k x xs own))
  mapped_more n w k x xs rest false is =
      let other : k % n ≢ w = λ same. true≢false (sym (eq-eqb (k % n) w same) ∙ is) in
      share_other n w k (f x) (map f xs) other ∙ rest ∙ ap (map f) (sym (share_other n w k x xs other))

  pub share-map : (n w k : ℕ) (xs : List X) → share n w k (map f xs) ≡ map f (share n w k xs)
  unfolding share
  share-map n w k [] = refl
  share-map n w k (x ∷ xs) = mapped_more n w k x xs (share-map n w (k + 1) xs) (k % n == w) refl

  -- what all workers make of their shares are the shares of what is made of all
  pub shares_mapped : (k : ℕ) (xs : List X) (stacks : List (List X)) → AreSharesFrom k xs stacks
      → AreSharesFrom k (map f xs) (map (map f) stacks)
  shares_mapped k xs stacks shares w low =
      let same = length-map stacks (map f) in
      let below : w < length stacks = omega (arith, low, same) in
      subst (λ m. get_or (map (map f) stacks) w [] ≡ share m w k (map f xs)) (sym same)
      (get_or-map (map f) stacks w [] ∙ ap (map f) (shares w below) ∙ sym (share-map (length stacks) w k xs))

  pub shares_after : (xs : List X) (stacks : List (List X)) (after : List (List Y)) → AreSharesFrom 0 xs stacks → after ≡ map (map f) stacks
      → AreSharesFrom 0 (map f xs) after
  shares_after xs stacks after shares same = subst (AreSharesFrom 0 (map f xs)) (sym same) (shares_mapped 0 xs stacks shares)

module _ {X : Type 0} (P : X → Type 0) where
  all_of_more : (n w k : ℕ) (x : X) (xs : List X) → P x → All P (share n w (k + 1) xs)
      → (b : Bool) → (k % n == w) ≡ b → All P (share n w k (x ∷ xs))
  all_of_more n w k x xs p rest true is =
      subst (All P) (sym (share_own n w k x xs (eqb-true (k % n) w is))) (all_more P (share n w (k + 1) xs) x rest p)
  all_of_more n w k x xs p rest false is =
      subst (All P) (sym (share_other n w k x xs (λ same. true≢false (sym (eq-eqb (k % n) w same) ∙ is)))) rest

  share_all : (n w k : ℕ) (xs : List X) → All P xs → All P (share n w k xs)
  unfolding share
  share_all n w k [] ps = λ i d low. absurd (omega (arith, low))
  share_all n w k (x ∷ xs) ps =
      all_of_more n w k x xs (ps 0 x (omega arith)) (share_all n w (k + 1) xs (λ j e below. ps (suc j) e (omega (arith, below))))
      (k % n == w) refl

  -- what holds of all islands holds of each worker's
  pub shares_all : (k : ℕ) (xs : List X) (stacks : List (List X)) → All P xs → AreSharesFrom k xs stacks → All (All P) stacks
  shares_all k xs stacks ps shares w d low =
      subst (All P) (sym (default_same stacks w d [] low ∙ shares w low)) (share_all (length stacks) w k xs ps)
