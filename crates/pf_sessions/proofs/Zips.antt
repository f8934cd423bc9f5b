-- Lists whose elements are related one to one.
use Rattle.std.proofs.Common.{◌≡◌, ◌∙◌, ℕ, zero, suc, ◌+◌, ◌<◌, List, [], ◌∷◌, ◌++◌, add-one, ap, arith, drop, get_or, length, refl, sym, take}
use Rattle.std.proofs.lemmas.List.Elements.{All-cons, All-head, All-tail}
use Rattle.std.specs.List.{AllZip, range_with_len}
use Rattle.std.specs.Prelude.{All, Err, IfOk, Ok, Result}

module _ {X Y : Type 0} where
  pub zip_long : (R : X → Y → Type 0) (xs : List X) (ys : List Y) → AllZip R xs ys → length xs ≡ length ys
  zip_long R [] [] each = refl
  zip_long R [] (y ∷ ys) each = absurd each
  zip_long R (x ∷ xs) [] each = absurd each
  zip_long R (x ∷ xs) (y ∷ ys) each = ap suc (zip_long R xs ys each.1)

  pub zip_weaker : (P Q : X → Y → Type 0) → ((x : X) (y : Y) → P x y → Q x y) → (xs : List X) (ys : List Y) → AllZip P xs ys → AllZip Q xs ys
  zip_weaker P Q weaker [] [] each = tt
  zip_weaker P Q weaker [] (y ∷ ys) each = absurd each
  zip_weaker P Q weaker (x ∷ xs) [] each = absurd each
  zip_weaker P Q weaker (x ∷ xs) (y ∷ ys) each = (weaker x y each.0, zip_weaker P Q weaker xs ys each.1)

  pub zip_push : (R : X → Y → Type 0) (xs : List X) (ys : List Y) (x : X) (y : Y) → AllZip R xs ys → R x y → AllZip R (xs ++ x ∷ []) (ys ++ y ∷ [])
  zip_push R [] [] x y each last = (last, tt)
  zip_push R [] (v ∷ ys) x y each last = absurd each
  zip_push R (u ∷ xs) [] x y each last = absurd each
  zip_push R (u ∷ xs) (v ∷ ys) x y each last = (each.0, zip_push R xs ys x y each.1 last)

  pub zip_turned : (R : X → Y → Type 0) (xs : List X) (ys : List Y) → AllZip R xs ys → AllZip (λ y x. R x y) ys xs
  zip_turned R [] [] each = tt
  zip_turned R [] (y ∷ ys) each = absurd each
  zip_turned R (x ∷ xs) [] each = absurd each
  zip_turned R (x ∷ xs) (y ∷ ys) each = (each.0, zip_turned R xs ys each.1)

  -- what holds of each second element
  pub zip_all : (R : X → Y → Type 0) (P : Y → Type 0) → ((x : X) (y : Y) → R x y → P y) → (xs : List X) (ys : List Y) → AllZip R xs ys → All P ys
  zip_all R P gives [] [] each = λ k d low. absurd (omega (arith, low))
  zip_all R P gives [] (y ∷ ys) each = absurd each
  zip_all R P gives (x ∷ xs) [] each = absurd each
  zip_all R P gives (x ∷ xs) (y ∷ ys) each = All-cons P y ys (gives x y each.0) (zip_all R P gives xs ys each.1)

-- what holds of each first element, of the second ones
module _ {X Y : Type 0} (P : X → Type 0) (R : X → Y → Type 0) (Q : Y → Type 0) (goes : (x : X) (y : Y) → P x → R x y → Q y) where
  pub all_on : (xs : List X) (ys : List Y) → All P xs → AllZip R xs ys → All Q ys
  all_on [] [] all each = λ k d low. absurd (omega (arith, low))
  all_on [] (y ∷ ys) all each = absurd each
  all_on (x ∷ xs) [] all each = absurd each
  all_on (x ∷ xs) (y ∷ ys) all each = All-cons Q y ys (goes x y (All-head P x xs all) each.0) (all_on xs ys (All-tail P x xs all) each.1)

-- both sides go on to others
module _ {X Y U V : Type 0} (P : X → Y → Type 0) (Q : X → U → Type 0) (R : Y → V → Type 0) (S : U → V → Type 0)
    (goes : (x : X) (y : Y) (u : U) (v : V) → P x y → Q x u → R y v → S u v) where
  pub zip_on : (xs : List X) (ys : List Y) (us : List U) (vs : List V) → AllZip P xs ys → AllZip Q xs us → AllZip R ys vs → AllZip S us vs
  zip_on [] [] [] [] p q r = tt
  zip_on [] [] [] (v ∷ vs) p q r = absurd r
  zip_on [] [] (u ∷ us) vs p q r = absurd q
  zip_on [] (y ∷ ys) us vs p q r = absurd p
  zip_on (x ∷ xs) [] us vs p q r = absurd p
  zip_on (x ∷ xs) (y ∷ ys) [] vs p q r = absurd q
  zip_on (x ∷ xs) (y ∷ ys) (u ∷ us) [] p q r = absurd r
  zip_on (x ∷ xs) (y ∷ ys) (u ∷ us) (v ∷ vs) p q r = (goes x y u v p.0 q.0 r.0, zip_on xs ys us vs p.1 q.1 r.1)

-- the same, row by row
module _ {X Y U V : Type 0} (P : X → Y → Type 0) (Q : X → U → Type 0) (R : Y → V → Type 0) (S : U → V → Type 0)
    (goes : (x : X) (y : Y) (u : U) (v : V) → P x y → Q x u → R y v → S u v) where
  pub rows_on : (xs : List (List X)) (ys : List (List Y)) (us : List (List U)) (vs : List (List V)) → AllZip (AllZip P) xs ys → AllZip (AllZip Q) xs us
      → AllZip (AllZip R) ys vs → AllZip (AllZip S) us vs
  rows_on xs ys us vs p q r =
      zip_on (AllZip P) (AllZip Q) (AllZip R) (AllZip S) (λ x y u v a b c. zip_on P Q R S goes x y u v a b c) xs ys us vs p q r

module _ {X Y : Type 0} (P Q : X → Y → Type 0) where
  pub rows_weaker : ((x : X) (y : Y) → P x y → Q x y) → (xs : List (List X)) (ys : List (List Y)) → AllZip (AllZip P) xs ys → AllZip (AllZip Q) xs ys
  rows_weaker weaker xs ys each = zip_weaker (AllZip P) (AllZip Q) (λ x y a. zip_weaker P Q weaker x y a) xs ys each

-- numbers in a row, one more
pub range_more : (first n : ℕ) → range_with_len first (n + 1) ≡ range_with_len first n ++ (first + n) ∷ []
range_more first zero = ap (λ k. k ∷ []) (omega arith)
range_more first (suc n) =
    let next : (first + 1) + n ≡ first + suc n = omega arith in
    rw (add-one (suc n)) (ap (λ l. first ∷ l) (sym (ap (range_with_len (first + 1)) (add-one n)) ∙ range_more (first + 1) n ∙ ap (λ k. range_with_len (first + 1) n ++ k ∷ []) next))

-- a list whose first elements were taken off one by one
module _ {X : Type 0} where
  pub taken_off : (xs : List X) (k : ℕ) (rest : List X) (x : X) → drop k xs ≡ rest → 0 < length rest → x ≡ get_or rest 0 x
      → (take (k + 1) xs ≡ take k xs ++ x ∷ []) × (drop (k + 1) xs ≡ drop 1 rest)
  taken_off [] zero rest x left some first = absurd (omega (arith, ap length left, some))
  taken_off [] (suc k) rest x left some first = absurd (omega (arith, ap length left, some))
  taken_off (y ∷ ys) zero rest x left some first = (ap (λ z. z ∷ []) (ap (λ l. get_or l 0 x) left ∙ sym first), ap (drop 1) left)
  taken_off (y ∷ ys) (suc k) rest x left some first =
      let next = taken_off ys k rest x left some first in
      rw (add-one (suc k)) (ap (λ l. y ∷ l) (ap (λ n. take n ys) (sym (add-one k)) ∙ next.0), ap (λ n. drop n ys) (sym (add-one k)) ∙ next.1)

-- a list whose first element was removed
module _ {X : Type 0} where
  pub first_removed : (xs rest : List X) (x : X) → 0 < length xs → x ≡ get_or xs 0 x → rest ≡ drop 1 xs → xs ≡ x ∷ rest
  first_removed [] rest x some first left = absurd (omega (arith, some))
  first_removed (y ∷ ys) rest x some first left = ap (λ z. z ∷ ys) (sym first) ∙ ap (λ l. x ∷ l) (sym left)

-- ---- nothing related to nothing

module _ {X Y : Type 0} where
  pub zip_none : (P Q : X → Y → Type 0) (xs : List X) (ys : List Y) → length ys ≡ 0 → AllZip P xs ys → AllZip Q xs ys
  zip_none P Q [] [] none each = tt
  zip_none P Q [] (y ∷ ys) none each = absurd each
  zip_none P Q (x ∷ xs) [] none each = absurd each
  zip_none P Q (x ∷ xs) (y ∷ ys) none each = absurd (omega (arith, none))

  pub itself_none : (P : X → Y → Type 0) (Q : X → X → Type 0) (xs : List X) (ys : List Y) → length ys ≡ 0 → AllZip P xs ys → AllZip Q xs xs
  itself_none P Q [] [] none each = tt
  itself_none P Q [] (y ∷ ys) none each = absurd each
  itself_none P Q (x ∷ xs) [] none each = absurd each
  itself_none P Q (x ∷ xs) (y ∷ ys) none each = absurd (omega (arith, none))

-- three facts on the value of a result
pub ok_three : {A E : Type 0} (P Q R S : A → Type 0) → ((x : A) → P x → Q x → R x → S x) → (r : Result A E) → IfOk r P → IfOk r Q → IfOk r R → IfOk r S
ok_three P Q R S goes (Ok x) p q is = goes x p q is
ok_three P Q R S goes (Err e) p q is = tt
