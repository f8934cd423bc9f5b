-- Tests of four doubles by masks.
use Rattle.std.proofs.Common.{◌≡◌, ℕ, ◌%◌, Bool, true, false, not, ◌&&◌, ◌||◌, cond, List, [], ◌∷◌, map, nat_eq, bit_and, bit_or, refl, ◌∙◌}
use lib.Ieee.{Float, lt}
use lib.Lanes.{mask_l, sel_l, top, zip2}

-- a lane's mask: all ones, or 0
abbrev pub mask : Bool → ℕ
mask b = cond b 18446744073709551615 0

and_top : (a b : Bool) → top 63 (bit_and (mask a) (mask b)) ≡ a && b
and_top true true = refl
and_top true false = refl
and_top false true = refl
and_top false false = refl

or_top : (a b : Bool) → top 63 (bit_or (mask a) (mask b)) ≡ a || b
or_top true true = refl
or_top true false = refl
or_top false true = refl
or_top false false = refl

-- one of two doubles by a mask
pub chosen : {X : Type 0} (b : Bool) (x y : X) → cond (top 63 (mask b)) x y ≡ cond b x y
chosen true x y = refl
chosen false x y = refl

-- all four lanes are set
all_set : (a b c d : Bool) → nat_eq (mask_l (a ∷ b ∷ c ∷ d ∷ []) % 18446744073709551616) 15 ≡ a && b && c && d
all_set true true true true = refl
all_set true true true false = refl
all_set true true false true = refl
all_set true true false false = refl
all_set true false true true = refl
all_set true false true false = refl
all_set true false false true = refl
all_set true false false false = refl
all_set false true true true = refl
all_set false true true false = refl
all_set false true false true = refl
all_set false true false false = refl
all_set false false true true = refl
all_set false false true false = refl
all_set false false false true = refl
all_set false false false false = refl

-- no lane is set
none_set : (a b c d : Bool) → not (not (nat_eq (mask_l (a ∷ b ∷ c ∷ d ∷ []) % 18446744073709551616) 0)) ≡ not a && not b && not c && not d
none_set true true true true = refl
none_set true true true false = refl
none_set true true false true = refl
none_set true true false false = refl
none_set true false true true = refl
none_set true false true false = refl
none_set true false false true = refl
none_set true false false false = refl
none_set false true true true = refl
none_set false true true false = refl
none_set false true false true = refl
none_set false true false false = refl
none_set false false true true = refl
none_set false false true false = refl
none_set false false false true = refl
none_set false false false false = refl

-- the masks of two tests of four lanes
pub both_pass : (a b c d a' b' c' d' : Bool) →
    nat_eq (mask_l (map (top 63) (zip2 bit_and (mask a ∷ mask b ∷ mask c ∷ mask d ∷ []) (mask a' ∷ mask b' ∷ mask c' ∷ mask d' ∷ []))) % 18446744073709551616) 15
    ≡ (a && a') && (b && b') && (c && c') && (d && d')
both_pass a b c d a' b' c' d' =
    (λ i. nat_eq (mask_l (and_top a a' i ∷ and_top b b' i ∷ and_top c c' i ∷ and_top d d' i ∷ []) % 18446744073709551616) 15)
    ∙ all_set (a && a') (b && b') (c && c') (d && d')

pub neither_passes : (a b c d a' b' c' d' : Bool) →
    not (not (nat_eq (mask_l (map (top 63) (zip2 bit_or (mask a ∷ mask b ∷ mask c ∷ mask d ∷ []) (mask a' ∷ mask b' ∷ mask c' ∷ mask d' ∷ []))) % 18446744073709551616) 0))
    ≡ not (a || a') && not (b || b') && not (c || c') && not (d || d')
neither_passes a b c d a' b' c' d' =
    (λ i. not (not (nat_eq (mask_l (or_top a a' i ∷ or_top b b' i ∷ or_top c c' i ∷ or_top d d' i ∷ []) % 18446744073709551616) 0)))
    ∙ none_set (a || a') (b || b') (c || c') (d || d')

-- one of two lists, lane by lane, by a test of the second's doubles against the first's
pub select_second : (xs ys : List Float) → sel_l (map (top 63) (zip2 (λ y x. mask (lt y x)) ys xs)) ys xs ≡ zip2 (λ x y. cond (lt y x) y x) xs ys
select_second [] [] = refl
select_second [] (y ∷ ys) = refl
select_second (x ∷ xs) [] = refl
select_second (x ∷ xs) (y ∷ ys) = λ i. chosen (lt y x) y x i ∷ select_second xs ys i

pub select_first : (xs ys : List Float) → sel_l (map (top 63) (zip2 (λ y x. mask (lt y x)) ys xs)) xs ys ≡ zip2 (λ x y. cond (lt y x) x y) xs ys
select_first [] [] = refl
select_first [] (y ∷ ys) = refl
select_first (x ∷ xs) [] = refl
select_first (x ∷ xs) (y ∷ ys) = λ i. chosen (lt y x) x y i ∷ select_first xs ys i
