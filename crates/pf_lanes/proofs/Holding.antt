-- Four doubles side by side that hold fractions of whole numbers.
use Rattle.std.proofs.Common.{◌≡◌, ℕ, ℤ, pos, neg_ℤ, ◌+ℤ◌, ◌-ℤ◌, List, [], ◌∷◌, slice_index_or, T, w64, to_z, of_z, refl, sym, ap, ◌∙◌, subst, arith}
use Rattle.std.proofs.lemmas.Int.{ints}
use Rattle.pf_lanes.specs.Lanes.{Lane, First, Second, Third, Fourth, Lanes, number_in}
use Rattle.pf_lanes.specs.Doubles.{double_of, doubles_of, numerator, numerators, FitsDouble, IsExact, IsWhole}
use Rattle.pf_lanes.proofs.ByLane.{zip_lanes, map_lanes, four_of, rounded_product, number_in-zip_lanes, number_in-map_lanes, number_in-four_of}
use Rattle.pf_lanes.proofs.Sums.{IsScale, numerator-double_of, whole_scale, add_doubles, sub_doubles}
use Rattle.pf_lanes.proofs.Casts.{int_double, double_back}
use Rattle.pf_lanes.proofs.Numbers.{FitTogether, HaveSmallProduct, sum_fits, difference_fits, product_fits}
use Rattle.pf_lanes.proofs.Products.{great, scaled_double, zero_is, product_double, product-small}
use lib.Ieee.{Float, nan, binary64, add, sub, mul, of_int, of_bits, in_signed, to_signed}
use lib.Lanes.{zip2}

-- 2^-24
abbrev pub unit : Float
unit = of_bits binary64 4499096027743125504

-- an integer of the program as a double
abbrev pub machine_double : ℤ → Float
machine_double z = of_int binary64 (to_z w64 (of_z w64 z))

-- the same double in each lane
abbrev pub four : Float → List Float
four x = x ∷ x ∷ x ∷ x ∷ []

-- each number is one that a double holds exactly
abbrev pub EachFits : Lanes → Type 0
EachFits v = (k : Lane) → FitsDouble (number_in k v)

-- the doubles of these fractions
pub record Holds (c : ℕ) (xs : List Float) (v : Lanes) : Type 0 where
  pub are : xs ≡ doubles_of c v
  pub whole : EachFits v

pub holds_view : (c : ℕ) (xs : List Float) (v : Lanes) → IsExact c xs → numerators c xs ≡ v → Holds c xs v
holds_view c xs v h e = record { are = sym h.doubles ∙ ap (doubles_of c) e; whole = subst EachFits e h.whole }

module _ (c : ℕ) (scale : IsScale c) where
  numerators-doubles_of : (v : Lanes) → EachFits v → numerators c (doubles_of c v) ≡ v
  numerators-doubles_of v h = λ i. record {
    first = numerator-double_of c scale v.first (h First) i;
    second = numerator-double_of c scale v.second (h Second) i;
    third = numerator-double_of c scale v.third (h Third) i;
    fourth = numerator-double_of c scale v.fourth (h Fourth) i;
  }

  pub view_is : (xs : List Float) (v : Lanes) → Holds c xs v → numerators c xs ≡ v
  view_is xs v h = ap (numerators c) h.are ∙ numerators-doubles_of v h.whole

  pub exact_is : (xs : List Float) (v : Lanes) → Holds c xs v → IsExact c xs
  exact_is xs v h =
      let e = view_is xs v h in
      record { doubles = ap (doubles_of c) e ∙ sym h.are; whole = subst EachFits (sym e) h.whole }

-- ---- one number

module _ (x : Float) (z : ℤ) (e : x ≡ double_of 1 z) (h : FitsDouble z) where
  pub exact_view_is : numerator 1 x ≡ z
  exact_view_is = ap (numerator 1) e ∙ numerator-double_of 1 whole_scale z h

  pub is_whole : IsWhole x
  is_whole = record { double = ap (double_of 1) exact_view_is ∙ sym e; whole = subst FitsDouble (sym exact_view_is) h }

-- a double that is such a number is that of its view
pub exact_double : (x : Float) (z : ℤ) → IsWhole x → numerator 1 x ≡ z → (x ≡ double_of 1 z) × FitsDouble z
exact_double x z h e = (sym h.double ∙ ap (double_of 1) e, subst FitsDouble e h.whole)

-- and an integer of the program is
pub exact_back : (x : Float) (z : ℤ) → IsWhole x → numerator 1 x ≡ z → T (in_signed binary64 63 x) × (to_z w64 (of_z w64 (to_signed 63 x)) ≡ z)
exact_back x z h e =
    let is = exact_double x z h e in
    subst (λ (y : Float). T (in_signed binary64 63 y) × (to_z w64 (of_z w64 (to_signed 63 y)) ≡ z)) (sym is.0) (double_back z is.1)

-- each of four doubles
abbrev part : List Float → ℕ → Float
part xs i = slice_index_or xs i nan

pub parts_are_whole : (xs : List Float) → IsExact 1 xs → IsWhole (part xs 0) × IsWhole (part xs 1) × IsWhole (part xs 2) × IsWhole (part xs 3)
parts_are_whole xs h = (
  record { double = ap (λ (ys : List Float). part ys 0) h.doubles; whole = h.whole First },
  record { double = ap (λ (ys : List Float). part ys 1) h.doubles; whole = h.whole Second },
  record { double = ap (λ (ys : List Float). part ys 2) h.doubles; whole = h.whole Third },
  record { double = ap (λ (ys : List Float). part ys 3) h.doubles; whole = h.whole Fourth },
)

-- ---- four numbers

-- four doubles that are those of these fractions
pub four_hold : (c : ℕ) (v : Lanes) (x y z w : Float) → x ≡ double_of c v.first → y ≡ double_of c v.second → z ≡ double_of c v.third → w ≡ double_of c v.fourth → EachFits v
    → Holds c (x ∷ y ∷ z ∷ w ∷ []) v
four_hold c v x y z w p q r s h = record { are = λ i. p i ∷ q i ∷ r i ∷ s i ∷ []; whole = h }

-- ---- numbers in

-- one double in each lane
pub same_hold : (z : ℤ) (x : Float) → x ≡ double_of 1 z → FitsDouble z → Holds 1 (four x) (four_of z)
same_hold z x e h = record { are = ap four e; whole = λ k. subst FitsDouble (sym (number_in-four_of z k)) h }

pub of_holds : (v : Lanes) → EachFits v
    → Holds 1 (machine_double v.first ∷ machine_double v.second ∷ machine_double v.third ∷ machine_double v.fourth ∷ []) v
of_holds v h = four_hold 1 v _ _ _ _ (int_double v.first (h First)) (int_double v.second (h Second)) (int_double v.third (h Third)) (int_double v.fourth (h Fourth)) h

scaled : (z : ℤ) → FitsDouble z → mul binary64 (machine_double z) unit ≡ double_of 16777216 z
scaled z h = ap (λ (x : Float). mul binary64 x unit) (int_double z h) ∙ scaled_double z h

pub scaled_hold : (v : Lanes) → EachFits v
    → Holds 16777216 (mul binary64 (machine_double v.first) unit ∷ mul binary64 (machine_double v.second) unit ∷ mul binary64 (machine_double v.third) unit ∷ mul binary64 (machine_double v.fourth) unit ∷ []) v
scaled_hold v h = four_hold 16777216 v _ _ _ _ (scaled v.first (h First)) (scaled v.second (h Second)) (scaled v.third (h Third)) (scaled v.fourth (h Fourth)) h

-- doubles that hold whole numbers, as factors
scaled_whole : (z : ℤ) (x : Float) → IsWhole x → numerator 1 x ≡ z → mul binary64 x unit ≡ double_of 16777216 z
scaled_whole z x h e =
    let is = exact_double x z h e in ap (λ (y : Float). mul binary64 y unit) is.0 ∙ scaled_double z is.1

pub scaled_wholes : (v : Lanes) (x y z w : Float) → IsWhole x → IsWhole y → IsWhole z → IsWhole w
    → numerator 1 x ≡ v.first → numerator 1 y ≡ v.second → numerator 1 z ≡ v.third → numerator 1 w ≡ v.fourth
    → Holds 16777216 (mul binary64 x unit ∷ mul binary64 y unit ∷ mul binary64 z unit ∷ mul binary64 w unit ∷ []) v
scaled_wholes v x y z w hx hy hz hw ex ey ez ew =
    four_hold 16777216 v _ _ _ _ (scaled_whole v.first x hx ex) (scaled_whole v.second y hy ey) (scaled_whole v.third z hz ez) (scaled_whole v.fourth w hw ew)
    fits
  where
    fits : EachFits v
    fits First = (exact_double x v.first hx ex).1
    fits Second = (exact_double y v.second hy ey).1
    fits Third = (exact_double z v.third hz ez).1
    fits Fourth = (exact_double w v.fourth hw ew).1

-- ---- calculations

-- g of two whole numbers is one that a double holds exactly, and f of their doubles is its double
abbrev pub Calculates : (Float → Float → Float) → (ℤ → ℤ → ℤ) → ℕ → ℤ → ℤ → Type 0
Calculates f g d x y = FitsDouble (g x y) × (f (double_of 1 x) (double_of d y) ≡ double_of 1 (g x y))

-- the doubles of two lists, calculated lane by lane
pub zip_holds : (f : Float → Float → Float) (g : ℤ → ℤ → ℤ) (d : ℕ) (a b : Lanes) → ((k : Lane) → Calculates f g d (number_in k a) (number_in k b))
    → Holds 1 (zip2 f (doubles_of 1 a) (doubles_of d b)) (zip_lanes g a b)
zip_holds f g d a b h = record {
  are = λ i. (h First).1 i ∷ (h Second).1 i ∷ (h Third).1 i ∷ (h Fourth).1 i ∷ [];
  whole = λ k. subst FitsDouble (sym (number_in-zip_lanes g a b k)) (h k).0;
}

module _ (xs ys : List Float) (a b : Lanes) (ha : Holds 1 xs a) (hb : Holds 1 ys b) where
  -- a calculation or a choice of each lane
  pub calculated_hold : (f : Float → Float → Float) (g : ℤ → ℤ → ℤ) → ((k : Lane) → Calculates f g 1 (number_in k a) (number_in k b))
      → (zs : List Float) → zs ≡ zip2 f xs ys → Holds 1 zs (zip_lanes g a b)
  calculated_hold f g h zs e =
      let both = zip_holds f g 1 a b h in
      record { are = e ∙ (λ i. zip2 f (ha.are i) (hb.are i)) ∙ both.are; whole = both.whole }

  pub plus_holds : ((k : Lane) → FitTogether (number_in k a) (number_in k b)) → Holds 1 (zip2 (add binary64) xs ys) (zip_lanes (λ x y. x +ℤ y) a b)
  plus_holds h =
      calculated_hold (add binary64) (λ x y. x +ℤ y)
      (λ k. (sum_fits (number_in k a) (number_in k b) (h k), add_doubles 1 whole_scale (number_in k a) (number_in k b) (ha.whole k) (hb.whole k))) _ refl

  pub minus_holds : ((k : Lane) → FitTogether (number_in k a) (number_in k b)) → Holds 1 (zip2 (sub binary64) xs ys) (zip_lanes (λ x y. x -ℤ y) a b)
  minus_holds h =
      calculated_hold (sub binary64) (λ x y. x -ℤ y)
      (λ k. (difference_fits (number_in k a) (number_in k b) (h k), sub_doubles 1 whole_scale (number_in k a) (number_in k b) (ha.whole k) (hb.whole k))) _ refl

-- ---- the other sign

pub negated_hold : (xs : List Float) (a : Lanes) → Holds 1 xs a → Holds 1 (zip2 (sub binary64) (four (of_bits binary64 0)) xs) (map_lanes neg_ℤ a)
negated_hold xs a ha = record {
  are = (λ i. zip2 (sub binary64) (four (of_bits binary64 0)) (ha.are i))
      ∙ (λ i. negated a.first (ha.whole First) i ∷ negated a.second (ha.whole Second) i ∷ negated a.third (ha.whole Third) i ∷ negated a.fourth (ha.whole Fourth) i ∷ []);
  whole = λ k. subst FitsDouble (sym (number_in-map_lanes neg_ℤ a k)) (turned (number_in k a) (ha.whole k));
}
  where
    turned : (z : ℤ) → FitsDouble z → FitsDouble (neg_ℤ z)
    turned z h = omega (arith, ints)

    negated : (z : ℤ) → FitsDouble z → sub binary64 (of_bits binary64 0) (double_of 1 z) ≡ double_of 1 (neg_ℤ z)
    negated z h =
        let e : pos 0 -ℤ z ≡ neg_ℤ z = omega (arith, ints) in
        ap (λ (x : Float). sub binary64 x (double_of 1 z)) zero_is ∙ sub_doubles 1 whole_scale (pos 0) z (omega arith) h ∙ ap (double_of 1) e

-- ---- products

-- the product of two doubles, rounded to a whole one
abbrev times : Float → Float → Float
times x y = sub binary64 (add binary64 (mul binary64 x y) great) great

module _ (xs ys : List Float) (a b : Lanes) (ha : Holds 1 xs a) (hb : Holds 16777216 ys b) (h : (k : Lane) → HaveSmallProduct (number_in k a) (number_in k b)) where
  pub product_holds : Holds 1 (zip2 (sub binary64) (zip2 (add binary64) (zip2 (mul binary64) xs ys) (four great)) (four great)) (zip_lanes rounded_product a b)
  product_holds =
      let all = zip_holds times rounded_product 16777216 a b (λ k. let x = number_in k a in let c = number_in k b in
      let product = product_fits x c (h k) in let small = product-small x c product in let whole : FitsDouble (rounded_product x c) = omega arith in
      (whole, product_double x c (ha.whole k) (hb.whole k) product)) in
      record {
        are = (λ i. zip2 (sub binary64) (zip2 (add binary64) (zip2 (mul binary64) (ha.are i) (hb.are i)) (four great)) (four great)) ∙ all.are;
        whole = all.whole;
      }
