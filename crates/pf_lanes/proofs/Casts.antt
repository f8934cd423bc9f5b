-- Casts between integers and the doubles that hold them.
use Rattle.std.proofs.Common.{◌≡◌, ℕ, ◌≤◌, ℤ, pos, negsuc, T, refl, sym, ap, ◌∙◌, subst, arith, w64, FitsSigned, to_z, of_z}
use Rattle.std.proofs.lemmas.Int.{ints, to_z-of_z, to_z_pos}
use Rattle.pf_lanes.specs.Doubles.{double_of, FitsDouble}
use lib.Dec.{le→leb, lt→ltb}
use lib.Ieee.{Float, binary64, of_int, in_float, in_signed, to_signed}
use lib.Ieee.Back.{positive_back, negative_back}

of_int_is : (z : ℤ) → of_int binary64 z ≡ double_of 1 z
unfolding of_int double_of
of_int_is (pos n) = refl
of_int_is (negsuc n) = refl

fits : (z : ℤ) → FitsDouble z → FitsSigned w64 z
fits z h = omega (arith, ints)

-- an integer as a double
pub int_double : (z : ℤ) → FitsDouble z → of_int binary64 (to_z w64 (of_z w64 z)) ≡ double_of 1 z
int_double z h = ap (of_int binary64) (to_z-of_z w64 z (fits z h)) ∙ of_int_is z

-- it is within the range of doubles
exact : (z : ℤ) → FitsDouble z → T (in_float binary64 z)
unfolding in_float
exact (pos n) h = le→leb n 9007199254740992 h
exact (negsuc n) h = lt→ltb n 9007199254740992 h

pub in_range : (z : ℤ) → FitsDouble z → T (in_float binary64 (to_z w64 (of_z w64 z)))
in_range z h = subst (λ (y : ℤ). T (in_float binary64 y)) (sym (to_z-of_z w64 z (fits z h))) (exact z h)

-- such a double as an integer
int_back : (z : ℤ) → FitsDouble z → T (in_signed binary64 63 (of_int binary64 z)) × (to_signed 63 (of_int binary64 z) ≡ z)
unfolding in_float
int_back (pos n) h = positive_back binary64 63 n (le→leb n 9007199254740992 h) (omega arith)
int_back (negsuc n) h = negative_back binary64 63 n (lt→ltb n 9007199254740992 h) (omega arith)

pub double_back : (z : ℤ) → FitsDouble z → T (in_signed binary64 63 (double_of 1 z)) × (to_z w64 (of_z w64 (to_signed 63 (double_of 1 z))) ≡ z)
double_back z h =
    let back = subst (λ (x : Float). T (in_signed binary64 63 x) × (to_signed 63 x ≡ z)) (of_int_is z) (int_back z h) in
    (back.0, ap (λ (y : ℤ). to_z w64 (of_z w64 y)) back.1 ∙ to_z-of_z w64 z (fits z h))

-- a limit as a double
pub limit_double : (l : ℕ) → l ≤ 9007199254740992 → of_int binary64 (to_z w64 l) ≡ double_of 1 (pos l)
limit_double l h = ap (of_int binary64) (to_z_pos w64 l (omega arith)) ∙ of_int_is (pos l)
