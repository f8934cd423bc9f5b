-- What stands before the first LF of some bytes.
use Rattle.std.proofs.Common.{◌≡◌, ◌==◌, ℕ, suc, ◌+◌, ◌<◌, ◌≤◌, Bool, true, false, Option, List, [], ◌∷◌, ◌++◌, length, take, min, if◌then◌else◌, nat_lt, refl, sym, ap, subst, ◌∙◌, arith}
use Rattle.std.specs.Io.KnownBytes.{Consumes}
use Rattle.std.proofs.lemmas.List.{length-take, take-take}
use Rattle.std.proofs.lemmas.List.Sums.{prefix_len-le-length}
use Rattle.std.proofs.lemmas.Bool.Decides.{nat_tests}
use Rattle.pf_text.specs.Lines.{ExtendsLine, terminated_line, is_line, line_length}

-- the front of a list, one element further
take-next : {X : Type 0} (n : ℕ) (x : X) (xs : List X) → take (1 + n) (x ∷ xs) ≡ x ∷ take n xs
take-next n x xs = let next : 1 + n ≡ suc n = omega arith in rw next refl

line_before-cons : (is_end : Bool) (byte : ℕ) (bytes : List ℕ) → (byte == 10) ≡ is_end → is_line (take (line_length bytes) bytes) ≡ true
    → is_line (take (line_length (byte ∷ bytes)) (byte ∷ bytes)) ≡ true
line_before-cons true byte bytes is e = rw is refl
line_before-cons false byte bytes is e = rw (is, take-next (line_length bytes) byte bytes, is) e

-- what stands before the first LF is a line
pub line_before : (bytes : List ℕ) → is_line (take (line_length bytes) bytes) ≡ true
line_before [] = refl
line_before (byte ∷ bytes) = line_before-cons (byte == 10) byte bytes refl (line_before bytes)

line_ends-cons : (is_end : Bool) (byte : ℕ) (bytes : List ℕ) → (byte == 10) ≡ is_end
    → (line_length bytes < length bytes → take (1 + line_length bytes) bytes ≡ terminated_line (take (line_length bytes) bytes))
    → line_length (byte ∷ bytes) < length (byte ∷ bytes)
    → take (1 + line_length (byte ∷ bytes)) (byte ∷ bytes) ≡ terminated_line (take (line_length (byte ∷ bytes)) (byte ∷ bytes))
line_ends-cons true byte bytes is more lt =
    let same : byte ≡ 10 = grind (arith, nat_tests) in
    rw is (ap (λ b. b ∷ []) same)
line_ends-cons false byte bytes is more lt =
    let size : line_length (byte ∷ bytes) ≡ 1 + line_length bytes = rw is refl in
    rw (size, take-next (1 + line_length bytes) byte bytes, take-next (line_length bytes) byte bytes)
    (ap (λ line. byte ∷ line) (more (omega (arith, size))))

-- and the LF is behind it, where one is there
pub line_ends : (bytes : List ℕ) → line_length bytes < length bytes → take (1 + line_length bytes) bytes ≡ terminated_line (take (line_length bytes) bytes)
line_ends [] lt = absurd (omega arith)
line_ends (byte ∷ bytes) lt = line_ends-cons (byte == 10) byte bytes refl (line_ends bytes) lt

extends_line-cases : (a b : Option (List ℕ)) (ready old new : List ℕ) (n part : ℕ) (is_end : Bool) → part ≡ line_length (take n ready)
    → new ≡ old ++ take part (take n ready) → nat_lt part (length (take n ready)) ≡ is_end
    → Consumes a b (take (if is_end then part + 1 else part) ready) → ExtendsLine a b old new is_end
extends_line-cases a b ready old new n part true is grown test taken =
    let lt : part < length (take n ready) = grind (arith, nat_tests) in
    let shorter : length (take n ready) ≡ min n (length ready) = length-take n ready in
    let next : part + 1 ≡ 1 + part = omega arith in
    let ends : take (1 + part) (take n ready) ≡ terminated_line (take part (take n ready)) = rw is (line_ends (take n ready) (rw is at lt)) in
    record {
      part = take part (take n ready);
      part_is = rw is (line_before (take n ready));
      line_is = grown;
      taken = subst (Consumes a b) (sym (take-take (part + 1) n ready (omega arith)) ∙ rw next ends) taken;
    }
extends_line-cases a b ready old new n part false is grown test taken =
    let le : part ≤ length (take n ready) = rw is (prefix_len-le-length _ (take n ready)) in
    let shorter : length (take n ready) ≡ min n (length ready) = length-take n ready in
    record {
      part = take part (take n ready);
      part_is = rw is (line_before (take n ready));
      line_is = grown;
      taken = subst (Consumes a b) (sym (take-take part n ready (omega arith))) taken;
    }

-- of bytes that are ready, the first n of which were looked at, a part of a line was taken
pub extends_line : (a b : Option (List ℕ)) (ready old new : List ℕ) (n part : ℕ) → part ≡ line_length (take n ready)
    → new ≡ old ++ take part (take n ready) → Consumes a b (take (if nat_lt part (length (take n ready)) then part + 1 else part) ready)
    → ExtendsLine a b old new (nat_lt part (length (take n ready)))
extends_line a b ready old new n part is grown taken = extends_line-cases a b ready old new n part _ is grown refl taken
