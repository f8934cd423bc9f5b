-- The weight of a payload is a number of four parts, and payloads in range of one weight are equal.
use Rattle.std.proofs.Common.{◌≡◌, ℕ, ◌+◌, ◌*◌, ◌^◌, ◌<◌, ap, sym, ◌∙◌, arith}
use Rattle.std.specs.Prelude.{ℤ, pos, negsuc}
use Rattle.std.specs.Int.{w64, cast_unsigned}
use Rattle.std.specs.declared.cmp.Ordering.{Ordering}
use Rattle.std.specs.declared.cmp.Ordering.TheVariants.{Less, Equal, Greater}
use Rattle.std.specs.Ordering.{nat_cmp, ordering_then}
use Rattle.std.proofs.lemmas.Bool.Decides.{nat_tests}
use Rattle.std.specs.Prelude.{Some}
use Rattle.pf_num.specs.Fx.{IsRaw}
use Rattle.pf_commands.specs.News.{put_outcome}
use Rattle.pf_commands.specs.declared.outcome.Put.{Put}
use Rattle.pf_commands.specs.declared.outcome.Put.TheVariants as put
use Rattle.pf_commands.specs.declared.outcome.Put.TheVariants.{Same, Lesser}
use Rattle.pf_commands.specs.Payload.{weight, IsPayload, kind_of, body_of, x_of, y_of}
use Rattle.pf_commands.specs.declared.payload.Payload.{Payload}
use Rattle.pf_commands.specs.declared.payload.Payload.TheVariants.{Push, Turn, Stop, Place}

-- a raw number in two's complement fits 64 bits
pub raw_fits : (z : ℤ) → IsRaw z → cast_unsigned w64 z < 2 ^ 64
raw_fits (pos n) raw = omega arith
raw_fits (negsuc n) raw = omega arith

-- and tells which number it is
pub raw_same : (a b : ℤ) → IsRaw a → IsRaw b → cast_unsigned w64 a ≡ cast_unsigned w64 b → a ≡ b
raw_same (pos n) (pos m) rn rm e = ap pos e
raw_same (pos n) (negsuc m) rn rm e = absurd (omega arith)
raw_same (negsuc n) (pos m) rn rm e = absurd (omega arith)
raw_same (negsuc n) (negsuc m) rn rm e = let same : n ≡ m = omega arith in ap negsuc same

-- two numbers of two parts are compared by the high part, then the low one
pub nat_cmp-places : (a b c d : ℕ) → b < 2 ^ 64 → d < 2 ^ 64 → nat_cmp (a * 2 ^ 64 + b) (c * 2 ^ 64 + d) ≡ ordering_then (nat_cmp a c) (nat_cmp b d)
nat_cmp-places a b c d low lower = grind (arith, nat_tests)

pub nat_cmp-short_parts : (a b c d : ℕ) → b < 2 ^ 16 → d < 2 ^ 16 → nat_cmp (a * 2 ^ 16 + b) (c * 2 ^ 16 + d) ≡ ordering_then (nat_cmp a c) (nat_cmp b d)
nat_cmp-short_parts a b c d low lower = grind (arith, nat_tests)

-- a payload's weight by its parts
in_parts : (p : Payload) → weight p ≡ ((kind_of p * 2 ^ 16 + body_of p) * 2 ^ 64 + cast_unsigned w64 (x_of p)) * 2 ^ 64 + cast_unsigned w64 (y_of p)
unfolding weight
in_parts p = omega arith

-- four parts compared from the highest
abbrev pub places_cmp : ℕ × ℕ × ℕ × ℕ → ℕ × ℕ × ℕ × ℕ → Ordering
places_cmp a b = ordering_then (ordering_then (ordering_then (nat_cmp a.0 b.0) (nat_cmp a.1 b.1)) (nat_cmp a.2 b.2)) (nat_cmp a.3 b.3)

abbrev pub places : Payload → ℕ × ℕ × ℕ × ℕ
places p = (kind_of p, body_of p, cast_unsigned w64 (x_of p), cast_unsigned w64 (y_of p))

-- weights are compared by their parts
pub nat_cmp-weight : (p q : Payload) → IsPayload p → IsPayload q → nat_cmp (weight p) (weight q) ≡ places_cmp (places p) (places q)
nat_cmp-weight p q is isq =
    let xs = nat_cmp (cast_unsigned w64 (x_of p)) (cast_unsigned w64 (x_of q)) in
    let ys = nat_cmp (cast_unsigned w64 (y_of p)) (cast_unsigned w64 (y_of q)) in
    ap (λ n. nat_cmp n (weight q)) (in_parts p) ∙ ap (nat_cmp _) (in_parts q)
    ∙ nat_cmp-places _ _ _ _ (raw_fits (y_of p) is.y) (raw_fits (y_of q) isq.y)
    ∙ ap (λ o. ordering_then o ys) (nat_cmp-places _ _ _ _ (raw_fits (x_of p) is.x) (raw_fits (x_of q) isq.x))
    ∙ ap (λ o. ordering_then (ordering_then o xs) ys) (nat_cmp-short_parts (kind_of p) (body_of p) (kind_of q) (body_of q) is.body isq.body)

weight_from_places : (p q : Payload) (a b : ℕ × ℕ × ℕ × ℕ) (o : Ordering) → a ≡ places p → b ≡ places q → IsPayload p → IsPayload q
    → o ≡ places_cmp a b → o ≡ nat_cmp (weight p) (weight q)
weight_from_places p q a b o e f is isq h = h ∙ (λ i. places_cmp (e i) (f i)) ∙ sym (nat_cmp-weight p q is isq)

record SamePlaces (p q : Payload) : Type 0 where
  kind : kind_of p ≡ kind_of q
  body : body_of p ≡ body_of q
  x : cast_unsigned w64 (x_of p) ≡ cast_unsigned w64 (x_of q)
  y : cast_unsigned w64 (y_of p) ≡ cast_unsigned w64 (y_of q)

-- numbers of four parts are equal only where each part is
same_numbers : (k b x y k' b' x' y' : ℕ) → b < 2 ^ 16 → b' < 2 ^ 16 → x < 2 ^ 64 → x' < 2 ^ 64 → y < 2 ^ 64 → y' < 2 ^ 64
    → ((k * 2 ^ 16 + b) * 2 ^ 64 + x) * 2 ^ 64 + y ≡ ((k' * 2 ^ 16 + b') * 2 ^ 64 + x') * 2 ^ 64 + y' → (k ≡ k') × (b ≡ b') × (x ≡ x') × (y ≡ y')
same_numbers k b x y k' b' x' y' bb bb' xx xx' yy yy' e = (omega arith, omega arith, omega arith, omega arith)

same_places : (p q : Payload) → IsPayload p → IsPayload q → weight p ≡ weight q → SamePlaces p q
same_places p q is isq e =
    let h = same_numbers (kind_of p) (body_of p) (cast_unsigned w64 (x_of p)) (cast_unsigned w64 (y_of p)) (kind_of q) (body_of q) (cast_unsigned w64 (x_of q)) (cast_unsigned w64 (y_of q))
    is.body isq.body (raw_fits (x_of p) is.x) (raw_fits (x_of q) isq.x) (raw_fits (y_of p) is.y) (raw_fits (y_of q) isq.y) (sym (in_parts p) ∙ e ∙ in_parts q) in
    record { kind = h.0; body = h.1; x = h.2; y = h.3 }

by_places : (p q : Payload) → IsPayload p → IsPayload q → SamePlaces p q → p ≡ q
by_places (Push body x y) (Push body' x' y') is isq s = λ i. Push (s.body i) (raw_same x x' is.x isq.x s.x i) (raw_same y y' is.y isq.y s.y i)
by_places (Push body x y) (Turn body' x') is isq s = absurd (omega (arith, s.kind))
by_places (Push body x y) (Stop body') is isq s = absurd (omega (arith, s.kind))
by_places (Push body x y) (Place body' x' y') is isq s = absurd (omega (arith, s.kind))
by_places (Turn body x) (Push body' x' y') is isq s = absurd (omega (arith, s.kind))
by_places (Turn body x) (Turn body' x') is isq s = λ i. Turn (s.body i) (raw_same x x' is.x isq.x s.x i)
by_places (Turn body x) (Stop body') is isq s = absurd (omega (arith, s.kind))
by_places (Turn body x) (Place body' x' y') is isq s = absurd (omega (arith, s.kind))
by_places (Stop body) (Push body' x' y') is isq s = absurd (omega (arith, s.kind))
by_places (Stop body) (Turn body' x') is isq s = absurd (omega (arith, s.kind))
by_places (Stop body) (Stop body') is isq s = λ i. Stop (s.body i)
by_places (Stop body) (Place body' x' y') is isq s = absurd (omega (arith, s.kind))
by_places (Place body x y) (Push body' x' y') is isq s = absurd (omega (arith, s.kind))
by_places (Place body x y) (Turn body' x') is isq s = absurd (omega (arith, s.kind))
by_places (Place body x y) (Stop body') is isq s = absurd (omega (arith, s.kind))
by_places (Place body x y) (Place body' x' y') is isq s = λ i. Place (s.body i) (raw_same x x' is.x isq.x s.x i) (raw_same y y' is.y isq.y s.y i)

-- payloads in range of one weight are one payload
pub same_from_weight : (p q : Payload) → IsPayload p → IsPayload q → weight p ≡ weight q → p ≡ q
same_from_weight p q is isq e = by_places p q is isq (same_places p q is isq e)

-- the outcome of putting a payload, by the order of the two weights
abbrev pub answer_by : Ordering → Put
answer_by Less = put.Greater
answer_by Equal = Same
answer_by Greater = Lesser

answer_to-some : (held payload : Payload) → answer_by (nat_cmp (weight held) (weight payload)) ≡ put_outcome (Some held) payload
answer_to-some held payload = grind (arith, nat_tests)

-- the outcome of putting a payload, by the parts of the two weights
pub answered : (held payload : Payload) (a b : ℕ × ℕ × ℕ × ℕ) (o answer : Ordering)
    → a ≡ places held → b ≡ places payload → IsPayload held → IsPayload payload → o ≡ places_cmp a b → o ≡ answer → answer_by answer ≡ put_outcome (Some held) payload
answered held payload a b o answer a_is b_is held_is payload_is compared same =
    ap answer_by (sym same ∙ weight_from_places held payload a b o a_is b_is held_is payload_is compared) ∙ answer_to-some held payload
