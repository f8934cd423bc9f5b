-- Laws of the heavier of two payloads.
use Rattle.std.proofs.Common.{◌≡◌, ◌<◌, ◌≤◌, ◌⊎◌, inl, inr, Option, Some, None, refl, ap, sym, ◌∙◌, arith, ⊎_elim}
use Rattle.std.proofs.lemmas.Bool.{cases_lt}
use Rattle.std.proofs.lemmas.Bool.Decides.{nat_tests}
use Rattle.pf_commands.specs.Payload.{weight, IsPayload}
use Rattle.pf_commands.proofs.WeightOrder.{same_from_weight}
use Rattle.pf_commands.specs.Merge.{heavier_payload, heaviest_of}
use Rattle.pf_commands.specs.declared.payload.Payload.{Payload}

pub heavier_right : (p q : Payload) → weight p < weight q → heavier_payload p q ≡ q
heavier_right p q lighter = grind (arith, nat_tests)

pub heavier_left : (p q : Payload) → weight q ≤ weight p → heavier_payload p q ≡ p
heavier_left p q heavy = grind (arith, nat_tests)

heavier_assoc : (p q r : Payload) → heavier_payload (heavier_payload p q) r ≡ heavier_payload p (heavier_payload q r)
heavier_assoc p q r = grind (arith, nat_tests)

heavier_keeps : (p q : Payload) → heavier_payload (heavier_payload p q) p ≡ heavier_payload p q
heavier_keeps p q = grind (arith, nat_tests)

pub heavier_of_assoc : (p q r : Option Payload) → heaviest_of (heaviest_of p q) r ≡ heaviest_of p (heaviest_of q r)
heavier_of_assoc None q r = refl
heavier_of_assoc (Some p) None r = refl
heavier_of_assoc (Some p) (Some q) None = refl
heavier_of_assoc (Some p) (Some q) (Some r) = ap (λ (x : Payload). Some x) (heavier_assoc p q r)

pub heavier_of_same : (p : Option Payload) → heaviest_of p p ≡ p
heavier_of_same None = refl
heavier_of_same (Some p) = ap (λ (x : Payload). Some x) (heavier_left p p (omega arith))

-- the heavier of two is at least as heavy as the first
pub heavier_of_keeps : (p q : Option Payload) → heaviest_of (heaviest_of p q) p ≡ heaviest_of p q
heavier_of_keeps None None = refl
heavier_of_keeps None (Some q) = refl
heavier_of_keeps (Some p) None = heavier_of_same (Some p)
heavier_of_keeps (Some p) (Some q) = ap (λ (x : Payload). Some x) (heavier_keeps p q)

heavier_comm : (p q : Payload) → IsPayload p → IsPayload q → heavier_payload p q ≡ heavier_payload q p
heavier_comm p q is isq =
    ⊎_elim (λ lighter. heavier_right p q lighter ∙ sym (heavier_left q p (omega arith)))
    (λ not_lighter. ⊎_elim
    (λ heavy. heavier_left p q not_lighter ∙ sym (heavier_right q p heavy))
    (λ not_heavy. let same : p ≡ q = same_from_weight p q is isq (omega arith) in ap (λ r. heavier_payload r q) same ∙ sym (ap (heavier_payload q) same))
    (cases_lt (weight q) (weight p)))
    (cases_lt (weight p) (weight q))

-- the payload, if any, is in range
abbrev pub MayBePayload : Option Payload → Type 0
MayBePayload held = (payload : Payload) → held ≡ Some payload → IsPayload payload

pub heavier_of_comm : (p q : Option Payload) → MayBePayload p → MayBePayload q → heaviest_of p q ≡ heaviest_of q p
heavier_of_comm None None is isq = refl
heavier_of_comm None (Some q) is isq = refl
heavier_of_comm (Some p) None is isq = refl
heavier_of_comm (Some p) (Some q) is isq = ap (λ (x : Payload). Some x) (heavier_comm p q (is p refl) (isq q refl))

pub heavier_of-none : (p : Option Payload) → heaviest_of p None ≡ p
heavier_of-none None = refl
heavier_of-none (Some p) = refl

heavier_either : (p q : Payload) → (heavier_payload p q ≡ p) ⊎ (heavier_payload p q ≡ q)
heavier_either p q = ⊎_elim (λ lighter. inr (heavier_right p q lighter)) (λ heavy. inl (heavier_left p q heavy)) (cases_lt (weight p) (weight q))

-- the heavier of two is one of them
pub heavier_of_either : (p q : Option Payload) (x : Payload) → heaviest_of p q ≡ Some x → (p ≡ Some x) ⊎ (q ≡ Some x)
heavier_of_either None q x is = inr is
heavier_of_either (Some p) None x is = inl is
heavier_of_either (Some p) (Some q) x is = ⊎_elim
    (λ e. inl (ap (λ (y : Payload). Some y) (sym e) ∙ is)) (λ e. inr (ap (λ (y : Payload). Some y) (sym e) ∙ is)) (heavier_either p q)
