-- Rising numbers.
use Rattle.std.proofs.Common.{ℕ, zero, suc, ◌≤◌, ◌<◌, List, [], ◌∷◌, ◌++◌, map, arith}
use Rattle.std.proofs.lemmas.List.Elements.{All-nil, All-cons}
use Rattle.std.specs.Prelude.{All, drop}
use Rattle.pf_manifold.specs.Key.{IsRising}

pub rising-weaken : (low least : ℕ) (ns : List ℕ) → low ≤ least → IsRising least ns → IsRising low ns
rising-weaken low least [] below h = tt
rising-weaken low least (n ∷ ns) below h = (omega (arith, h.0), h.1)

-- all ranks are at least the first bound
pub rising-all : {X : Type 0} (f : X → ℕ) (least : ℕ) (xs : List X) → IsRising least (map f xs)
    → All (λ x. least ≤ f x) xs
rising-all f least [] h = All-nil (λ y. least ≤ f y)
rising-all f least (x ∷ xs) h =
    All-cons (λ y. least ≤ f y) x xs h.0 (rising-all f least xs (rising-weaken least (suc (f x)) (map f xs) (omega (arith, h.0)) h.1))

pub rising-drop : {X : Type 0} (f : X → ℕ) (place : ℕ) (xs : List X) → IsRising 0 (map f xs)
    → IsRising 0 (map f (drop place xs))
rising-drop f zero xs h = h
rising-drop f (suc place) [] h = tt
rising-drop f (suc place) (x ∷ xs) h =
    rising-drop f place xs (rising-weaken 0 (suc (f x)) (map f xs) (omega arith) h.1)

-- all numbers are below a bound
abbrev pub AreBelow : ℕ → List ℕ → Type 0
AreBelow bound [] = Unit {0}
AreBelow bound (n ∷ ns) = (n < bound) × AreBelow bound ns

-- numbers below a bound, and behind them rising numbers from it on
pub rising-append : (least bound : ℕ) (ns ms : List ℕ) → least ≤ bound → IsRising least ns → AreBelow bound ns
    → IsRising bound ms → IsRising least (ns ++ ms)
rising-append least bound [] ms low h below behind = rising-weaken least bound ms low behind
rising-append least bound (n ∷ ns) ms low h below behind =
    (h.0, rising-append (suc n) bound ns ms (omega (arith, below.0)) h.1 below.1 behind)
