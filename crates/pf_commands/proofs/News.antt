-- The least of some numbers is one of them, and at most each of them.
use Rattle.std.proofs.Common.{◌≡◌, ℕ, ◌≤◌, ◌<◌, List, [], ◌∷◌, length, Option, Some, None, refl, ap, min, arith, ⊎_elim}
use Rattle.std.specs.Prelude.{Contains}
use Rattle.std.proofs.lemmas.Bool.{cases_lt}
use Rattle.std.proofs.lemmas.List.Elements.{All-nil, All-cons, All-contains, All-weaker, Contains-append_left, Contains-append_right}
use Rattle.pf_commands.specs.News.{lesser_number, least_of, IsLeast}

pub first_of : (n : ℕ) (ns : List ℕ) → Contains (n ∷ ns) n
first_of n ns = Contains-append_left (n ∷ []) ns n (0, omega arith, refl)

-- one number more
least_more : (n m : ℕ) (ns : List ℕ) → IsLeast ns m → IsLeast (n ∷ ns) (min n m)
least_more n m ns h =
    ⊎_elim
    (λ (less : n < m).
    let same : min n m ≡ n = omega arith in
    rw same
    (record { held = first_of n ns; least = All-cons (λ k. n ≤ k) n ns (omega arith) (All-weaker (λ k. m ≤ k) (λ k. n ≤ k) (λ k le. omega arith) ns h.least) }))
    (λ (more : m ≤ n).
    let same : min n m ≡ m = omega arith in
    rw same (record { held = Contains-append_right (n ∷ []) ns m h.held; least = All-cons (λ k. m ≤ k) n ns more h.least }))
    (cases_lt n m)

none_least : (ns : List ℕ) → least_of ns ≡ None → ns ≡ []
none_least [] e = refl
none_least (n ∷ ns) e = absurd cc

one_least : (n : ℕ) → IsLeast (n ∷ []) n
one_least n = record { held = first_of n []; least = All-cons (λ k. n ≤ k) n [] (omega arith) (All-nil (λ k. n ≤ k)) }

pub least_of-least : (ns : List ℕ) (n : ℕ) → least_of ns ≡ Some n → IsLeast ns n
least_of-least [] n e = absurd cc
least_of-least (m ∷ ns) n e = by (least_of ns) refl e (least_of-least ns)
  where
    by : (least : Option ℕ) → least_of ns ≡ least → Some (lesser_number m least) ≡ Some n → ((k : ℕ) → least_of ns ≡ Some k → IsLeast ns k) → IsLeast (m ∷ ns) n
    by None is e rest =
        let same : m ≡ n = cc in
        let alone : ns ≡ [] = none_least ns is in
        rw (alone, same) (one_least n)
    by (Some k) is e rest =
        let same : min m k ≡ n = cc in rw same at (least_more m k ns (rest k is))

pub least-least_of : (ns : List ℕ) (n : ℕ) → IsLeast ns n → least_of ns ≡ Some n
least-least_of ns n h = by (least_of ns) refl
  where
    by : (least : Option ℕ) → least_of ns ≡ least → least ≡ Some n
    by None is = absurd (let empty = none_least ns is in let some = h.held.1 in omega (arith, ap length empty))
    by (Some m) is =
        let found = least_of-least ns m is in
        let low : n ≤ m = All-contains (λ k. n ≤ k) ns m h.least found.held in
        let high : m ≤ n = All-contains (λ k. m ≤ k) ns n found.least h.held in
        ap Some (omega arith)
