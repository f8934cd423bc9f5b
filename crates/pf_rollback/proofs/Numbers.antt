-- The number of the next command, by the greatest number that the map holds.
use Rattle.std.proofs.Common.{◌≡◌, ℕ, zero, suc, ◌+◌, ◌<◌, ◌≤◌, Bool, true, false, if◌then◌else◌, None, refl, ap, ◌∙◌, ⊎_elim, arith}
use Rattle.std.specs.Prelude.{IsSome, is_some}
use Rattle.std.specs.FinMap.{get}
use Rattle.std.proofs.lemmas.Bool.{both_ways, cases_lt}
use Rattle.pf_commands.specs.Merge.{CommandMap, name_at}
use Rattle.pf_commands.specs.declared.name.TheConstants.{NUMBERS}
use Rattle.pf_rollback.specs.Peer.{number_below, next_number}

none_below : (m : CommandMap) (tick player n : ℕ) → ((number : ℕ) → get m (name_at tick player number) ≡ None)
    → number_below m tick player n ≡ 0
unfolding number_below
none_below m tick player zero none = refl
none_below m tick player (suc n) none = rw (none n) (none_below m tick player n none)

one_below : (m : CommandMap) (tick player n g : ℕ) → g < n → IsSome (get m (name_at tick player g))
    → ((other : ℕ) → IsSome (get m (name_at tick player other)) → other ≤ g) → number_below m tick player n ≡ g + 1
unfolding number_below
one_below m tick player zero g below held most = absurd (omega arith)
one_below m tick player (suc n) g below held most =
    elim (is_some (get m (name_at tick player n))) as
    (λ b. is_some (get m (name_at tick player n)) ≡ b → (if b then suc n else number_below m tick player n) ≡ g + 1) [
      | true ↦ λ some. let same : suc n ≡ g + 1 = omega (arith, most n some) in same
      | false ↦ λ none. ⊎_elim
          (λ less. one_below m tick player n g less held most)
          (λ more.
          let same : g ≡ n = omega arith in
          absurd (both_ways (is_some (get m (name_at tick player g))) (ap (λ (k : ℕ). is_some (get m (name_at tick player k))) same ∙ none) held))
          (cases_lt g n)
    ] refl

-- nothing is held: the first number is 0
pub first_number : (m : CommandMap) (tick player : ℕ) → ((number : ℕ) → get m (name_at tick player number) ≡ None)
    → next_number m tick player ≡ 0
first_number m tick player none = none_below m tick player NUMBERS none

-- the number after the greatest
pub number_after : (m : CommandMap) (tick player g : ℕ) → g < NUMBERS → IsSome (get m (name_at tick player g))
    → ((other : ℕ) → IsSome (get m (name_at tick player other)) → other ≤ g) → next_number m tick player ≡ g + 1
number_after m tick player g below held most = one_below m tick player NUMBERS g below held most

-- ---- what the next number is

above_below : (m : CommandMap) (tick player n number : ℕ) → number < n → IsSome (get m (name_at tick player number))
    → number < number_below m tick player n
unfolding number_below
above_below m tick player zero number below held = absurd (omega arith)
above_below m tick player (suc n) number below held =
    elim (is_some (get m (name_at tick player n))) as
    (λ b. is_some (get m (name_at tick player n)) ≡ b → number < (if b then suc n else number_below m tick player n)) [
      | true ↦ λ some. below
      | false ↦ λ none. ⊎_elim
          (λ less. above_below m tick player n number less held)
          (λ more.
          let same : number ≡ n = omega arith in
          absurd (both_ways (is_some (get m (name_at tick player number))) (ap (λ (k : ℕ). is_some (get m (name_at tick player k))) same ∙ none) held))
          (cases_lt number n)
    ] refl

held_below : (m : CommandMap) (tick player n number : ℕ) → number_below m tick player n ≡ number + 1
    → IsSome (get m (name_at tick player number))
unfolding number_below
held_below m tick player zero number is = absurd (omega (arith, is))
held_below m tick player (suc n) number is = by (is_some (get m (name_at tick player n))) refl is (held_below m tick player n number)
  where
    by : (b : Bool) → is_some (get m (name_at tick player n)) ≡ b → (if b then suc n else number_below m tick player n) ≡ number + 1
        → (number_below m tick player n ≡ number + 1 → IsSome (get m (name_at tick player number)))
        → IsSome (get m (name_at tick player number))
    by true some is rest = let same : n ≡ number = omega (arith, is) in rw same at some
    by false none is rest = rest is

pub next_number-above : (m : CommandMap) (tick player number : ℕ) → number < NUMBERS → IsSome (get m (name_at tick player number))
    → number < next_number m tick player
next_number-above m tick player number below held = above_below m tick player NUMBERS number below held

pub next_number-held : (m : CommandMap) (tick player number : ℕ) → next_number m tick player ≡ number + 1
    → IsSome (get m (name_at tick player number))
next_number-held m tick player number is = held_below m tick player NUMBERS number is
