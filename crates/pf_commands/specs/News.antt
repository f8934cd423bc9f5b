-- The outcomes of putting a command into a map and of merging maps.
use Rattle.std.specs.Prelude.{◌≡◌, ℕ, ◌≤◌, length, All, Contains, Bool, true, false, nat_lt, ◌==◌, if◌then◌else◌, Option, Some, None, List, [], ◌∷◌, filter, map, min}
use Rattle.std.specs.FinMap.{get, entries}
use Rattle.pf_commands.specs.Name.{Name}
use Rattle.pf_commands.specs.Payload.{weight}
use Rattle.pf_commands.specs.Merge.{CommandMap}
use Rattle.pf_commands.specs.declared.payload.Payload.{Payload}
use Rattle.pf_commands.specs.declared.outcome.Put.{Put}
use Rattle.pf_commands.specs.declared.outcome.Put.TheVariants.{New, Same, Greater, Lesser}

-- the outcome of putting a payload, given the payload that is held under its name
abbrev pub put_outcome : Option Payload → Payload → Put
put_outcome None p = New
put_outcome (Some q) p =
    if weight q == weight p then Same
    else (if nat_lt (weight q) (weight p) then Greater else Lesser)

-- the outcomes that change the map
abbrev pub is_change : Put → Bool
is_change New = true
is_change Same = false
is_change Greater = true
is_change Lesser = false

-- the command is new to the map, or greater than what it holds under that name
abbrev pub is_news : CommandMap → Name × Payload → Bool
is_news m e = is_change (put_outcome (get m e.0) e.1)

-- the commands of the second map that are new or greater to the first
abbrev pub news : CommandMap → CommandMap → List (Name × Payload)
news m k = filter (is_news m) (entries k)

-- the lesser of a number and another that may be missing
abbrev pub lesser_number : ℕ → Option ℕ → ℕ
lesser_number n None = n
lesser_number n (Some m) = min n m

-- the least of some numbers, if there are any
abbrev pub least_of : List ℕ → Option ℕ
least_of [] = None
least_of (n ∷ ns) = Some (lesser_number n (least_of ns))

-- n is one of some numbers, and at most each of them
pub record IsLeast (ns : List ℕ) (n : ℕ) : Type 0 where
  pub held : Contains ns n
  pub least : All (λ m. n ≤ m) ns

-- the least tick of some commands, if there are any
abbrev pub least_tick : List (Name × Payload) → Option ℕ
least_tick es = least_of (map (λ e. e.0.tick) es)

-- how many of some commands are news to a map, and the least tick of these
pub record IsNewsOf
    (m : CommandMap) (es : List (Name × Payload)) (count : ℕ) (least : Option ℕ) : Type 0 where
  pub count_is : count ≡ length (filter (is_news m) es)
  pub least_is : least ≡ least_tick (filter (is_news m) es)
