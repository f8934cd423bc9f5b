-- Maps of commands as values, and their merging by the weight of payloads.
use Rattle.std.specs.Prelude.{ℕ, ◌≡◌, refl, nat_lt, ◌==◌, if◌then◌else◌, Option, Some, None, List, [], ◌∷◌, ◌++◌, map, filter, unwrap_or}
use Rattle.std.specs.declared.cmp.Ordering.{Ordering}
use Rattle.std.specs.Ordering.{nat_cmp, ordering_then}
use Rattle.std.specs.Coded.{Coded, code_by, coded×, coded_ℕ}
use Rattle.std.specs.FinMap.{FinMap, empty, insert, get, entries, from_entries}
use Rattle.pf_commands.specs.Name.{Name, IsName}
use Rattle.pf_commands.specs.Payload.{weight, IsPayload}
use Rattle.pf_commands.specs.declared.payload.Payload.{Payload}
use Rattle.pf_commands.specs.declared.payload.Command.{Command}

-- the order of names: by tick, then player, then number
abbrev pub name_cmp : Name → Name → Ordering
name_cmp a b =
    ordering_then (nat_cmp a.tick b.tick)
    (ordering_then (nat_cmp a.player b.player) (nat_cmp a.number b.number))

-- a command map: a finite map from names to payloads
abbrev pub CommandMap : Type 0
CommandMap = FinMap name_cmp Payload

-- a name is stored as the triple of its numbers
abbrev pub name_code : Coded Name
name_code =
    code_by (ℕ × (ℕ × ℕ)) (coded× coded_ℕ (coded× coded_ℕ coded_ℕ))
    (λ n. (n.tick, (n.player, n.number)))
    (λ t. record { tick = t.0; player = t.1.0; number = t.1.1 }) (λ _. refl)

-- the name of a command by its numbers
abbrev pub name_at : ℕ → ℕ → ℕ → Name
name_at tick player number = record { tick = tick; player = player; number = number }

-- a command's name and payload are in the ranges of their types
pub record IsCommand (c : Command) : Type 0 where
  pub name : IsName c.name
  pub payload : IsPayload c.payload

-- each command of a map is in those ranges
abbrev pub IsCommandMap : CommandMap → Type 0
IsCommandMap m =
    (name : Name) (payload : Payload)
    → get m name ≡ Some payload → IsName name × IsPayload payload

-- the map of only one command
abbrev pub singleton : Name → Payload → CommandMap
singleton name payload = insert empty name payload

-- of two payloads the one of greater weight
abbrev pub heavier_payload : Payload → Payload → Payload
heavier_payload p q = if nat_lt (weight p) (weight q) then q else p

-- the same of two payloads that may be missing
abbrev pub heaviest_of : Option Payload → Option Payload → Option Payload
heaviest_of None q = q
heaviest_of (Some p) None = Some p
heaviest_of (Some p) (Some q) = Some (heavier_payload p q)

-- the names of either map, each with its payload of greater weight
unfoldable pub merge : CommandMap → CommandMap → CommandMap
merge m k =
    from_entries (map (λ e. (e.0, unwrap_or (heaviest_of (get m e.0) (get k e.0)) e.1))
    (entries m ++ entries k))

-- a map with the commands of a list put in: each is merged in as a map of one command
abbrev pub put_all : CommandMap → List Command → CommandMap
put_all m [] = m
put_all m (c ∷ commands) = put_all (merge m (singleton c.name c.payload)) commands

-- the payloads of a tick, in order of player, then number
abbrev pub payloads_at : CommandMap → ℕ → List Payload
payloads_at m tick = map (λ e. e.1) (filter (λ e. e.0.tick == tick) (entries m))
