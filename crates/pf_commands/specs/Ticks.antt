-- The commands of a map from a tick on, and those before it.
use Rattle.std.specs.Prelude.{ℕ, ◌≡◌, ◌≤◌, nat_lt, nat_le, Bool, Some}
use Rattle.std.specs.List.{list_all}
use Rattle.std.specs.FinMap.{get, entries, retain_keys}
use Rattle.pf_commands.specs.Name.{Name}
use Rattle.pf_commands.specs.Merge.{CommandMap}
use Rattle.pf_commands.specs.declared.payload.Payload.{Payload}

-- the commands of the ticks from this one on
unfoldable pub commands_from : ℕ → CommandMap → CommandMap
commands_from tick m = retain_keys m (λ name. nat_le tick name.tick)

-- the commands of the ticks before this one
unfoldable pub commands_before : ℕ → CommandMap → CommandMap
commands_before tick m = retain_keys m (λ name. nat_lt name.tick tick)

-- whether no command of the map is for a tick before this one
abbrev pub is_from : ℕ → CommandMap → Bool
is_from tick m = list_all (λ e. nat_le tick e.0.tick) (entries m)

-- no command of the map is for a tick before this one
abbrev pub IsFrom : ℕ → CommandMap → Type 0
IsFrom tick m =
    (name : Name) (payload : Payload) → get m name ≡ Some payload → tick ≤ name.tick
