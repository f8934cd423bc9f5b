-- The abstract peer: a player, its horizon and the world there, the commands that it holds from
-- there on, and the tick that it has reached; what each call on it returns and leaves. A call
-- returns its answer with the peer after it, or why it is refused.
use Rattle.std.specs.Prelude.{◌≡◌, ◌<◌, ◌≤◌, ◌==◌, ℕ, zero, suc, ◌+◌, length, List, [], Option, Some, None, Result, Ok, Err, is_some, nat_le, nat_lt, if◌then◌else◌}
use Rattle.std.specs.FinMap.{get, empty, entries}
use Rattle.pf_shapes.specs.Scene.{Scene}
use Rattle.pf_commands.specs.declared.name.TheConstants.{MAX_TICK, NUMBERS}
use Rattle.pf_shapes.specs.declared.fixture.TheConstants.{PLAYERS}
use Rattle.pf_commands.specs.declared.checking.CheckFault.{CheckFault}
use Rattle.pf_commands.specs.declared.fault.FrameFault.{FrameFault}
use Rattle.pf_commands.specs.declared.outcome.Put.{Put}
use Rattle.pf_commands.specs.declared.payload.Command.{Command}
use Rattle.pf_commands.specs.declared.payload.Payload.{Payload}
use Rattle.pf_commands.specs.Check.{check, check_all}
use Rattle.pf_commands.specs.Frame.{encoding}
use Rattle.pf_commands.specs.Merge.{CommandMap, merge, singleton, name_at, payloads_at}
use Rattle.pf_commands.specs.Ticks.{IsFrom, commands_from, is_from}
use Rattle.pf_commands.specs.News.{put_outcome, news}
use Rattle.pf_rollback.specs.declared.error.Refusal.{Refusal}
use Rattle.pf_rollback.specs.declared.error.Refusal.TheVariants.{TickLimit, NumbersSpent, Frame, Check, NotReached, TooOld, HorizonsDiffer, BasesDiffer}
use Rattle.pf_step.specs.World.{World, same_world, start_world}
use Rattle.pf_rollback.specs.Horizon.{sim_at}

-- a peer of a player. What came before the horizon is sealed: the world there has its effects.
pub record Peer : Type 0 where
  pub player : ℕ
  pub horizon : ℕ
  pub base : World
  pub commands : CommandMap
  pub reached : ℕ

-- the ranges of a peer, which its type keeps
pub record IsPeer (p : Peer) : Type 0 where
  pub player : p.player < PLAYERS
  pub horizon : p.horizon ≤ p.reached
  pub reached : p.reached ≤ MAX_TICK
  pub from : IsFrom p.horizon p.commands

-- a peer of a scene holds no commands at first, has sealed nothing, and is at tick 0
abbrev pub new_peer : Scene → ℕ → Peer
new_peer s player = record {
  player = player;
  horizon = 0;
  base = start_world s;
  commands = empty;
  reached = 0;
}

-- the world of a peer at a tick that is not before its horizon
abbrev pub world_of : Scene → Peer → ℕ → World
world_of s p tick = sim_at s p.base p.horizon p.commands tick

-- ---- taking commands

-- an answer, where the scene allows a command
abbrev pub if_allowed
    : {A : Type 0} → Result (Unit {0}) CheckFault → Result A Refusal → Result A Refusal
if_allowed (Ok done) answer = answer
if_allowed (Err fault) answer = Err (Check fault)

-- a peer with the command put into its map
abbrev pub with_command : Peer → Command → Peer
with_command p c = record p { commands = merge p.commands (singleton c.name c.payload) }

-- a command that the scene allows, and that is not before the horizon, is put into the map
unfoldable pub put : Scene → Peer → Command → Result (Put × Peer) Refusal
put s p c =
    if_allowed (check s c.name c.payload)
    (if nat_lt c.name.tick p.horizon then Err (TooOld p.horizon)
    else Ok (put_outcome (get p.commands c.name) c.payload, with_command p c))

-- a frame is taken where it encodes a command
abbrev pub take : Scene → Peer → Result Command FrameFault → Result (Put × Peer) Refusal
take s p (Ok c) = put s p c
take s p (Err fault) = Err (Frame fault)

-- ---- issuing commands

-- one more than the greatest number below n under which the map holds a command of the tick and
-- player, or 0
unfoldable pub number_below : CommandMap → ℕ → ℕ → ℕ → ℕ
number_below commands tick player zero = 0
number_below commands tick player (suc n) =
    if is_some (get commands (name_at tick player n)) then suc n
    else number_below commands tick player n

-- the number of the next command of a tick and player
abbrev pub next_number : CommandMap → ℕ → ℕ → ℕ
next_number commands tick player = number_below commands tick player NUMBERS

-- the number is the next one, or none is left
abbrev pub IsNextNumber : Option ℕ → ℕ → Type 0
IsNextNumber (Some number) next = number ≡ next
IsNextNumber None next = next ≡ NUMBERS

-- the command that a peer issues next, at the tick that it has reached
abbrev pub next_command : Peer → Payload → Command
next_command p payload = record {
  name = name_at p.reached p.player (next_number p.commands p.reached p.player);
  payload = payload;
}

-- the frame of a command that was put
abbrev pub with_frame : Command → Result (Put × Peer) Refusal → Result (List ℕ × Peer) Refusal
with_frame c (Ok outcome) = Ok (encoding c, outcome.1)
with_frame c (Err refusal) = Err refusal

-- a command of the peer's own gets the next name, and is put
unfoldable pub issue : Scene → Peer → Payload → Result (List ℕ × Peer) Refusal
issue s p payload =
    if nat_le MAX_TICK p.reached then Err TickLimit
    else (if nat_le NUMBERS (next_number p.commands p.reached p.player) then Err NumbersSpent
    else with_frame (next_command p payload) (put s p (next_command p payload)))

-- ---- ticks

-- a peer goes on by so many ticks, up to the last there is
unfoldable pub advance : Peer → ℕ → Result (ℕ × Peer) Refusal
advance p ticks =
    let tick = p.reached + ticks in
    if nat_le tick MAX_TICK then Ok (tick, record p { reached = tick }) else Err TickLimit

-- ---- maps of commands

-- a peer with the commands of a map merged into its own
abbrev pub with_commands : Peer → CommandMap → Peer
with_commands p other = record p { commands = merge p.commands other }

-- a map of which the scene allows each command, and none is before the horizon, is merged in; the
-- answer is how many commands are new or greater
unfoldable pub merge_map : Scene → Peer → CommandMap → Result (ℕ × Peer) Refusal
merge_map s p other =
    if_allowed (check_all s (entries other))
    (if is_from p.horizon other then Ok (length (news p.commands other), with_commands p other)
    else Err (TooOld p.horizon))

-- ---- worlds

-- no body and no contact at the horizon, and no command before the tick
pub record IsEmptyBefore (p : Peer) (tick : ℕ) : Type 0 where
  pub no_bodies : p.base.bodies ≡ []
  pub no_contacts : p.base.contacts ≡ []
  pub no_commands : (earlier : ℕ) → earlier < tick → payloads_at p.commands earlier ≡ []

-- an answer about a tick that a peer has reached, and that is not before its horizon
abbrev pub if_shown : {A : Type 0} → Peer → ℕ → A → Result A Refusal
if_shown p tick answer =
    if nat_lt p.reached tick then Err (NotReached p.reached)
    else (if nat_lt tick p.horizon then Err (TooOld p.horizon) else Ok answer)

-- a peer shows each tick from its horizon to the tick that it has reached
unfoldable pub world_at : Scene → Peer → ℕ → Result World Refusal
world_at s p tick = if_shown p tick (world_of s p tick)

-- ---- sealing

-- a peer with a tick as its horizon: its world there stands for the commands before it
abbrev pub sealed_peer : Scene → Peer → ℕ → Peer
sealed_peer s p tick =
    record p { horizon = tick; base = world_of s p tick; commands = commands_from tick p.commands }

-- a tick is sealed that the peer has reached, and that is not before its horizon
unfoldable pub seal : Scene → Peer → ℕ → Result (Unit {0} × Peer) Refusal
seal s p tick = if_shown p tick (tt, sealed_peer s p tick)

-- a map is merged in whose owner has the same horizon, and the same world there
unfoldable pub merge_sealed : Scene → Peer → ℕ → World → CommandMap → Result (ℕ × Peer) Refusal
merge_sealed s p horizon base other =
    if p.horizon == horizon
    then (if same_world p.base base then merge_map s p other else Err BasesDiffer)
    else Err (HorizonsDiffer p.horizon horizon)
