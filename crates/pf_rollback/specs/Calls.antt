-- How a call of a peer core follows the abstract peer's call, and what it leaves.
use Rattle.std.specs.Prelude.{◌≡◌, ◌≢◌, ◌≤◌, ◌-◌, ℕ, [], Result, Ok, Err, IsOk, IsSome, List, None, OnErr, OnOk, Option}
use Rattle.std.specs.FinMap.{get}
use Rattle.pf_commands.specs.declared.fault.FrameFault.{FrameFault}
use Rattle.pf_commands.specs.declared.outcome.Put.{Put}
use Rattle.pf_commands.specs.declared.payload.Command.{Command}
use Rattle.pf_commands.specs.declared.payload.Payload.{Payload}
use Rattle.pf_commands.specs.Merge.{CommandMap}
use Rattle.pf_commands.specs.News.{least_tick, news}
use Rattle.pf_step.specs.World.{World}
use Rattle.pf_rollback.specs.declared.error.PeerError.{PeerError}
use Rattle.pf_rollback.specs.declared.error.PeerError.TheVariants.{Refused, OutOfMemory}
use Rattle.pf_rollback.specs.declared.error.Refusal.{Refusal}
use Rattle.pf_rollback.specs.Core.{KeepsBefore, PeerCore, count_after, news_tick}
use Rattle.pf_rollback.specs.Kept.{nearest_tick, ticks_after_seal}
use Rattle.pf_rollback.specs.Peer.{IsEmptyBefore, Peer, advance, issue, merge_map, merge_sealed, next_command, put, seal, take}

-- A call that changes a state refines an abstract call: it returns that call's answer and leaves
-- its state. A refused call changes nothing; nor does one that is out of memory, which only a call
-- that is not refused can be.
abbrev pub Refines : {A S : Type 0} → Result A PeerError → S → S → Result (A × S) Refusal → Type 0
Refines (Ok answer) old new call = call ≡ Ok (answer, new)
Refines (Err (Refused refusal)) old new call = (call ≡ Err refusal) × (new ≡ old)
Refines (Err OutOfMemory) old new call = IsOk call × (new ≡ old)

-- the same of a call that changes nothing
abbrev pub ReturnsUnchanged : {A : Type 0} → Result A PeerError → Result A Refusal → Type 0
ReturnsUnchanged (Ok answer) call = call ≡ Ok answer
ReturnsUnchanged (Err (Refused refusal)) call = call ≡ Err refusal
ReturnsUnchanged (Err OutOfMemory) call = IsOk call

-- the tick of the command of a frame, where it encodes one that is new or greater to a map
abbrev pub news_of_frame : CommandMap → Result Command FrameFault → Option ℕ
news_of_frame commands (Ok c) = news_tick commands c
news_of_frame commands (Err fault) = None

-- a frame encodes a command whose name is in a map
abbrev pub IsHeld : CommandMap → Result Command FrameFault → Type 0
IsHeld commands (Ok c) = IsSome (get commands c.name)
IsHeld commands (Err fault) = ⊥

module _ {A : Type 0} where
  -- A call of a peer that may bring it commands follows the abstract peer's call. The kept worlds
  -- after the least tick of new and greater commands are dropped, if there are such commands, and
  -- nothing else of the peer changes; an error changes nothing. The call takes no memory where all
  -- is held already.
  pub record TakesCommands
      (call : Result (A × Peer) Refusal) (least : Option ℕ) (Held : Type 0) (old new : PeerCore)
      (answer : Result A PeerError) : Type 0 where
    pub peer : Refines answer old.peer new.peer call
    pub kept : OnOk answer (KeepsBefore least old.kept new.kept)
    pub rest : new ≡ record old { peer = new.peer; kept = new.kept }
    pub err : OnErr answer (new ≡ old)
    pub no_memory : Held → answer ≢ Err OutOfMemory

-- a peer takes a command
abbrev pub Puts : Command → PeerCore → PeerCore → Result Put PeerError → Type 0
Puts command old =
    TakesCommands (put old.scene old.peer command) (news_tick old.peer.commands command)
    (IsSome (get old.peer.commands command.name)) old

-- a peer takes the command of a frame, or there is none
abbrev pub TakesFrame : Result Command FrameFault → PeerCore → PeerCore → Result Put PeerError
    → Type 0
TakesFrame command old =
    TakesCommands (take old.scene old.peer command) (news_of_frame old.peer.commands command)
    (IsHeld old.peer.commands command) old

-- a peer issues a command of its own player; its name is new
abbrev pub Issues : Payload → PeerCore → PeerCore → Result (List ℕ) PeerError → Type 0
Issues payload old =
    TakesCommands (issue old.scene old.peer payload)
    (news_tick old.peer.commands (next_command old.peer payload)) ⊥ old

-- a peer takes the commands of a map
abbrev pub Merges : CommandMap → PeerCore → PeerCore → Result ℕ PeerError → Type 0
Merges other old =
    TakesCommands (merge_map old.scene old.peer other)
    (least_tick (news old.peer.commands other)) (news old.peer.commands other ≡ []) old

-- the same of another peer with this horizon and this world there
abbrev pub MergesSealed : ℕ → World → CommandMap → PeerCore → PeerCore → Result ℕ PeerError → Type 0
MergesSealed horizon base other old =
    TakesCommands (merge_sealed old.scene old.peer horizon base other)
    (least_tick (news old.peer.commands other)) (news old.peer.commands other ≡ []) old

-- a peer goes on by so many ticks, and nothing else of it changes; that takes no memory
pub record Advances (ticks : ℕ) (old new : PeerCore) (answer : Result ℕ PeerError) : Type 0 where
  pub peer : Refines answer old.peer new.peer (advance old.peer ticks)
  pub rest : new ≡ record old { peer = new.peer }
  pub no_memory : answer ≢ Err OutOfMemory

-- A peer seals a tick, and the kept worlds up to it are dropped; the ticks that this simulates are
-- counted. Nothing else of it changes: where the call is refused nothing at all, and out of memory
-- the counts alone. It takes no memory where nothing is before the tick.
pub record Seals (tick : ℕ) (old new : PeerCore) (answer : Result (Unit {0}) PeerError)
    : Type 0 where
  pub peer : Refines answer old.peer new.peer (seal old.scene old.peer tick)
  pub kept : OnOk answer (new.kept ≡ ticks_after_seal tick old.kept)
  pub counted : OnOk answer
      (new.meter.ticks ≡ count_after old.meter.ticks (tick - nearest_tick old.kept tick))
  pub not_counted : OnErr answer
      ((some : ℕ) × (some ≤ tick - nearest_tick old.kept tick) × (new.kept ≡ old.kept)
      × (new.meter.ticks ≡ count_after old.meter.ticks some))
  pub rest : new ≡ record old { peer = new.peer; kept = new.kept; meter = new.meter }
  pub refused : (refusal : Refusal) → answer ≡ Err (Refused refusal) → new ≡ old
  pub again : tick ≡ old.peer.horizon → (answer ≡ Ok tt) × (new ≡ old)
  pub no_memory : IsEmptyBefore old.peer tick → answer ≢ Err OutOfMemory
