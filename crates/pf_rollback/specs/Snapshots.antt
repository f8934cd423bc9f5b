-- Snapshots: the worlds that a peer keeps, to simulate from where commands come late.
use Rattle.std.specs.Prelude.{◌≡◌, ℕ, ◌+◌, ◌-◌, ◌*◌, ◌/◌, ◌<◌, ◌≤◌, ◌⊎◌, List, [], ◌∷◌, length, map, max, take, Option, Some, None, IfSome, slice_get, unwrap_or}
use Rattle.std.specs.List.{range_with_len}
use Rattle.pf_commands.specs.declared.name.TheConstants.{MAX_TICK}
use Rattle.pf_shapes.specs.Scene.{Scene}
use Rattle.pf_commands.specs.Merge.{CommandMap}
use Rattle.pf_step.specs.Changes.{Changes, world_before}
use Rattle.pf_step.specs.World.{World}
use Rattle.pf_rollback.specs.Horizon.{sim_at}
use Rattle.pf_rollback.specs.declared.snapshots.TheConstants.{KEYFRAME_INTERVAL}
use Rattle.pf_rollback.specs.Kept.{Ticks}

-- the horizon and its world; the worlds at the multiples of KEYFRAME_INTERVAL after it; the world
-- of the settled tick, where it stands apart from these; the last settled worlds, of which the last
-- is that of the settled tick; the settled tick; how many recent worlds there may be; and how many
-- more keyframes there is memory for
pub record Snapshots : Type 0 where
  pub horizon : ℕ
  pub base : World
  pub keyframes : List World
  pub latest : Option World
  pub recent : List World
  pub settled : ℕ
  pub ring : ℕ
  pub room : ℕ

-- ---- worlds by what changed in them

-- the world before some changes, of which the last ones are undone first
unfoldable pub world_before_all : List Changes → World → World
world_before_all [] world = world
world_before_all (first ∷ later) world = world_before first (world_before_all later world)

-- the worlds after each of some changes, the last of which made this world
unfoldable pub worlds_after : List Changes → World → List World
worlds_after [] world = []
worlds_after (first ∷ later) world = world_before_all later world ∷ worlds_after later world

-- the world of the settled tick: where it does not stand apart, it is the last keyframe, or that of
-- the horizon where there is none
abbrev pub last_world : World → List World → Option World → World
last_world base keyframes (Some world) = world
last_world base keyframes None =
    unwrap_or (slice_get keyframes (length keyframes - 1)) base

abbrev pub settled_world : Snapshots → World
settled_world s = last_world s.base s.keyframes s.latest

-- what is taken to have it: the world that stands apart, or the last keyframe
abbrev pub taken_world : List World → Option World → Option World
taken_world keyframes (Some world) = Some world
taken_world keyframes None = slice_get keyframes (length keyframes - 1)

-- and the keyframes that are left
abbrev pub other_keyframes : List World → Option World → List World
other_keyframes keyframes (Some world) = keyframes
other_keyframes keyframes None = take (length keyframes - 1) keyframes

-- ---- kept worlds

-- which multiple of KEYFRAME_INTERVAL the first keyframe after a horizon is
abbrev pub first_keyframe : ℕ → ℕ
first_keyframe horizon = horizon / KEYFRAME_INTERVAL + 1

-- the ticks of the kept worlds
unfoldable pub ticks_of : Snapshots → Ticks
ticks_of s = record {
  horizon = s.horizon;
  recent = range_with_len (s.settled + 1 - length s.recent) (length s.recent);
  keyframes = map (λ i. i * KEYFRAME_INTERVAL)
      (range_with_len (first_keyframe s.horizon) (length s.keyframes));
  ring = s.ring;
}

-- the world is that of the horizon
abbrev pub IsBase : Snapshots → ℕ → World → Type 0
IsBase s tick world = (tick ≡ s.horizon) × (world ≡ s.base)

-- the world is the keyframe of a tick
abbrev pub IsKeyframe : Snapshots → ℕ → World → Type 0
IsKeyframe s tick world =
    (number : ℕ) × (tick ≡ (first_keyframe s.horizon + number) * KEYFRAME_INTERVAL)
    × (slice_get s.keyframes number ≡ Some world)

-- the world is the recent one of a tick; the last one is that of the settled tick
abbrev pub IsRecent : Snapshots → ℕ → World → Type 0
IsRecent s tick world =
    (place : ℕ) × (tick + length s.recent ≡ s.settled + 1 + place)
    × (slice_get s.recent place ≡ Some world)

-- the world is kept at a tick
unfoldable pub IsKept : Snapshots → ℕ → World → Type 0
IsKept s tick world = IsBase s tick world ⊎ (IsKeyframe s tick world ⊎ IsRecent s tick world)

-- no kept world has a body or a contact
abbrev pub AreEmpty : Snapshots → Type 0
AreEmpty s =
    (tick : ℕ) (world : World) → IsKept s tick world
    → (world.bodies ≡ []) × (world.contacts ≡ [])

-- the world that is to be kept at a tick, for these commands
abbrev pub kept_world : Scene → CommandMap → Snapshots → ℕ → World
kept_world scene commands s tick = sim_at scene s.base s.horizon commands tick

-- there is a keyframe at each multiple after the horizon up to the settled tick; the recent worlds
-- are of the ticks up to it; the settled world may stand apart where it is recent, and does where
-- it is neither a keyframe nor that of the horizon; and no two worlds are kept at one tick
pub record IsSnapshots (s : Snapshots) : Type 0 where
  pub base : s.horizon ≤ s.settled
  pub keyframes : length s.keyframes + s.horizon / KEYFRAME_INTERVAL
      ≡ s.settled / KEYFRAME_INTERVAL
  pub ring : 0 < s.ring
  pub few : length s.recent ≤ s.ring
  pub within : s.horizon + length s.recent ≤ s.settled
  pub apart : IfSome s.latest (IsRecent s s.settled)
  pub none_apart : s.latest ≡ None
      → s.settled ≡ max s.horizon (s.settled / KEYFRAME_INTERVAL * KEYFRAME_INTERVAL)
  pub one : (tick : ℕ) (a b : World) → IsKept s tick a → IsKept s tick b → a ≡ b
  pub limit : s.settled ≤ MAX_TICK
