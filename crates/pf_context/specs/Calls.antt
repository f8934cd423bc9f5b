-- What a call does through a context: the call of one peer or of one scene, and nothing else.
use Rattle.std.specs.Prelude.{◌≡◌, ◌&&◌, ◌⊎◌, ℕ, IfErr, IfOk, IsOk, List, MatchOption, OnErr, Option, None, Some, Result, Ok, Err, if◌then◌else◌, length, nat_le, nat_lt}
use Rattle.pf_context.specs.declared.key.Key.{Key}
use Rattle.pf_context.specs.declared.table.Slot.{Slot}
use Rattle.pf_context.specs.Table.{IsFull, IsNextKey}
use Rattle.pf_rot.specs.Vector.{V2}
use Rattle.pf_rot.specs.Rotation.{Rot}
use Rattle.pf_shapes.specs.declared.fault.SceneFault.{SceneFault}
use Rattle.pf_shapes.specs.declared.fault.SceneFault.TheVariants.{TooMany}
use Rattle.pf_shapes.specs.declared.read.ReadError.{ReadError}
use Rattle.pf_shapes.specs.declared.fixture.TheConstants.{PLAYERS}
use Rattle.pf_shapes.specs.declared.scene.TheConstants.{MAX_BODIES}
use Rattle.pf_shapes.specs.Fixture.{Fixture}
use Rattle.pf_shapes.specs.Scene.{Scene, with_body}
use Rattle.pf_shapes.specs.SceneRead.{ReadsScene}
use Rattle.pf_rollback.specs.declared.peer.TheConstants.{MAX_RING}
use Rattle.pf_rollback.specs.Core.{PeerCore, new_core}
use Rattle.pf_context.specs.declared.error.ContextError.{ContextError}
use Rattle.pf_context.specs.declared.error.ContextError.TheVariants.{BadKey}
use Rattle.pf_context.specs.declared.error.ContextError.TheVariants as errors
use Rattle.pf_context.specs.Context.{Context, peer_at, scene_at, with_new_peer, with_new_scene, with_peer, with_scene}
use Rattle.pf_context.specs.Errors.{read_error, returned}

-- ---- calls of what a key names

module _
    {V A E : Type 0} (value_of : Context → Key → Option V)
    (with_one : Context → Key → V → Context) (error : E → ContextError)
    (old new : Context) (key : Key) (result : Result A ContextError)
  where
    -- a call of what a key names, and nothing else: the context returns what the call returned, and
    -- the key names what the call left
    pub record CallsOne (Call : V → Result A E → Type 0) : Type 0 where
      pub after : V
      pub answer : Result A E
      pub call : Call after answer
      pub context : new ≡ with_one old key after
      pub returns : result ≡ returned error answer

    -- The call of what a key names, from before to after. Where the key names nothing, that is the
    -- error, and the context is as it was.
    abbrev pub Calls : (V → V → Result A E → Type 0) → Type 0
    Calls Call =
        MatchOption (value_of old key) ((result ≡ Err BadKey) × (new ≡ old))
        (λ before. CallsOne (Call before))

module _ {A E : Type 0} where
  -- the call of a peer
  abbrev pub CallsPeer : (E → ContextError) → Context → Context → Key → Result A ContextError
      → (PeerCore → PeerCore → Result A E → Type 0) → Type 0
  CallsPeer = Calls peer_at with_peer

  -- the call of a scene
  abbrev pub CallsScene : (E → ContextError) → Context → Context → Key → Result A ContextError
      → (Scene → Scene → Result A E → Type 0) → Type 0
  CallsScene = Calls scene_at with_scene

-- ---- values that are added and freed

module _
    {V : Type 0} (slots_of : Context → List (Slot V)) (with_new : Context → Key → V → Context)
    (old new : Context) (result : Result Key ContextError)
  where
    -- a value is put in under the next key. Where there is no memory for it, or no slot, that is
    -- the error, and the context is as it was.
    pub record Inserts (value : V) : Type 0 where
      pub key : IfOk result (IsNextKey (slots_of old))
      pub context : IfOk result (λ key. new ≡ with_new old key value)
      pub err : OnErr result (new ≡ old)
      pub no_room : IfErr result (λ error.
          (error ≡ errors.OutOfMemory) ⊎ ((error ≡ errors.Full) × IsFull (slots_of old)))

    -- the same where there is a value to put in, and else the error why there is none
    abbrev pub Adds : Result V ContextError → Type 0
    Adds (Ok value) = Inserts value
    Adds (Err error) = (result ≡ Err error) × (new ≡ old)

-- a peer is added
abbrev pub AddsPeer : Context → Context → Result Key ContextError → Result PeerCore ContextError
    → Type 0
AddsPeer = Adds (λ c. c.peers) with_new_peer

-- a scene is added
abbrev pub AddsScene : Context → Context → Result Key ContextError → Result Scene ContextError
    → Type 0
AddsScene = Adds (λ c. c.scenes) with_new_scene

-- what a key names is freed, so that the context is without it; the key names nothing from then on
abbrev pub Frees : {V : Type 0} → Option V → Context → Context → Context
    → Result (Unit {0}) ContextError → Type 0
Frees None without old new result = (result ≡ Err BadKey) × (new ≡ old)
Frees (Some value) without old new result = (result ≡ Ok tt) × (new ≡ without)

-- ---- calls of scenes

-- the scene that is read from a text, or why none is read
pub record AddsRead
    (text : List ℕ) (old new : Context) (result : Result Key ContextError) : Type 0 where
  pub scene : Result Scene ReadError
  pub read : ReadsScene text scene
  pub adds : AddsScene old new result (returned read_error scene)

-- a scene with a body more, or why it has none
abbrev pub extended_scene : Scene → Result (Fixture × (V2 × Rot)) SceneFault
    → Result Scene SceneFault
extended_scene scene (Ok body) =
    if nat_lt (length scene.fixtures) MAX_BODIES then Ok (with_body scene body.0 body.1.0 body.1.1)
    else Err TooMany
extended_scene scene (Err fault) = Err fault

-- a body is pushed, and its number returned; an error leaves the scene as it was
abbrev pub Pushes : Result (Fixture × (V2 × Rot)) SceneFault → Scene → Scene
    → Result ℕ ContextError → Type 0
Pushes body old new (Ok number) =
    (extended_scene old body ≡ Ok new) × (number ≡ length old.fixtures)
Pushes body old new (Err errors.OutOfMemory) = IsOk (extended_scene old body) × (new ≡ old)
Pushes body old new (Err (errors.Scene fault)) = (extended_scene old body ≡ Err fault) × (new ≡ old)
Pushes body old new (Err error) = ⊥

-- ---- calls of peers

-- the first state of a peer of a scene, or why there is none
abbrev pub core_of : Option Scene → ℕ → ℕ → Result PeerCore ContextError
core_of None player ring = Err BadKey
core_of (Some scene) player ring =
    if nat_lt player PLAYERS
    then (
    if nat_lt 0 ring && nat_le ring MAX_RING then Ok (new_core scene player ring)
    else Err errors.BadRing)
    else Err errors.BadPlayer
