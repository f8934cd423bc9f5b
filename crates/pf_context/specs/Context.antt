-- Contexts: scenes and peers under keys, and what changes of them.
use Rattle.std.specs.Prelude.{List, [], Option}
use Rattle.pf_context.specs.declared.key.Key.{Key}
use Rattle.pf_context.specs.declared.table.Slot.{Slot}
use Rattle.pf_context.specs.Table.{value_at, with_new_value, with_value, without_value}
use Rattle.pf_shapes.specs.Scene.{Scene}
use Rattle.pf_rollback.specs.Core.{PeerCore}

-- the slots of the scenes, and those of the peers
pub record Context : Type 0 where
  pub scenes : List (Slot Scene)
  pub peers : List (Slot PeerCore)

-- a context of no scenes and no peers
abbrev pub empty_context : Context
empty_context = record { scenes = []; peers = [] }

-- the scene that a key names, if there is one
abbrev pub scene_at : Context → Key → Option Scene
scene_at c key = value_at c.scenes key

-- the peer that a key names, if there is one
abbrev pub peer_at : Context → Key → Option PeerCore
peer_at c key = value_at c.peers key

-- a context with another scene for a key that names one
abbrev pub with_scene : Context → Key → Scene → Context
with_scene c key scene = record { scenes = with_value c.scenes key scene; peers = c.peers }

-- a context with another peer for a key that names one
abbrev pub with_peer : Context → Key → PeerCore → Context
with_peer c key peer = record { scenes = c.scenes; peers = with_value c.peers key peer }

-- a context with one scene more, under the next key
abbrev pub with_new_scene : Context → Key → Scene → Context
with_new_scene c key scene =
    record { scenes = with_new_value c.scenes key scene; peers = c.peers }

-- a context with one peer more, under the next key
abbrev pub with_new_peer : Context → Key → PeerCore → Context
with_new_peer c key peer =
    record { scenes = c.scenes; peers = with_new_value c.peers key peer }

-- a context without the scene that a key names
abbrev pub without_scene : Context → Key → Context
without_scene c key = record { scenes = without_value c.scenes key; peers = c.peers }

-- a context without the peer that a key names
abbrev pub without_peer : Context → Key → Context
without_peer c key = record { scenes = c.scenes; peers = without_value c.peers key }
