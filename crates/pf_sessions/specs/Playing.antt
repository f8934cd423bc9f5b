-- The peers of a session before and after they have played.
use Rattle.std.specs.Prelude.{◌≡◌, ◌⊎◌, ℕ, ⊤, Bool, List, [], ◌∷◌, ◌++◌, Err, None, Ok, Option, Result, Some}
use Rattle.std.specs.List.{AllZip, range_with_len}
use Rattle.pf_shapes.specs.Scene.{Scene}
use Rattle.pf_rollback.specs.Core.{new_core}
use Rattle.pf_scripts.specs.Peer.{scripted_player, setting_of}
use Rattle.pf_scripts.specs.Play.{HasPlayed, IsPeerError, IsCrewErrorOfPlay}
use Rattle.pf_scripts.specs.Script.{script_fault}
use Rattle.pf_scripts.specs.declared.error.SessionError.{SessionError}
use Rattle.pf_scripts.specs.declared.error.SessionError.TheVariants as errors
use Rattle.pf_scripts.specs.declared.peer.Peer.{Peer}
use Rattle.pf_scripts.specs.declared.turn.Turn.{Turn}
use Rattle.pf_sessions.specs.Links.{AreLinked, IsNewLink, inputs_of, outputs_of}
use Rattle.pf_sessions.specs.declared.links.TheConstants.{RING}

-- a peer of this player that has done nothing
pub record IsNewPeer (s : Scene) (player : ℕ) (p : Peer) : Type 0 where
  pub core : p.core ≡ new_core s player RING
  pub kept : p.kept ≡ None

-- so many new peers, by their players, with new links between each two
pub record AreNewPeers (s : Scene) (count : ℕ) (peers : List Peer) : Type 0 where
  pub each : AllZip (IsNewPeer s) (range_with_len 0 count) peers
  pub links : AreLinked IsNewLink (outputs_of peers) (inputs_of peers)

-- each peer has played its script
abbrev pub AllPlayed : List (List Turn) → List Peer → List Peer → Type 0
AllPlayed [] [] [] = ⊤
AllPlayed (script ∷ scripts) (old ∷ olds) (new ∷ news) =
    HasPlayed script old new × AllPlayed scripts olds news
AllPlayed scripts olds news = ⊥

-- the fault of a peer's script, if it has one
abbrev pub own_fault : List Turn → Peer → Option SessionError
own_fault script p =
    script_fault (setting_of p) (scripted_player p).player 0 (scripted_player p).reached script

-- with which fault a peer's play may end
abbrev pub IsPlayError : Bool → Option ℕ → List Turn → Peer → SessionError → Type 0
IsPlayError always crew script p fault =
    IsPeerError (IsCrewErrorOfPlay always crew) (scripted_player p).player fault
    ⊎ (own_fault script p ≡ Some fault)

-- what a peer's play may return
abbrev pub IsPlayOutcome : Bool → Option ℕ → List Turn → Peer → Result Peer SessionError → Type 0
IsPlayOutcome always crew script p (Ok played) = HasPlayed script p played
IsPlayOutcome always crew script p (Err fault) = IsPlayError always crew script p fault

-- a peer fails, and the scripts of lesser peers have no fault
pub record LeastFails (always : Bool) (crew : Option ℕ) (scripts : List (List Turn))
    (peers : List Peer) (fault : SessionError) : Type 0 where
  pub lesser_scripts : List (List Turn)
  pub script : List Turn
  pub other_scripts : List (List Turn)
  pub scripts_are : scripts ≡ lesser_scripts ++ script ∷ other_scripts
  pub lesser_peers : List Peer
  pub peer : Peer
  pub other_peers : List Peer
  pub peers_are : peers ≡ lesser_peers ++ peer ∷ other_peers
  pub lesser : AllZip (λ script p. own_fault script p ≡ None) lesser_scripts lesser_peers
  pub fails : IsPlayError always crew script peer fault

-- with which fault the play of all peers may end
abbrev pub IsPlayersError : Bool → Option ℕ → List (List Turn) → List Peer → SessionError → Type 0
IsPlayersError always crew scripts peers fault =
    LeastFails always crew scripts peers fault
    ⊎ ((fault ≡ errors.OutOfMemory) ⊎ (fault ≡ errors.NoThread))
