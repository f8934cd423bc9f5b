-- Commands that one peer of a context takes from another.
use Rattle.std.specs.Prelude.{◌≡◌, ◌≢◌, ◌↔◌, ◌⊎◌, ℕ, IsErrOf, None, Result, Some}
use Rattle.pf_context.specs.declared.key.Key.{Key}
use Rattle.pf_rollback.specs.declared.error.PeerError.{PeerError}
use Rattle.pf_rollback.specs.Core.{PeerCore}
use Rattle.pf_rollback.specs.Peer.{Peer}
use Rattle.pf_context.specs.declared.error.ContextError.{ContextError}
use Rattle.pf_context.specs.declared.error.ContextError.TheVariants.{BadKey}
use Rattle.pf_context.specs.declared.merging.MergeRule.{MergeRule}
use Rattle.pf_context.specs.declared.merging.MergeRule.TheVariants.{AnyHorizon, SameHorizon}
use Rattle.pf_rollback.specs.Calls.{Merges, MergesSealed}
use Rattle.pf_context.specs.Calls.{CallsPeer}
use Rattle.pf_context.specs.Context.{Context, peer_at}
use Rattle.pf_context.specs.Errors.{peer_error, shown}

-- a peer takes the commands that another one holds, which has sealed the same
abbrev pub MergesPeer : Peer → PeerCore → PeerCore → Result ℕ PeerError → Type 0
MergesPeer other = MergesSealed other.horizon other.base other.commands

-- the same whatever the other one has sealed
abbrev pub MergesPeerAlone : Peer → PeerCore → PeerCore → Result ℕ PeerError → Type 0
MergesPeerAlone other = Merges other.commands

-- the same by a rule
abbrev pub MergesBy : MergeRule → Peer → PeerCore → PeerCore → Result ℕ PeerError → Type 0
MergesBy SameHorizon = MergesPeer
MergesBy AnyHorizon = MergesPeerAlone

-- One peer takes the commands of another one. Merged into itself it stays as it is; where the other
-- key names nothing, nothing changes.
pub record IsMerge
    (Merging : Peer → PeerCore → PeerCore → Result ℕ PeerError → Type 0) (peer other : Key)
    (old new : Context) (result : Result ℕ ContextError) : Type 0 where
  pub bad_key : IsErrOf result BadKey ↔ ((peer_at old peer ≡ None) ⊎ (peer_at old other ≡ None))
  pub two : (others : PeerCore) → other ≢ peer → peer_at old other ≡ Some others
      → CallsPeer peer_error old new peer result (Merging others.peer)
  pub itself : other ≡ peer → (result ≡ shown (λ core. 0) (peer_at old peer)) × (new ≡ old)
  pub no_other : peer_at old other ≡ None → new ≡ old
