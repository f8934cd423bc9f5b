-- The replies to calls of peers.
use Rattle.std.specs.Prelude.{◌≡◌, ◌⊎◌, ℕ, [], Result, Ok, IfOk, IsErr, IsOk, OnErr}
use Rattle.std.specs.declared.alloc.AllocError.{AllocError}
use Rattle.pf_commands.specs.News.{news}
use Rattle.pf_rollback.specs.declared.error.PeerError.{PeerError}
use Rattle.pf_rollback.specs.declared.error.PeerError.TheVariants as errors
use Rattle.pf_rollback.specs.Core.{PeerCore}
use Rattle.pf_rollback.specs.Peer.{Peer}
use Rattle.pf_events.specs.declared.event.Reply.{Reply}
use Rattle.pf_events.specs.declared.event.Reply.TheVariants.{Merged, Refused}
use Rattle.pf_events.specs.Session.{merge_of, reply_and_peer}

-- of a call that failed: a refusal is a reply; out of memory is none
abbrev pub IsReplyOf : PeerError → Result Reply AllocError → Type 0
IsReplyOf (errors.Refused refusal) result = result ≡ Ok (Refused refusal)
IsReplyOf errors.OutOfMemory result = IsErr result

-- of a merge of another peer's commands, and the core after it; memory is needed only where one of
-- them is new or greater and the merge is not refused
pub record IsMergeReply
    (peer : ℕ) (other : Peer) (old new : PeerCore) (result : Result Reply AllocError)
    : Type 0 where
  pub reply : IfOk result (λ reply. (reply, new.peer)
      ≡ reply_and_peer (λ count. Merged peer count) old.peer (merge_of old.scene old.peer other))
  pub scene : new.scene ≡ old.scene
  pub no_memory : IsErr (merge_of old.scene old.peer other)
      ⊎ (news old.peer.commands other.commands ≡ []) → IsOk result
  pub err : OnErr result (new ≡ old)
