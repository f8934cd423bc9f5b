-- Cores of peers that are merged.
use Rattle.std.proofs.Common.{◌≡◌, ℕ, Result, subst}
use Rattle.std.specs.declared.alloc.AllocError.{AllocError}
use Rattle.pf_rollback.specs.Core.{PeerCore}
use Rattle.pf_events.specs.declared.event.Reply.{Reply}
use Rattle.pf_events.specs.Answers.{IsMergeReply}

pub merged_core : (peer : ℕ) (x y old other new : PeerCore) (result : Result Reply AllocError) → x ≡ old → y ≡ other
    → IsMergeReply peer y.peer x new result → IsMergeReply peer other.peer old new result
merged_core peer x y old other new result core merged reply =
    subst (λ (a : PeerCore). IsMergeReply peer other.peer a new result) core
    (subst (λ (b : PeerCore). IsMergeReply peer b.peer x new result) merged reply)
