-- A job may be sent to another thread. The kit finds that for most structs by itself, but not where
-- messages of a channel hold snapshots: so it is put together here by the types that it is made of.
use denote.RattleType.{RattleType}
use denote.Param.Send.{IsSend, IsSync, sendable, recorded_send, struct_send}
use denote.Struct.Declared
use Rattle.std.proofs.Crossing.{crosses}
use Rattle.std.proofs.alloc.Global.TheSendSync as global
use Rattle.std.below.std_heap.proofs.GlobalAllocator.TheSendSync as heap
use Rattle.std.proofs.option.Option.TheSendSync as option
use Rattle.std.specs.contracts.alloc.Global
use Rattle.std.specs.contracts.impls.GlobalAllocator.TheImpl as allocator
use Rattle.std.specs.contracts.option.Option
use Rattle.crossbeam_channel.below.atomic_table.proofs.badge.Badge.TheSendSync as badge
use Rattle.crossbeam_channel.below.atomic_table.proofs.shared.Seat.TheSendSync as seat
use Rattle.crossbeam_channel.below.atomic_table.specs.contracts.badge.Badge
use Rattle.crossbeam_channel.proofs.channel.Receiver.TheSendSync as receiver
use Rattle.crossbeam_channel.proofs.flavors.array.Rows.TheSendSync as rows
use Rattle.crossbeam_channel.proofs.flavors.array.ruled.Sending.TheSendSync as sending
use Rattle.crossbeam_channel.specs.contracts.channel.Receiver
use Rattle.crossbeam_channel.specs.contracts.flavors.array.Doing
use Rattle.crossbeam_channel.specs.contracts.flavors.array.Key
use Rattle.crossbeam_channel.specs.contracts.flavors.array.Lockers
use Rattle.crossbeam_channel.specs.contracts.flavors.array.LockersTableRuleOptionKeyUnit.TheImpl as lockers
use Rattle.crossbeam_channel.specs.contracts.flavors.array.Rounds
use Rattle.crossbeam_channel.specs.contracts.flavors.array.RoundsTableRuleBadgeKeyDoingBadgeKey.TheImpl as rounds
use Rattle.crossbeam_channel.specs.contracts.flavors.array.Rows
use Rattle.crossbeam_channel.specs.contracts.flavors.array.Whole
use Rattle.crossbeam_channel.specs.contracts.flavors.array.WholeSight.TheImpl as whole
use Rattle.pf_pool.specs.contracts.reply.Known
use Rattle.pf_pool.specs.contracts.reply.Message
use Rattle.pf_pool.specs.contracts.reply.Replies
use Rattle.pf_pool.specs.contracts.reply.Replier
use Rattle.pf_pool.specs.contracts.reply.RepliesProtocolMessagePartKnownPart.TheImpl as rule
use Rattle.pf_pool.specs.contracts.worker.Job
use Rattle.pf_pool.specs.declared.task.Task.{Ghosts}

module _ (T P : RattleType) (task : Ghosts T.Denot P.Denot) (part_send : IsSend P) where
  abbrev message : RattleType
  message = Message.the_row P

  message_send : IsSend message
  message_send = search (crosses, sendable) depth 60 fits 20000

  abbrev known : RattleType
  known = Known.the_row P

  abbrev badges : RattleType
  badges = Badge.the_row (Key.the_row message)

  abbrev channel : RattleType
  channel =
      Rows.the_row badges (Doing.the_row message known) (Rounds.the_row (Replies.the_row T)) (Option.the_row message) (Key.the_row message)
      (Lockers.the_row Whole.the_row) Global.the_row
      (rounds.ghosts message known (Replies.the_row T) (rule.ghosts T P task rule.no_dict rule.no_dict) rounds.no_dict)
      (lockers.ghosts message message Whole.the_row (whole.ghosts message) lockers.no_dict)
      allocator.ghosts

  channel_send : IsSend channel
  channel_send =
      rows.the_send badges (Doing.the_row message known) (Rounds.the_row (Replies.the_row T)) (Option.the_row message) (Key.the_row message)
      (Lockers.the_row Whole.the_row) Global.the_row
      (rounds.ghosts message known (Replies.the_row T) (rule.ghosts T P task rule.no_dict rule.no_dict) rounds.no_dict)
      (lockers.ghosts message message Whole.the_row (whole.ghosts message) lockers.no_dict)
      allocator.ghosts
      (badge.the_send (Key.the_row message)) (option.the_send message message_send) global.the_send heap.the_frees

  channel_sync : IsSync channel
  channel_sync =
      rows.the_sync badges (Doing.the_row message known) (Rounds.the_row (Replies.the_row T)) (Option.the_row message) (Key.the_row message)
      (Lockers.the_row Whole.the_row) Global.the_row
      (rounds.ghosts message known (Replies.the_row T) (rule.ghosts T P task rule.no_dict rule.no_dict) rounds.no_dict)
      (lockers.ghosts message message Whole.the_row (whole.ghosts message) lockers.no_dict)
      allocator.ghosts
      (badge.the_send (Key.the_row message)) (option.the_send message message_send) global.the_send global.the_sync heap.the_frees

  replier_send : IsSend (Replier.the_field T P task).row
  replier_send =
      struct_send (Declared.shape (Replier.the_type T P task))
      (sending.the_field_send channel Global.the_row allocator.ghosts channel_send global.the_send channel_sync global.the_sync heap.the_frees, (seat.the_send badges (Doing.the_row message known) (badge.the_send (Key.the_row message)), (search sendable depth 9, tt)))

  job_send : IsSend (Job.the_row T P task)
  job_send =
      recorded_send (Job.the_field T P task).row _ _ (Job.the_type T P task).to_one
      (struct_send (Declared.shape (Job.the_type T P task)) (search sendable depth 9, (search sendable depth 9, (part_send, (replier_send, tt)))))

  pub jobs_send : IsSend (Receiver.the_row (Option.the_row (Job.the_row T P task)) Global.the_row allocator.ghosts)
  jobs_send =
      receiver.the_send (Option.the_row (Job.the_row T P task)) Global.the_row allocator.ghosts
      (option.the_send (Job.the_row T P task) job_send) global.the_send global.the_sync heap.the_frees
