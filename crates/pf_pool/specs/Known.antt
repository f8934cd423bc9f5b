-- What a worker's end of a channel knows of what was dealt.
use Rattle.std.specs.Prelude.{Option}
use Rattle.crossbeam_channel.specs.Claims.{view}
use Rattle.pf_pool.specs.declared.reply.Dealt.{Dealt}
use Rattle.pf_pool.specs.declared.reply.Replier.{Replier}

abbrev pub known_to : {T P : Type 0} → Replier T P → Option (Dealt P)
known_to r = (view r.pass).dealt
