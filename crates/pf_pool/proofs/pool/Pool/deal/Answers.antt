use Rattle.std.proofs.Common.{Global, Option, Vec, ap}
use Rattle.pf_pool.specs.declared.reply.Dealt.{Dealt}
use Rattle.pf_pool.proofs.Answered.{if_ok_then}
use Rattle.pf_pool.proofs.pool.Pool.deal.Goals as goal

pub returns-clause-dealt : goal.returns-clause-dealt
returns-clause-dealt g c =
    let dealt : Dealt g.row.T-Part.Denot = record { parts = c.of.result } in
    if_ok_then c.deal.result c.deal.ensures.dealt
    (λ collector is. (dealt, is, ap (λ (v : Vec (Option g.row.T-Part.Denot) Global). v.items) c.of.ensures))
