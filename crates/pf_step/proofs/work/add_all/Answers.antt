use Rattle.pf_step.proofs.Following.{numbered_more}
use Rattle.pf_step.proofs.work.add_all.Goals as goal

pub loop-number-preserved : goal.loop-number-preserved
loop-number-preserved c =
    numbered_more c.args.numbers.now.items c.loop-number.numbers.items c.push.new.self.items c.loop-number.number c.loop-number.invariant c.in_ok-push.ensures.items
