use Rattle.std.proofs.Common.{◌∙◌, sym}
use Rattle.pf_cache.proofs.CarriedSlots.{none_there}
use Rattle.pf_cache.proofs.carrying.stands_at.Goals as goal

pub returns-clause-none : goal.returns-clause-none
returns-clause-none c = λ other.
    none_there c.args.old.now c.args.place c.args.pair.now c.index-old-place.result c.if-place-old.false c.index-old-place.is
    c.requires.rising c.requires.bodies c.requires.pair c.requires.reached (sym c.is_of.ensures ∙ other)
