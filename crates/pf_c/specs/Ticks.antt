-- The counts of work, as C is told.
use Rattle.pf_cache.specs.Meter.{Meter}
use Rattle.pf_c.specs.declared.ticks.PfCounts.{PfCounts}

-- how much work was done
abbrev pub counts_of : Meter → PfCounts
counts_of m = record { ticks = m.ticks; collides = m.collides }
