use Rattle.std.proofs.Common.{◌≡◌, ◌≤◌, ◌*◌, ◌++◌, drop}
use Rattle.pf_cache.specs.Live.{is_live}
use Rattle.pf_cache.specs.Slots.{slot_places}
use Rattle.pf_cache.proofs.live.live_places.Given as goal

abbrev pub invariant-loop-place : goal.invariant-loop-place
invariant-loop-place l =
    (l.skipped ≤ 2 * l.place)
    × (l.live.items ++ slot_places (is_live l.watched) l.place l.skipped (drop l.place l.slots)
    ≡ slot_places (is_live l.watched) 0 0 l.slots)
