use Rattle.std.proofs.Common.{◌≡◌, length}
use Rattle.std.specs.List.{flat_map}
use Rattle.pf_cache.specs.Live.{is_live}
use Rattle.pf_cache.specs.Points.{flagged_points}
use Rattle.pf_cache.specs.Slots.{slot_touches}
use Rattle.pf_cache.proofs.SlotPlaces.{Walked}
use Rattle.pf_cache.proofs.slots.flagged_points_of_live.Given as goal

abbrev pub invariant-loop-live_place : goal.invariant-loop-live_place
invariant-loop-live_place l =
    (walked : Walked (is_live l.live.watched.items) l.live.places.items l.slots l.live_place-index)
    × ((l.end ≡ length (flat_map slot_touches walked.front)) × (l.points.items ≡ flagged_points l.flags (flat_map slot_touches walked.front)))
