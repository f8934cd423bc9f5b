use Rattle.std.proofs.Common.{◌≡◌}
use Rattle.pf_cache.specs.Live.{is_live}
use Rattle.pf_cache.specs.Slots.{pairs_to_compute, is_stale, slot_places}
use Rattle.pf_cache.proofs.SlotPlaces.{Walked, skipped_behind}
use Rattle.pf_cache.proofs.stale.stale_slots.Given as goal

abbrev pub invariant-loop-live_place : goal.invariant-loop-live_place
invariant-loop-live_place l =
    let stale = is_stale l.bounds l.unmoved.items in
    (walked : Walked (is_live l.live.watched.items) l.live.places.items l.slots l.live_place-index)
    × record {
      places : l.places.items ≡ slot_places stale 0 0 walked.front;
      skipped : l.skipped ≡ skipped_behind stale 0 walked.front;
      pairs : l.pairs.items ≡ pairs_to_compute l.bounds l.unmoved.items walked.front;
    }
