use Rattle.std.proofs.Common.{◌≡◌, ◌++◌, map}
use Rattle.std.specs.Prelude.{IfSome}
use Rattle.pf_cache.specs.KeySplices.{AreSplicesUpTo}
use Rattle.pf_cache.specs.Slots.{pairs_to_compute, is_stale, refreshed_slot}
use Rattle.pf_cache.specs.Stale.{AreNextPoints}
use Rattle.pf_cache.proofs.SplicesMade.{keys_of}
use Rattle.pf_cache.proofs.SlotPlaces.{Walked}
use Rattle.pf_cache.proofs.stale.refresh_slots.Given as goal

abbrev pub invariant-loop-place : goal.invariant-loop-place
invariant-loop-place l =
    let unmoved = l.stale.unmoved.items in
    let refreshed = refreshed_slot l.bounds unmoved l.shapes in
    (walked : Walked (is_stale l.bounds unmoved) l.stale.places.items l.initial.slots l.place-index)
    × record {
      slots : l.slots ≡ map refreshed walked.front ++ walked.rest;
      next : IfSome l.collided (λ touches. AreNextPoints l.shapes touches.items l.start (pairs_to_compute l.bounds unmoved walked.rest));
      splices : AreSplicesUpTo l.splices l.kept (keys_of walked.front) (keys_of (map refreshed walked.front));
    }
