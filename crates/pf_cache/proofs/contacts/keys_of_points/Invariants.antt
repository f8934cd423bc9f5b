use Rattle.std.proofs.Common.{◌≡◌, ◌≤◌, length, map, take}
use Rattle.std.specs.Prelude.{vec_capacity}
use Rattle.pf_manifold.specs.Key.{key_of}
use Rattle.pf_cache.proofs.contacts.keys_of_points.Given as goal

abbrev pub invariant-loop-touch : goal.invariant-loop-touch
invariant-loop-touch l = record {
  room : length l.touches ≤ vec_capacity l.keys;
  keys : l.keys.items ≡ map key_of (take l.touch-index l.touches);
}
