-- What steps of one simulation leave to the next one beside the world.
use Rattle.std.specs.Prelude.{◌≡◌, ◌<◌, ◌++◌, ℕ, Bool, true, false, List, [], All, length, map}
use Rattle.std.specs.List.{range_with_len}
use Rattle.pf_shapes.specs.Scene.{Scene}
use Rattle.pf_manifold.specs.Key.{key_of}
use Rattle.pf_cache.specs.Manifolds.{Manifolds, Collisions, kept_touches, no_manifolds}
use Rattle.pf_cache.specs.Meter.{Meter, saturating_sum}
use Rattle.pf_cache.specs.PlacedBodies.{HaveStayed, bodies_of}
use Rattle.pf_islands.specs.Flags.{ListsAwake}
use Rattle.pf_step.specs.World.{World}

-- how much work was done, the contact points of the last tick, and, if that is known, which bodies
-- may have moved since these points were kept; then the contacts have the keys of the points
pub record Work : Type 0 where
  pub meter : Meter
  pub manifolds : Manifolds
  pub dirty : List ℕ
  pub is_known : Bool

abbrev pub no_work : Work
no_work = record {
  meter = record { ticks = 0; collides = 0 };
  manifolds = no_manifolds;
  dirty = [];
  is_known = false;
}

-- the work after a tick with this narrow phase, in which these bodies may have moved
abbrev pub work_after_tick : Collisions → List ℕ → Work → Work
work_after_tick found dirty w = record {
  meter = record {
    ticks = saturating_sum w.meter.ticks 1;
    collides = saturating_sum w.meter.collides found.computed;
  };
  manifolds = found.manifolds;
  dirty = dirty;
  is_known = true;
}

-- which bodies may have moved once commands are applied: those that may have before, and the
-- commanded ones; where the former are not known, all of so many
abbrev pub dirty_bodies : Bool → List ℕ → ℕ → List ℕ → List ℕ
dirty_bodies true dirty count commanded = dirty ++ commanded
dirty_bodies false dirty count commanded = range_with_len 0 count

-- where a work knows which bodies of a world may have moved: these are bodies of the world; where
-- as many bodies are kept, all others stand as they were kept; the contacts have the keys of the
-- kept contact points; and each awake body is one of those that may have moved
abbrev pub KnowsWorld : Scene → World → Work → Type 0
KnowsWorld s world w =
    w.is_known ≡ true → All (λ number. number < length world.bodies) w.dirty
    × HaveStayed w.dirty (bodies_of w.manifolds) s.fixtures world.bodies
    × (map (λ c. c.key) world.contacts ≡ map key_of (kept_touches w.manifolds))
    × ListsAwake w.dirty world.bodies
