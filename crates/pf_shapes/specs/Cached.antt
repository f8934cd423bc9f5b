-- What a fixture stores beside its parts: its inverse mass and inverse inertia, computed once.
use Rattle.std.specs.Prelude.{◌≡◌}
use Rattle.pf_shapes.specs.declared.fixture.Fixture.TheInside.{Inside}
use Rattle.pf_shapes.specs.Fixture.{Fixture, IsFixture, inverse_mass, inverse_inertia}

abbrev pub cached_parts : Inside → Fixture
cached_parts f = record { shape = f.shape; mass = f.mass; friction = f.friction; owner = f.owner }

-- the parts are within their limits, and what is stored is computed from them
pub record IsCached (f : Inside) : Type 0 where
  pub ranges : IsFixture (cached_parts f)
  pub mass : f.inverse_mass ≡ inverse_mass (cached_parts f)
  pub inertia : f.inverse_inertia ≡ inverse_inertia (cached_parts f)
