-- A contact of a tick as the solver takes it, as Box2D-Lite's Arbiter with its Contact: its point,
-- its accumulated impulses, where its bodies stand, and what its pre-step found.
use Rattle.std.specs.Prelude.{◌≢◌, ℕ, ◌<◌, ◌==◌, ℤ, pos, List, [], ◌∷◌, map, if◌then◌else◌}
use Rattle.pf_rot.specs.Vector.{V2, zero_vector}
use Rattle.pf_manifold.specs.Touches.{Touch}
use Rattle.pf_rows.specs.declared.constraint.Constraint as constraint
use Rattle.pf_rows.specs.declared.constraint.InverseMass as mass
use Rattle.pf_rows.specs.declared.row.Side.{Side}
use Rattle.pf_rows.specs.declared.row.Side.TheVariants.{Static, Dynamic}
use Rattle.pf_manifold.specs.Key.{AreTouches, key_of, rank}
use Rattle.pf_rows.specs.Impulses.{Impulses}

-- a contact point with its accumulated impulses, its place among all contacts, and where its bodies
-- stand in a list of bodies
pub record Entry : Type 0 where
  pub touch : Touch
  pub impulses : Impulses
  pub place : ℕ
  pub first : Side
  pub second : Side

-- how easily impulses move a body; both are 0 for a static body
abbrev pub InverseMass : Type 0
InverseMass = mass.InverseMass ℤ

abbrev pub no_mass : InverseMass
no_mass = record { inverse_mass = pos 0; inverse_inertia = pos 0 }

-- the part of a contact that stays fixed during the rounds
abbrev pub Constraint : Type 0
Constraint = constraint.Constraint V2 ℤ ℤ

abbrev pub no_constraint : Constraint
no_constraint = record {
  normal = zero_vector;
  tangent = zero_vector;
  first_arm = zero_vector;
  second_arm = zero_vector;
  normal_mass = pos 0;
  tangent_mass = pos 0;
  bias = pos 0;
  friction = pos 0;
}

-- what the rounds need of a contact beside its impulses: the inverse masses of its bodies, and its
-- constraint
pub record Prepared : Type 0 where
  pub first_mass : InverseMass
  pub second_mass : InverseMass
  pub constraint : Constraint

-- an entry with the masses of its bodies and its constraint, as a pre-step left them
pub record Row : Type 0 where
  pub entry : Entry
  pub first_mass : InverseMass
  pub second_mass : InverseMass
  pub constraint : Constraint

-- an entry before its pre-step
abbrev pub new_row : Entry → Row
new_row e = record {
  entry = e;
  first_mass = no_mass;
  second_mass = no_mass;
  constraint = no_constraint;
}

-- static, or a place below `bodies`
abbrev pub IsSide : ℕ → Side → Type 0
IsSide bodies Static = Unit {0}
IsSide bodies (Dynamic place) = place < bodies

-- two places are different
abbrev pub AreApart : Side → Side → Type 0
AreApart (Dynamic first) (Dynamic second) = first ≢ second
AreApart first second = Unit {0}

-- each body of an entry is static or has a place in a list of n bodies; two places are different
pub record IsEntryOf (bodies : ℕ) (e : Entry) : Type 0 where
  pub first : IsSide bodies e.first
  pub second : IsSide bodies e.second
  pub apart : AreApart e.first e.second

-- rows in the order of their keys, each key once
abbrev pub AreRows : List Row → Type 0
AreRows rows = AreTouches (map (λ r. r.entry.touch) rows)

-- the accumulated impulses of the row of this rank, or these where there is no such row
abbrev pub impulses_or : Impulses → ℕ → List Row → Impulses
impulses_or p n [] = p
impulses_or p n (r ∷ rows) =
    if rank (key_of r.entry.touch) == n then r.entry.impulses else impulses_or p n rows
