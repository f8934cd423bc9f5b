use Rattle.pf_shapes.proofs.Inertia.{inertia_positive, inertia_monotone, inverse_mass_positive, inverse_inertia_zero}
use Rattle.pf_shapes.proofs.laws.inertias_are_positive.Goals as goal

pub returns-clause-positive : goal.returns-clause-positive
returns-clause-positive c = inertia_positive

pub returns-clause-monotone : goal.returns-clause-monotone
returns-clause-monotone c = inertia_monotone

pub returns-clause-inverse_mass : goal.returns-clause-inverse_mass
returns-clause-inverse_mass c = inverse_mass_positive

pub returns-clause-inverse_inertia : goal.returns-clause-inverse_inertia
returns-clause-inverse_inertia c = inverse_inertia_zero
