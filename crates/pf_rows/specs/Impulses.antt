-- The accumulated impulses of a contact, Box2D-Lite's Pn and Pt, and when they are the same.
use Rattle.std.specs.Prelude.{ℤ, pos, Bool, ◌&&◌}
use Rattle.std.specs.Ordering.{int_eq}

-- the accumulated impulses along the normal and along the tangent
pub record Impulses : Type 0 where
  pub normal : ℤ
  pub tangent : ℤ

abbrev pub no_impulses : Impulses
no_impulses = record { normal = pos 0; tangent = pos 0 }

abbrev pub same_impulses : Impulses → Impulses → Bool
same_impulses a b = int_eq a.normal b.normal && int_eq a.tangent b.tangent
