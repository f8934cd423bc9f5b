-- Contact points with their places among all.
use Rattle.std.specs.Prelude.{ℕ, Bool, false, ◌||◌, List, filter, slice_index_or}
use Rattle.std.specs.List.{enumerate_from}
use Rattle.pf_manifold.specs.Touches.{Touch}

-- one of the bodies of a contact point has its flag set
abbrev pub is_flagged : List Bool → Touch → Bool
is_flagged flags t = slice_index_or flags t.a false || slice_index_or flags t.b false

-- the contact points with such a body, each with its place among all
abbrev pub flagged_points : List Bool → List Touch → List (ℕ × Touch)
flagged_points flags touches = filter (λ m. is_flagged flags m.1) (enumerate_from 0 touches)
