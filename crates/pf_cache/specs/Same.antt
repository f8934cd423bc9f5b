-- Tests of equality.
use Rattle.std.specs.Prelude.{Bool, ◌&&◌, List}
use Rattle.std.specs.Cmp.Lexicographic.{pointwise}
use Rattle.pf_manifold.specs.SameKeys.{same_key}
use Rattle.pf_rows.specs.Impulses.{same_impulses}
use Rattle.pf_cache.specs.Contact.{Contact}

-- the same key and the same accumulated impulses
abbrev pub same_contact : Contact → Contact → Bool
same_contact a b = same_key a.key b.key && same_impulses a.impulses b.impulses

-- the same contacts in the same order
abbrev pub same_contacts : List Contact → List Contact → Bool
same_contacts first second = pointwise same_contact first second
