use Rattle.std.proofs.Common.{◌≢◌, All, take}
use Rattle.pf_manifold.specs.Key.{rank}
use Rattle.pf_cache.specs.Contact.{Contact}
use Rattle.pf_cache.proofs.contacts_change.place_of.Given as goal

abbrev pub invariant-loop-place : goal.invariant-loop-place
invariant-loop-place l = All (λ (c : Contact). rank c.key ≢ l.wanted) (take l.place l.contacts)
