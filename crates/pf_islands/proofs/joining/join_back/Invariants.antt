use Rattle.std.proofs.Common.{◌≡◌, map}
use Rattle.std.specs.Prelude.{drop}
use Rattle.pf_islands.specs.Join.{joined_bodies, joined_contacts}
use Rattle.pf_islands.proofs.joining.join_back.Given as goal

abbrev pub invariant-loop-island : goal.invariant-loop-island
invariant-loop-island l = record {
  bodies : joined_bodies (drop l.island-index l.islands) l.bodies ≡ joined_bodies l.islands l.initial.bodies;
  contacts : joined_contacts (drop l.island-index l.islands) l.contacts ≡ joined_contacts l.islands l.initial.contacts;
  keys : map (λ c. c.key) l.contacts ≡ map (λ c. c.key) l.initial.contacts;
}
