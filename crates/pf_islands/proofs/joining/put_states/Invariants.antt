use Rattle.std.proofs.Common.{◌≡◌, set}
use Rattle.std.specs.Prelude.{drop, fold}
use Rattle.std.specs.List.{zip}
use Rattle.pf_islands.proofs.joining.put_states.Given as goal

abbrev pub invariant-loop-place : goal.invariant-loop-place
invariant-loop-place l =
    fold (λ bs m. set bs m.0 m.1) l.bodies (zip (drop l.place l.numbers) (drop l.place l.states))
    ≡ fold (λ bs m. set bs m.0 m.1) l.initial.bodies (zip l.numbers l.states)
