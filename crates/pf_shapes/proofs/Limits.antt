-- The limits of a scene are kept by one more body, and what follows from them.
use Rattle.std.proofs.Common.{List, [], ◌∷◌, ◌++◌}
use Rattle.std.specs.Prelude.{All}
use Rattle.std.proofs.lemmas.List.Elements.{All-nil, All-cons}
use Rattle.pf_rot.specs.Laws.{IsAtMostOne}
use Rattle.pf_shapes.specs.Body.{BodyState}
use Rattle.pf_shapes.specs.Fixture.{Fixture}
use Rattle.pf_shapes.specs.Scene.{IsStart, AreStarts}

pub starts_push : (fixtures : List Fixture) (starts : List BodyState) (f : Fixture) (b : BodyState) → AreStarts fixtures starts → IsStart f b
    → AreStarts (fixtures ++ f ∷ []) (starts ++ b ∷ [])
starts_push [] [] f b h start = (start, tt)
starts_push (g ∷ fixtures) (a ∷ starts) f b h start = (h.0, starts_push fixtures starts f b h.1 start)
starts_push [] (a ∷ starts) f b h start = elim h [ ]
starts_push (g ∷ fixtures) [] f b h start = elim h [ ]

pub starts_at_most_one : (fixtures : List Fixture) (starts : List BodyState) → AreStarts fixtures starts → All (λ b. IsAtMostOne b.rotation) starts
starts_at_most_one [] [] h = All-nil (λ b. IsAtMostOne b.rotation)
starts_at_most_one (f ∷ fixtures) (b ∷ starts) h = All-cons (λ b. IsAtMostOne b.rotation) b starts h.0.transform.1 (starts_at_most_one fixtures starts h.1)
starts_at_most_one [] (b ∷ starts) h = elim h [ ]
starts_at_most_one (f ∷ fixtures) [] h = elim h [ ]
