-- What a mark of each group does to the bodies of the group.
use Rattle.std.specs.Prelude.{ℕ, Bool, false, List, map, slice_index_or}
use Rattle.std.specs.List.{zip}
use Rattle.pf_shapes.specs.Body.{BodyState}

-- a body is awake where its group has a mark
abbrev pub marked_body : List Bool → ℕ × BodyState → BodyState
marked_body marks m = record m.1 { awake = slice_index_or marks m.0 false }

-- the bodies, each changed by its state and the label of its group
abbrev pub each_labelled : (ℕ × BodyState → BodyState) → List ℕ → List BodyState → List BodyState
each_labelled change labels bodies = map change (zip labels bodies)
