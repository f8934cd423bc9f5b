-- Which bodies are simulated, as a list of flags, and which are awake, as a list of numbers.
use Rattle.std.specs.Prelude.{◌≡◌, Bool, true, List, ℕ, filter, length, map}
use Rattle.std.specs.List.{range_with_len}
use Rattle.pf_shapes.specs.Body.{BodyState}
use Rattle.pf_shapes.specs.Scene.{Scene}
use Rattle.pf_broad.specs.Partners.{has_body}
use Rattle.pf_islands.specs.Rows.{is_awake_at, is_simulated_at}

-- for each body, whether it is dynamic and awake
abbrev pub simulated_flags : Scene → List BodyState → List Bool
simulated_flags s bodies = map (is_simulated_at s bodies) (range_with_len 0 (length bodies))

-- the numbers of the awake bodies, in ascending order
abbrev pub awake_numbers : List BodyState → List ℕ
awake_numbers bodies = filter (is_awake_at bodies) (range_with_len 0 (length bodies))

-- each awake body is listed
abbrev pub ListsAwake : List ℕ → List BodyState → Type 0
ListsAwake numbers bodies = (k : ℕ) → is_awake_at bodies k ≡ true → has_body numbers k ≡ true
