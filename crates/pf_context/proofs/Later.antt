-- The later ones of some commands, and that a scene allows each command of a map.
use Rattle.std.proofs.Common.{◌≡◌, ◌<◌, ◌≤◌, ◌++◌, ◌∷◌, [], ℕ, T, true, cond, List, Some, ap, arith, length, length-append, nat_le, ◌∙◌, subst}
use Rattle.std.specs.FinMap.{entries, entries_sorted, find, get-entries}
use Rattle.std.specs.FinMap.Entries.{below_all, is_sorted}
use Rattle.std.proofs.lemmas.List.Elements.{filter-append}
use Rattle.std.proofs.lemmas.List.Sums.{count_by-le-length, length-filter}
use Rattle.pf_shapes.specs.Scene.{Scene}
use Rattle.pf_commands.specs.declared.payload.Payload.{Payload}
use Rattle.pf_commands.specs.Check.{IsAllowed}
use Rattle.pf_commands.specs.Merge.{CommandMap, name_cmp}
use Rattle.pf_commands.specs.Name.{Name}
use Rattle.pf_rollback.specs.Core.{AreAllowed}
use Rattle.pf_context.specs.Frames.{later_commands}
use Rattle.pf_commands.proofs.Since.{both_hold}
use Rattle.pf_commands.proofs.Lookups.{found_behind, found_first}

-- ---- later commands

-- one command more that is late enough
pub later_more : (tick : ℕ) (es : List (Name × Payload)) (e : Name × Payload) → nat_le tick e.0.tick ≡ true → later_commands tick (es ++ e ∷ []) ≡ later_commands tick es ++ e ∷ []
later_more tick es e late =
    filter-append (λ d. nat_le tick d.0.tick) es (e ∷ [])
    ∙ ap (λ b. later_commands tick es ++ cond b (e ∷ []) []) late

-- the later ones are no more than all
pub later_few : (tick : ℕ) (es : List (Name × Payload)) → length (later_commands tick es) ≤ length es
later_few tick es = omega (arith, length-filter (λ d. nat_le tick d.0.tick) es, count_by-le-length (λ d. nat_le tick d.0.tick) es)

-- before a late command there are fewer late ones than in all
pub later_before : (tick : ℕ) (es done rest : List (Name × Payload)) (e : Name × Payload) → es ≡ done ++ e ∷ rest → nat_le tick e.0.tick ≡ true → length (later_commands tick done) < length (later_commands tick es)
later_before tick es done rest e whole late =
    let split = filter-append (λ d. nat_le tick d.0.tick) done (e ∷ rest) in
    let head : later_commands tick (e ∷ rest) ≡ e ∷ later_commands tick rest = ap (λ b. cond b (e ∷ later_commands tick rest) (later_commands tick rest)) late in
    let counted : length (later_commands tick es) ≡ length (later_commands tick done ++ e ∷ later_commands tick rest) =
    ap (λ l. length (later_commands tick l)) whole ∙ ap length split ∙ ap (λ l. length (later_commands tick done ++ l)) head in
    omega (arith, counted, length-append (later_commands tick done) (e ∷ later_commands tick rest))

-- ---- a map that the scene allows

-- an entry between others of a sorted list is found under its name
found_between : (done rest : List (Name × Payload)) (e : Name × Payload) → T (is_sorted name_cmp (done ++ e ∷ rest)) → find name_cmp e.0 (done ++ e ∷ rest) ≡ Some e.1
found_between [] rest e sorted = found_first e rest
found_between (d ∷ done) rest e sorted =
    let parts = both_hold (below_all name_cmp d.0 (done ++ e ∷ rest)) (is_sorted name_cmp (done ++ e ∷ rest)) sorted in
    found_behind d (done ++ e ∷ rest) e.0 e.1 parts.0 (found_between done rest e parts.1)

-- the scene allows each entry of a map whose commands it allows
pub allowed_between : (s : Scene) (m : CommandMap) (done rest : List (Name × Payload)) (e : Name × Payload) → AreAllowed s m → entries m ≡ done ++ e ∷ rest → IsAllowed s e
allowed_between s m done rest e are whole =
    let P : List (Name × Payload) → Type 0 = λ es. T (is_sorted name_cmp es) in
    let sorted : T (is_sorted name_cmp (done ++ e ∷ rest)) = subst P whole (entries_sorted m) in
    are e.0 e.1 (get-entries m e.0 ∙ ap (find name_cmp e.0) whole ∙ found_between done rest e sorted)
