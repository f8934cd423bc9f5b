-- The lines of a scene have no output.
use Rattle.std.proofs.Common.{◌≡◌, ℕ, ◌<◌, ◌++◌, Bool, true, false, List, [], length, Result, Ok, Err, refl, sym, ap, subst, ◌∙◌, arith, if◌then◌else◌}
use Rattle.pf_text.specs.declared.fault.LineFault.{LineFault}
use Rattle.pf_text.specs.declared.fault.LineFault.TheVariants as line_faults
use Rattle.pf_text.specs.Driver.{StopsForWrite, line_step, fields_step, is_plain, is_skipped, without_output}
use Rattle.pf_text.specs.Fields.{fields_of}
use Rattle.pf_text.specs.Streams.{Transfer}
use Rattle.pf_shapes.specs.declared.reader.Progress.{Progress}
use Rattle.pf_shapes.specs.declared.reader.Progress.TheVariants.{More, Ended}
use Rattle.pf_shapes.specs.SceneRead.{transition, scene_rules, opening}
use Rattle.pf_shapes.specs.SceneText.{line_of}

-- the output of a transition, if it has any
output : {S F : Type 0} → Result (List ℕ × S) F → List ℕ
output (Ok reply) = reply.0
output (Err fault) = []

output-without_output : {S F : Type 0} (r : Result S F) → output (without_output r) ≡ []
unfolding output
output-without_output (Ok state) = refl
output-without_output (Err fault) = refl

output-transition : (state : Progress) (fields : List (List ℕ)) → output (transition state fields) ≡ []
unfolding transition output
output-transition (More reader) fields = output-without_output (line_of reader fields)
output-transition (Ended scene) fields = refl

output-fields_step : (state : Progress) (fields : Result (List (List ℕ)) LineFault) → output (fields_step scene_rules state fields) ≡ []
unfolding output
output-fields_step state (Ok fields) = output-transition state fields
output-fields_step state (Err fault) = refl

output-step : (state : Progress) (line : List ℕ) → output (line_step scene_rules state line) ≡ []
unfolding line_step output
output-step state line = plain (is_plain line)
  where
    skipped : (t : Bool) → output (if t then Ok ([], state) else fields_step scene_rules state (fields_of line)) ≡ []
    skipped true = refl
    skipped false = output-fields_step state (fields_of line)

    plain : (t : Bool)
        → output (if t then (if is_skipped line then Ok ([], state) else fields_step scene_rules state (fields_of line))
        else Err (scene_rules.line_error line_faults.BadLine)) ≡ []
    plain true = skipped (is_skipped line)
    plain false = refl

-- so a run over them does not stop for its writer
pub never_writes : (t : Transfer) → StopsForWrite scene_rules opening t → ⊥
unfolding output
never_writes t stops =
    let none : stops.part ++ stops.unwritten ≡ [] =
    sym (ap output stops.reply) ∙ output-step stops.state stops.line in
    let some : 0 < 0 = subst (λ bytes. 0 < length bytes) none stops.some in
    omega (arith, some)
