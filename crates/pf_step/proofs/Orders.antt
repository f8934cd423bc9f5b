-- Commands, one payload after the other.
use Rattle.std.proofs.Common.{◌≡◌, ℕ, ◌+◌, ◌<◌, List, [], ◌∷◌, ◌++◌, length, take, get_or, refl, ap, sym, ◌∙◌, add-one}
use Rattle.std.proofs.Math.Seq.{take-suc}
use Rattle.pf_shapes.specs.Fixture.{Fixture}
use Rattle.pf_shapes.specs.Body.{BodyState}
use Rattle.pf_commands.specs.declared.payload.Payload.{Payload}
use Rattle.pf_step.specs.Commands.{after_command, after_commands}

pub after_commands_none : (fixtures : List Fixture) (bodies : List BodyState) → after_commands fixtures bodies [] ≡ bodies
unfolding after_commands
after_commands_none fixtures bodies = refl

-- one payload more
after_commands_more : (fixtures : List Fixture) (bodies : List BodyState) (payloads : List Payload) (p : Payload) →
    after_commands fixtures bodies (payloads ++ p ∷ []) ≡ after_command fixtures (after_commands fixtures bodies payloads) p
unfolding after_commands
after_commands_more fixtures bodies [] p = refl
after_commands_more fixtures bodies (q ∷ payloads) p = after_commands_more fixtures (after_command fixtures bodies q) payloads p

-- the payload of one index, behind those before it
pub after_commands_take : (fixtures : List Fixture) (bodies : List BodyState) (payloads : List Payload) (i : ℕ) (p : Payload) →
    i < length payloads → p ≡ get_or payloads i p →
    after_commands fixtures bodies (take (i + 1) payloads) ≡ after_command fixtures (after_commands fixtures bodies (take i payloads)) p
after_commands_take fixtures bodies payloads i p below is =
    ap (after_commands fixtures bodies) (rw add-one (take-suc payloads i p below) ∙ ap (λ (x : Payload). take i payloads ++ x ∷ []) (sym is))
    ∙ after_commands_more fixtures bodies (take i payloads) p
