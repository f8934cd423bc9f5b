-- Checks of commands, one after the other.
use Rattle.std.proofs.Common.{◌≡◌, List, [], ◌∷◌, ◌++◌, Result, Ok, Err, refl, ap, ◌∙◌}
use Rattle.std.specs.Prelude.{All}
use Rattle.std.proofs.lemmas.List.Elements.{All-nil, All-cons, All-head, All-tail}
use Rattle.pf_shapes.specs.Scene.{Scene}
use Rattle.pf_commands.specs.declared.checking.CheckFault.{CheckFault}
use Rattle.pf_commands.specs.declared.payload.Payload.{Payload}
use Rattle.pf_commands.specs.Name.{Name}
use Rattle.pf_commands.specs.Check.{check, first_failure, check_all, IsAllowed, IsFirstError}

-- checks of a list that begins with another
check_all-append : (s : Scene) (es others : List (Name × Payload)) →
    check_all s (es ++ others) ≡ first_failure (check_all s es) (check_all s others)
check_all-append s [] others = refl
check_all-append s (e ∷ es) others = ap (first_failure (check s e.0 e.1)) (check_all-append s es others) ∙ regroup (check s e.0 e.1) (check_all s es) (check_all s others)
  where
    regroup : (a b c : Result (Unit {0}) CheckFault) → first_failure a (first_failure b c) ≡ first_failure (first_failure a b) c
    regroup (Ok done) b c = refl
    regroup (Err fault) b c = refl

-- behind commands that are all allowed
pub check_all_behind : (s : Scene) (es others : List (Name × Payload)) → check_all s es ≡ Ok tt →
    check_all s (es ++ others) ≡ check_all s others
check_all_behind s es others h = check_all-append s es others ∙ ap (λ r. first_failure r (check_all s others)) h

-- one command more that is allowed
pub check_all_more : (s : Scene) (es : List (Name × Payload)) (e : Name × Payload) → check_all s es ≡ Ok tt →
    check s e.0 e.1 ≡ Ok tt → check_all s (es ++ e ∷ []) ≡ Ok tt
check_all_more s es e h here = check_all_behind s es (e ∷ []) h ∙ ap (λ r. first_failure r (Ok tt)) here

-- the first command that is not allowed
pub check_all_stops : (s : Scene) (all es rest : List (Name × Payload)) (e : Name × Payload) (fault : CheckFault) →
    all ≡ es ++ e ∷ rest → check_all s es ≡ Ok tt → check s e.0 e.1 ≡ Err fault → check_all s all ≡ Err fault
check_all_stops s all es rest e fault whole h here =
    ap (check_all s) whole ∙ check_all_behind s es (e ∷ rest) h ∙ ap (λ r. first_failure r (check_all s rest)) here

-- ---- what the result means

pub each_allowed : (s : Scene) (es : List (Name × Payload)) → check_all s es ≡ Ok tt → All (IsAllowed s) es
each_allowed s [] h = All-nil (IsAllowed s)
each_allowed s (e ∷ es) h = by (check s e.0 e.1) refl h (each_allowed s es)
  where
    by : (r : Result (Unit {0}) CheckFault) → check s e.0 e.1 ≡ r → first_failure r (check_all s es) ≡ Ok tt
        → (check_all s es ≡ Ok tt → All (IsAllowed s) es) → All (IsAllowed s) (e ∷ es)
    by (Ok done) here h rest = All-cons (IsAllowed s) e es here (rest h)
    by (Err fault) here h rest = absurd cc

pub all_allowed : (s : Scene) (es : List (Name × Payload)) → All (IsAllowed s) es → check_all s es ≡ Ok tt
all_allowed s [] h = refl
all_allowed s (e ∷ es) h =
    ap (λ r. first_failure r (check_all s es)) (All-head (IsAllowed s) e es h) ∙ all_allowed s es (All-tail (IsAllowed s) e es h)

pub first_fault : (s : Scene) (es : List (Name × Payload)) (fault : CheckFault) → check_all s es ≡ Err fault → IsFirstError s es fault
first_fault s [] fault h = absurd cc
first_fault s (e ∷ es) fault h = by (check s e.0 e.1) refl h (first_fault s es fault)
  where
    by : (r : Result (Unit {0}) CheckFault) → check s e.0 e.1 ≡ r → first_failure r (check_all s es) ≡ Err fault
        → (check_all s es ≡ Err fault → IsFirstError s es fault) → IsFirstError s (e ∷ es) fault
    by (Ok done) here h rest =
        let found = rest h in
        record {
          before = e ∷ found.before;
          first = found.first;
          after = found.after;
          commands_are = ap (λ others. e ∷ others) found.commands_are;
          allowed = All-cons (IsAllowed s) e found.before here found.allowed;
          refused = found.refused;
        }
    by (Err other) here h rest =
        record { before = []; first = e; after = es; commands_are = refl; allowed = All-nil (IsAllowed s); refused = here ∙ h }

pub fault_first : (s : Scene) (es : List (Name × Payload)) (fault : CheckFault) → IsFirstError s es fault → check_all s es ≡ Err fault
fault_first s es fault h =
    check_all_stops s es h.before h.after h.first fault h.commands_are (all_allowed s h.before h.allowed) h.refused
