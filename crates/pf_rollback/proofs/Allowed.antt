-- Maps of commands that a scene allows: a command that it allows and a map that it allows are merged
-- into such a map, and what is left of one after a seal is such a map.
use Rattle.std.proofs.Common.{◌≡◌, ℕ, ◌⊎◌, Bool, true, false, cond, List, [], ◌∷◌, Some, None, Result, Ok, Err, nat_le, refl, ap, sym, ◌∙◌, subst, ⊎_elim}
use Rattle.std.specs.Ordering.{eq_by_cmp}
use Rattle.std.specs.FinMap.{get, get-empty, get-entries, empty, entries, find}
use Rattle.pf_shapes.specs.Scene.{Scene}
use Rattle.pf_commands.specs.declared.checking.CheckFault.{CheckFault}
use Rattle.pf_commands.specs.declared.payload.Payload.{Payload}
use Rattle.pf_commands.specs.Check.{check, first_failure, check_all, IsAllowed}
use Rattle.pf_commands.specs.Merge.{name_cmp, CommandMap, heaviest_of, merge, singleton}
use Rattle.pf_commands.specs.Name.{Name}
use Rattle.pf_commands.specs.Ticks.{commands_from}
use Rattle.pf_commands.proofs.Changes.{get-merge_one}
use Rattle.pf_commands.proofs.Merging.{same_name, get-merge}
use Rattle.pf_commands.proofs.Since.{get-commands_from}
use Rattle.pf_rollback.specs.Core.{AreAllowed}
use Rattle.pf_commands.proofs.Weights.{heavier_of_either}

pub allowed_empty : (s : Scene) → AreAllowed s empty
allowed_empty s name payload is = let none = sym (get-empty name_cmp name) ∙ is in absurd cc

pub allowed_put : (s : Scene) (m : CommandMap) (n : Name) (p : Payload) → AreAllowed s m → check s n p ≡ Ok tt
    → AreAllowed s (merge m (singleton n p))
allowed_put s m n p are checked name payload is = by (eq_by_cmp name_cmp name n) refl (sym (get-merge_one m n p name) ∙ is)
  where
    by : (b : Bool) → eq_by_cmp name_cmp name n ≡ b → cond b (heaviest_of (get m n) (Some p)) (get m name) ≡ Some payload
        → IsAllowed s (name, payload)
    by false other is = are name payload is
    by true tied is =
        let same : name ≡ n = same_name name n tied in
        ⊎_elim
        (λ old. are name payload (ap (get m) same ∙ old))
        (λ new. let this : p ≡ payload = cc in subst (λ x. IsAllowed s (x, payload)) (sym same) (subst (λ x. IsAllowed s (n, x)) this checked))
        (heavier_of_either (get m n) (Some p) payload is)

-- a command of a list that is allowed is allowed
found_allowed : (s : Scene) (es : List (Name × Payload)) (name : Name) (payload : Payload) → check_all s es ≡ Ok tt
    → find name_cmp name es ≡ Some payload → IsAllowed s (name, payload)
found_allowed s [] name payload checked found = absurd cc
found_allowed s (e ∷ es) name payload checked found =
    by (check s e.0 e.1) refl checked (eq_by_cmp name_cmp name e.0) refl found (found_allowed s es name payload)
  where
    by : (r : Result (Unit {0}) CheckFault) → check s e.0 e.1 ≡ r → first_failure r (check_all s es) ≡ Ok tt
        → (b : Bool) → eq_by_cmp name_cmp name e.0 ≡ b → cond b (Some e.1) (find name_cmp name es) ≡ Some payload
        → (check_all s es ≡ Ok tt → find name_cmp name es ≡ Some payload → IsAllowed s (name, payload)) → IsAllowed s (name, payload)
    by (Err fault) here checked b tied found rest = absurd cc
    by (Ok done) here checked false other found rest = rest checked found
    by (Ok done) here checked true tied found rest =
        let same : name ≡ e.0 = same_name name e.0 tied in
        let this : e.1 ≡ payload = cc in
        subst (λ x. IsAllowed s (x, payload)) (sym same) (subst (λ x. IsAllowed s (e.0, x)) this here)

pub allowed_merge : (s : Scene) (m k : CommandMap) → AreAllowed s m → check_all s (entries k) ≡ Ok tt → AreAllowed s (merge m k)
allowed_merge s m k are checked name payload is =
    ⊎_elim
    (λ old. are name payload old)
    (λ new. found_allowed s (entries k) name payload checked (sym (get-entries k name) ∙ new))
    (heavier_of_either (get m name) (get k name) payload (sym (get-merge m k name) ∙ is))

-- commands that are left of a map are allowed
pub allowed_from : (s : Scene) (tick : ℕ) (m : CommandMap) → AreAllowed s m → AreAllowed s (commands_from tick m)
allowed_from s tick m are name payload is = by (nat_le tick name.tick) (sym (get-commands_from tick m name) ∙ is)
  where
    by : (b : Bool) → cond b (get m name) None ≡ Some payload → IsAllowed s (name, payload)
    by true held = are name payload held
    by false held = absurd cc
