-- Names and payloads of a map stay in range, and maps in range are merged in either order.
use Rattle.std.proofs.Common.{◌≡◌, true, false, cond, Some, refl, sym, ◌∙◌, ⊎_elim, subst}
use Rattle.std.specs.Ordering.{eq_by_cmp}
use Rattle.std.specs.FinMap.{get, get-insert, get-empty, empty, insert}
use Rattle.pf_commands.specs.Name.{Name, IsName}
use Rattle.pf_commands.specs.Payload.{IsPayload}
use Rattle.pf_commands.specs.Merge.{name_cmp, CommandMap, IsCommandMap, merge, singleton}
use Rattle.pf_commands.specs.declared.payload.Payload.{Payload}
use Rattle.pf_commands.proofs.Names.{name_cmp_total}
use Rattle.std.proofs.lemmas.Option.{same_Some}
use Rattle.pf_commands.proofs.Weights.{heavier_of_comm, heavier_of_either}
use Rattle.pf_commands.proofs.Merging.{same_commands, same_name, get-merge}

pub AreCommands-empty : IsCommandMap empty
AreCommands-empty name payload held = let none = sym (get-empty name_cmp name) ∙ held in cc

pub AreCommands-insert : (m : CommandMap) (n : Name) (p : Payload) → IsCommandMap m → IsName n → IsPayload p → IsCommandMap (insert m n p)
AreCommands-insert m n p are isn isp name payload held =
    elim (eq_by_cmp name_cmp name n) as (λ b. eq_by_cmp name_cmp name n ≡ b → cond b (Some p) (get m name) ≡ Some payload → IsName name × IsPayload payload) [
      | true ↦ λ tied is. (subst IsName (sym (same_name name n tied)) isn, subst IsPayload (same_Some p payload is) isp)
      | false ↦ λ _ is. are name payload is
    ] refl (sym (get-insert name_cmp_total m n p name) ∙ held)

pub AreCommands-one : (n : Name) (p : Payload) → IsName n → IsPayload p → IsCommandMap (singleton n p)
AreCommands-one n p isn isp = AreCommands-insert empty n p AreCommands-empty isn isp

pub AreCommands-merge : (m k : CommandMap) → IsCommandMap m → IsCommandMap k → IsCommandMap (merge m k)
AreCommands-merge m k arem arek name payload held =
    ⊎_elim (arem name payload) (arek name payload) (heavier_of_either (get m name) (get k name) payload (sym (get-merge m k name) ∙ held))

pub merge_comm : (m k : CommandMap) → IsCommandMap m → IsCommandMap k → merge m k ≡ merge k m
merge_comm m k arem arek = same_commands _ _ (λ name.
    get-merge m k name
    ∙ heavier_of_comm (get m name) (get k name) (λ p is. (arem name p is).1) (λ p is. (arek name p is).1)
    ∙ sym (get-merge k m name))
