-- What a merge holds under each name, and the laws of merging that follow.
use Rattle.std.proofs.Common.{◌≡◌, true, false, cond, List, [], ◌∷◌, ◌++◌, map, Option, Some, None, refl, ap, sym, ◌∙◌}
use Rattle.std.specs.declared.cmp.Ordering.{Ordering}
use Rattle.std.specs.declared.cmp.Ordering.TheVariants.{Less, Equal, Greater}
use Rattle.std.specs.Option.{unwrap_or, option_map, option_or}
use Rattle.std.specs.Ordering.{eq_by_cmp, is_eq}
use Rattle.std.specs.FinMap.{get, get-entries, get-from_entries, entries, find, same_map}
use Rattle.pf_commands.specs.Name.{Name}
use Rattle.pf_commands.specs.Merge.{name_cmp, CommandMap, heaviest_of, merge}
use Rattle.pf_commands.specs.declared.payload.Payload.{Payload}
use Rattle.pf_commands.proofs.Names.{name_cmp_total, name_cmp-IsAntisymmetric}
use Rattle.pf_commands.proofs.Weights.{heavier_of_assoc, heavier_of_same, heavier_of_keeps}

-- two maps with the same payload under each name are one
pub same_commands : (m k : CommandMap) → ((name : Name) → get m name ≡ get k name) → m ≡ k
same_commands = same_map name_cmp_total name_cmp-IsAntisymmetric

is_equal : (o : Ordering) → is_eq o ≡ true → o ≡ Equal
is_equal Less e = cc
is_equal Equal e = refl
is_equal Greater e = cc

-- names that tie are one
pub same_name : (a b : Name) → eq_by_cmp name_cmp a b ≡ true → a ≡ b
same_name a b tied = name_cmp-IsAntisymmetric a b (is_equal _ tied)

find-append : (name : Name) (es fs : List (Name × Payload)) → find name_cmp name (es ++ fs) ≡ option_or (find name_cmp name es) (find name_cmp name fs)
find-append name [] fs = refl
find-append name (e ∷ es) fs =
    elim (eq_by_cmp name_cmp name e.0) as (λ b. cond b (Some e.1) (find name_cmp name (es ++ fs)) ≡ option_or (cond b (Some e.1) (find name_cmp name es)) (find name_cmp name fs)) [
      | true ↦ refl
      | false ↦ find-append name es fs
    ]

-- each entry with the payload that h has under its name, if any
rewritten : (Name → Option Payload) → List (Name × Payload) → List (Name × Payload)
rewritten h es = map (λ e. (e.0, unwrap_or (h e.0) e.1)) es

find-rewritten : (h : Name → Option Payload) (name : Name) (es : List (Name × Payload))
    → find name_cmp name (rewritten h es) ≡ option_map (λ p. unwrap_or (h name) p) (find name_cmp name es)
unfolding rewritten
find-rewritten h name [] = refl
find-rewritten h name (e ∷ es) =
    elim (eq_by_cmp name_cmp name e.0) as (λ b. eq_by_cmp name_cmp name e.0 ≡ b
    → cond b (Some (unwrap_or (h e.0) e.1)) (find name_cmp name (rewritten h es))
    ≡ option_map (λ p. unwrap_or (h name) p) (cond b (Some e.1) (find name_cmp name es))) [
      | true ↦ λ tied. ap (λ n. Some (unwrap_or (h n) e.1)) (sym (same_name _ _ tied))
      | false ↦ λ _. find-rewritten h name es
    ] refl

either_heavier : (p q : Option Payload) → option_map (λ x. unwrap_or (heaviest_of p q) x) (option_or p q) ≡ heaviest_of p q
either_heavier None None = refl
either_heavier None (Some q) = refl
either_heavier (Some p) None = refl
either_heavier (Some p) (Some q) = refl

pub get-merge : (m k : CommandMap) (name : Name) → get (merge m k) name ≡ heaviest_of (get m name) (get k name)
unfolding merge rewritten
get-merge m k name =
    let h : Name → Option Payload = λ n. heaviest_of (get m n) (get k n) in
    get-from_entries name_cmp_total (rewritten h (entries m ++ entries k)) name
    ∙ find-rewritten h name (entries m ++ entries k)
    ∙ ap (option_map (λ p. unwrap_or (h name) p)) (find-append name (entries m) (entries k))
    ∙ ap (λ o. option_map (λ p. unwrap_or (h name) p) (option_or o (find name_cmp name (entries k)))) (sym (get-entries m name))
    ∙ ap (λ o. option_map (λ p. unwrap_or (h name) p) (option_or (get m name) o)) (sym (get-entries k name))
    ∙ either_heavier (get m name) (get k name)

pub merge_assoc : (l m k : CommandMap) → merge (merge l m) k ≡ merge l (merge m k)
merge_assoc l m k = same_commands _ _ (λ name.
    get-merge (merge l m) k name ∙ ap (λ o. heaviest_of o (get k name)) (get-merge l m name)
    ∙ heavier_of_assoc (get l name) (get m name) (get k name)
    ∙ ap (heaviest_of (get l name)) (sym (get-merge m k name)) ∙ sym (get-merge l (merge m k) name))

pub merge_same : (m : CommandMap) → merge m m ≡ m
merge_same m = same_commands _ _ (λ name. get-merge m m name ∙ heavier_of_same (get m name))

-- what is merged in keeps what was there
pub merge_keeps : (m k : CommandMap) → merge (merge m k) m ≡ merge m k
merge_keeps m k = same_commands _ _ (λ name.
    get-merge (merge m k) m name ∙ ap (λ o. heaviest_of o (get m name)) (get-merge m k name)
    ∙ heavier_of_keeps (get m name) (get k name) ∙ sym (get-merge m k name))
