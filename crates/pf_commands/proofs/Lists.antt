-- The map of a list of commands depends on which commands the list has, and on nothing else.
use Rattle.std.proofs.Common.{◌≡◌, List, [], ◌∷◌, ap, sym, ◌∙◌, subst, arith, ◌⊎◌, inl, inr, ⊎_elim, ◌↔◌, Contains}
use Rattle.std.proofs.lemmas.List.Elements.{Contains-append_left, Contains-append_right, Contains-push, Contains-push_cases, Contains-append_cases}
use Rattle.std.specs.FinMap.{get, get-empty, empty}
use Rattle.pf_commands.specs.Merge.{name_cmp, CommandMap, IsCommandMap, IsCommand, heaviest_of, merge, singleton, put_all}
use Rattle.pf_commands.specs.declared.payload.Command.{Command}
use Rattle.pf_commands.proofs.Weights.{heavier_of-none}
use Rattle.pf_commands.proofs.Merging.{same_commands, get-merge, merge_assoc, merge_same, merge_keeps}
use Rattle.pf_commands.proofs.Ranges.{AreCommands-merge, AreCommands-one, merge_comm}

-- merging k into w changes nothing
abbrev Absorbs : CommandMap → CommandMap → Type 0
Absorbs w k = merge w k ≡ w

-- the map of a command alone
abbrev single : Command → CommandMap
single c = singleton c.name c.payload

pub put_all-keeps : (m : CommandMap) (cs : List Command) → Absorbs (put_all m cs) m
put_all-keeps m [] = merge_same m
put_all-keeps m (c ∷ cs) =
    let n = merge m (single c) in
    let w = put_all n cs in
    let kept : Absorbs w n = put_all-keeps n cs in
    ap (λ x. merge x m) (sym kept) ∙ merge_assoc w n m ∙ ap (merge w) (merge_keeps m (single c)) ∙ kept

-- what absorbs a merge of m and k absorbs k
absorbs_right : (w m k : CommandMap) → Absorbs w (merge m k) → Absorbs w k
absorbs_right w m k is =
    ap (λ x. merge x k) (sym is) ∙ merge_assoc w (merge m k) k ∙ ap (merge w) (merge_assoc m k k ∙ ap (merge m) (merge_same k)) ∙ is

-- what absorbs m and k absorbs their merge
absorbs_merge : (w m k : CommandMap) → Absorbs w m → Absorbs w k → Absorbs w (merge m k)
absorbs_merge w m k ism isk = sym (merge_assoc w m k) ∙ ap (λ x. merge x k) ism ∙ isk

Contains-head : (c : Command) (cs : List Command) → Contains (c ∷ cs) c
Contains-head c cs = Contains-append_left (c ∷ []) cs c (Contains-push [] c)

Contains-tail : (d : Command) (cs : List Command) (c : Command) → Contains cs c → Contains (d ∷ cs) c
Contains-tail d cs c has = Contains-append_right (d ∷ []) cs c has

Contains-cases : (d : Command) (cs : List Command) (c : Command) → Contains (d ∷ cs) c → (d ≡ c) ⊎ Contains cs c
Contains-cases d cs c has =
    ⊎_elim (λ first. ⊎_elim (λ none. absurd (omega (arith, none.1))) (λ e. inl e) (Contains-push_cases [] d c first)) (λ later. inr later)
    (Contains-append_cases (d ∷ []) cs c has)

-- the map of a list absorbs each of its commands
put_all-has : (m : CommandMap) (cs : List Command) (c : Command) → Contains cs c → Absorbs (put_all m cs) (single c)
put_all-has m [] c has = absurd (omega (arith, has.1))
put_all-has m (d ∷ cs) c has =
    let n = merge m (single d) in
    ⊎_elim
    (λ e. subst (λ x. Absorbs (put_all n cs) (single x)) e (absorbs_right (put_all n cs) m (single d) (put_all-keeps n cs)))
    (λ later. put_all-has n cs c later)
    (Contains-cases d cs c has)

-- what absorbs m and each command of a list absorbs the map of both
put_all-least : (w m : CommandMap) (cs : List Command) → Absorbs w m → ((c : Command) → Contains cs c → Absorbs w (single c)) → Absorbs w (put_all m cs)
put_all-least w m [] ism each = ism
put_all-least w m (c ∷ cs) ism each =
    put_all-least w (merge m (single c)) cs (absorbs_merge w m (single c) ism (each c (Contains-head c cs))) (λ d has. each d (Contains-tail c cs d has))

AreCommands-put_all : (m : CommandMap) (cs : List Command) → IsCommandMap m → ((c : Command) → Contains cs c → IsCommand c) → IsCommandMap (put_all m cs)
AreCommands-put_all m [] are each = are
AreCommands-put_all m (c ∷ cs) are each =
    let first : IsCommand c = each c (Contains-head c cs) in
    AreCommands-put_all (merge m (single c)) cs (AreCommands-merge m (single c) are (AreCommands-one c.name c.payload first.name first.payload)) (λ d has. each d (Contains-tail c cs d has))

-- lists of the same commands make one map
pub put_all-same : (m : CommandMap) (cs ds : List Command) → IsCommandMap m → ((c : Command) → Contains cs c → IsCommand c)
    → ((c : Command) → Contains cs c ↔ Contains ds c) → put_all m cs ≡ put_all m ds
put_all-same m cs ds are each same =
    let p = put_all m cs in
    let q = put_all m ds in
    let p_has : Absorbs p q = put_all-least p m ds (put_all-keeps m cs) (λ c has. put_all-has m cs c ((same c).1 has)) in
    let q_has : Absorbs q p = put_all-least q m cs (put_all-keeps m ds) (λ c has. put_all-has m ds c ((same c).0 has)) in
    let in_p : IsCommandMap p = AreCommands-put_all m cs are each in
    let in_q : IsCommandMap q = AreCommands-put_all m ds are (λ c has. each c ((same c).1 has)) in
    sym p_has ∙ merge_comm p q in_p in_q ∙ q_has

pub merge-empty : (m : CommandMap) → merge m empty ≡ m
merge-empty m = same_commands _ _ (λ name. get-merge m empty name ∙ ap (heaviest_of (get m name)) (get-empty name_cmp name) ∙ heavier_of-none (get m name))

pub empty-merge : (m : CommandMap) → merge empty m ≡ m
empty-merge m = same_commands _ _ (λ name. get-merge empty m name ∙ ap (λ o. heaviest_of o (get m name)) (get-empty name_cmp name))

-- putting a list into a map is merging the map of the list
pub put_all-merge : (m : CommandMap) (cs : List Command) → put_all m cs ≡ merge m (put_all empty cs)
put_all-merge m [] = sym (merge-empty m)
put_all-merge m (c ∷ cs) =
    put_all-merge (merge m (single c)) cs ∙ merge_assoc m (single c) (put_all empty cs)
    ∙ ap (merge m) (ap (λ x. merge x (put_all empty cs)) (sym (empty-merge (single c))) ∙ sym (put_all-merge (merge empty (single c)) cs))
