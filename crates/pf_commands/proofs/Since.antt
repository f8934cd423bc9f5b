-- The commands of a map from a tick on, and those before it.
use Rattle.std.proofs.Common.{◌≡◌, ℕ, ◌≤◌, ◌==◌, T, Bool, true, false, ◌&&◌, cond, nat_le, nat_lt, map, filter, List, [], ◌∷◌, Option, Some, None, refl, ap, sym, subst, ◌∙◌, arith}
use Rattle.std.specs.List.{list_all}
use Rattle.std.specs.declared.cmp.Ordering.TheVariants.{Equal}
use Rattle.std.specs.Ordering.{eq_by_cmp, is_eq, is_lt}
use Rattle.std.specs.FinMap.{get, get-retain_keys, get-entries, get-from_entries, entries, entries_sorted, find, from_entries}
use Rattle.std.specs.FinMap.Entries.{find-where_key, below_all, is_sorted}
use Rattle.std.proofs.lemmas.Bool.{and_parts, leb-true, le-leb}
use Rattle.std.proofs.lemmas.Bool.Decides.{nat_tests}
use Rattle.std.proofs.lemmas.Cmp.{tied_itself}
use Rattle.pf_commands.specs.Name.{Name}
use Rattle.pf_commands.specs.Merge.{name_cmp, CommandMap, IsCommandMap, heaviest_of, merge, payloads_at}
use Rattle.pf_commands.specs.Ticks.{commands_from, commands_before, is_from, IsFrom}
use Rattle.pf_commands.specs.declared.payload.Payload.{Payload}
use Rattle.pf_commands.proofs.Names.{name_cmp_total, name_cmp-IsAntisymmetric}
use Rattle.pf_commands.proofs.Merging.{same_commands, same_name, get-merge}
use Rattle.pf_commands.proofs.Ticks.{same_part}

-- ---- what is held under a name

-- a test of names has one answer at names that tie
alike : (p : Name → Bool) (q x : Name) → name_cmp q x ≡ Equal → p x ≡ p q
alike p q x tied = ap p (sym (name_cmp-IsAntisymmetric q x tied))

pub get-commands_from : (tick : ℕ) (m : CommandMap) (name : Name) → get (commands_from tick m) name ≡ cond (nat_le tick name.tick) (get m name) None
unfolding commands_from
get-commands_from tick m name = get-retain_keys m (λ n. nat_le tick n.tick) name (λ x tied. alike (λ n. nat_le tick n.tick) name x tied)

pub get-commands_before : (tick : ℕ) (m : CommandMap) (name : Name) → get (commands_before tick m) name ≡ cond (nat_lt name.tick tick) (get m name) None
unfolding commands_before
get-commands_before tick m name = get-retain_keys m (λ n. nat_lt n.tick tick) name (λ x tied. alike (λ n. nat_lt n.tick tick) name x tied)

-- the entries of ticks from this one on are the map of them
pub from_entries-since : (tick : ℕ) (es kept : List (Name × Payload)) → kept ≡ filter (λ e. nat_le tick e.0.tick) es
    → from_entries {R = name_cmp} kept ≡ commands_from tick (from_entries es)
from_entries-since tick es kept is = same_commands _ _ (λ name.
    get-from_entries name_cmp_total kept name
    ∙ ap (find name_cmp name) is
    ∙ find-where_key name_cmp (λ n. nat_le tick n.tick) name (λ x tied. alike (λ n. nat_le tick n.tick) name x tied) es
    ∙ ap (λ o. cond (nat_le tick name.tick) o None) (sym (get-from_entries name_cmp_total es name))
    ∙ sym (get-commands_from tick (from_entries es) name))

held_through : (b : Bool) (held : Option Payload) (payload : Payload) → cond b held None ≡ Some payload → (b ≡ true) × (held ≡ Some payload)
held_through true held payload is = (refl, is)
held_through false held payload is = absurd cc

pub IsCommandMap-from : (tick : ℕ) (m : CommandMap) → IsCommandMap m → IsCommandMap (commands_from tick m)
IsCommandMap-from tick m are name payload held =
    are name payload (held_through (nat_le tick name.tick) (get m name) payload (sym (get-commands_from tick m name) ∙ held)).1

pub IsFrom-from : (tick : ℕ) (m : CommandMap) → IsFrom tick (commands_from tick m)
IsFrom-from tick m name payload held =
    leb-true tick name.tick (held_through (nat_le tick name.tick) (get m name) payload (sym (get-commands_from tick m name) ∙ held)).0

-- ---- with merging

-- what is held before a tick, or from it on, is held
both_sides : (tick n : ℕ) (held : Option Payload) → heaviest_of (cond (nat_lt n tick) held None) (cond (nat_le tick n) held None) ≡ held
both_sides tick n None = grind (arith, nat_tests)
both_sides tick n (Some p) = grind (arith, nat_tests)

pub before-merge-from : (tick : ℕ) (m : CommandMap) → merge (commands_before tick m) (commands_from tick m) ≡ m
before-merge-from tick m = same_commands _ _ (λ name.
    get-merge (commands_before tick m) (commands_from tick m) name
    ∙ ap (λ o. heaviest_of o (get (commands_from tick m) name)) (get-commands_before tick m name)
    ∙ ap (heaviest_of (cond (nat_lt name.tick tick) (get m name) None)) (get-commands_from tick m name)
    ∙ both_sides tick name.tick (get m name))

through_both : (b : Bool) (p q : Option Payload) → cond b (heaviest_of p q) None ≡ heaviest_of (cond b p None) (cond b q None)
through_both true p q = refl
through_both false p q = refl

pub commands_from-merge : (tick : ℕ) (m k : CommandMap) → commands_from tick (merge m k) ≡ merge (commands_from tick m) (commands_from tick k)
commands_from-merge tick m k = same_commands _ _ (λ name.
    get-commands_from tick (merge m k) name
    ∙ ap (λ o. cond (nat_le tick name.tick) o None) (get-merge m k name)
    ∙ through_both (nat_le tick name.tick) (get m name) (get k name)
    ∙ ap (λ o. heaviest_of o (cond (nat_le tick name.tick) (get k name) None)) (sym (get-commands_from tick m name))
    ∙ ap (heaviest_of (get (commands_from tick m) name)) (sym (get-commands_from tick k name))
    ∙ sym (get-merge (commands_from tick m) (commands_from tick k) name))

-- ---- payloads of a tick

pub payloads_at-from : (tick : ℕ) (m : CommandMap) (at : ℕ) → tick ≤ at → payloads_at (commands_from tick m) at ≡ payloads_at m at
payloads_at-from tick m at late =
    ap (map (λ e. e.1)) (same_part (λ name. name.tick == at) (commands_from tick m) m (λ name is.
    let later : nat_le tick name.tick ≡ true = grind (arith, nat_tests) in
    get-commands_from tick m name ∙ ap (λ b. cond b (get m name) None) later))

-- ---- maps without commands before a tick

pub both_hold : (a b : Bool) → T (a && b) → T a × T b
both_hold true b hold = (tt, hold)
both_hold false b hold = absurd hold

-- what a test of the names of entries says of a name that is found
found_passes : (p : Name → Bool) (name : Name) (payload : Payload) (es : List (Name × Payload))
    → list_all (λ e. p e.0) es ≡ true → find name_cmp name es ≡ Some payload → p name ≡ true
found_passes p name payload [] all found = absurd cc
found_passes p name payload (e ∷ es) all found =
    let parts = and_parts (p e.0) (list_all (λ d. p d.0) es) all in
    elim (eq_by_cmp name_cmp name e.0) as (λ b. eq_by_cmp name_cmp name e.0 ≡ b → cond b (Some e.1) (find name_cmp name es) ≡ Some payload → p name ≡ true) [
      | true ↦ λ tied _. ap p (same_name name e.0 tied) ∙ parts.0
      | false ↦ λ _ later. found_passes p name payload es parts.1 later
    ] refl found

-- and of all of them, where it passes each name that is found
passes_all : (p : Name → Bool) (es : List (Name × Payload))
    → ((name : Name) (payload : Payload) → find name_cmp name es ≡ Some payload → p name ≡ true) → list_all (λ e. p e.0) es ≡ true
passes_all p [] each = refl
passes_all p (e ∷ es) each =
    let here = each e.0 e.1 (ap (λ o. cond (is_eq o) (Some e.1) (find name_cmp e.0 es)) (tied_itself name_cmp_total e.0)) in
    let rest = passes_all p es (λ name payload found.
    elim (eq_by_cmp name_cmp name e.0) as (λ b. eq_by_cmp name_cmp name e.0 ≡ b → p name ≡ true) [
      | true ↦ λ tied. ap p (same_name name e.0 tied) ∙ here
      | false ↦ λ apart. each name payload (ap (λ b. cond b (Some e.1) (find name_cmp name es)) apart ∙ found)
    ] refl) in
    ap (λ b. b && list_all (λ d. p d.0) es) here ∙ rest

pub is_from-IsFrom : (tick : ℕ) (m : CommandMap) → is_from tick m ≡ true → IsFrom tick m
is_from-IsFrom tick m is name payload held =
    leb-true tick name.tick (found_passes (λ n. nat_le tick n.tick) name payload (entries m) is (sym (get-entries m name) ∙ held))

pub IsFrom-is_from : (tick : ℕ) (m : CommandMap) → IsFrom tick m → is_from tick m ≡ true
IsFrom-is_from tick m from =
    passes_all (λ n. nat_le tick n.tick) (entries m) (λ name payload found. le-leb tick name.tick (from name payload (get-entries m name ∙ found)))

held_all : (b : Bool) (held : Option Payload) → ((payload : Payload) → held ≡ Some payload → b ≡ true) → cond b held None ≡ held
held_all b None passes = elim b as (λ t. cond {A = Option Payload} t None None ≡ None) [ true ↦ refl | false ↦ refl ]
held_all b (Some p) passes = ap (λ t. cond t (Some p) None) (passes p refl)

-- names in order have no tick before the first one's
ticks_rise : (a b : Name) → T (is_lt (name_cmp a b)) → a.tick ≤ b.tick
ticks_rise a b less = let is = less_is (is_lt (name_cmp a b)) less in grind (arith, nat_tests)
  where
    less_is : (b : Bool) → T b → b ≡ true
    less_is true less = refl
    less_is false less = absurd less

later_ticks : (tick : ℕ) (first : Name) (es : List (Name × Payload)) → tick ≤ first.tick → T (below_all name_cmp first es) → list_all (λ e. nat_le tick e.0.tick) es ≡ true
later_ticks tick first [] low below = refl
later_ticks tick first (e ∷ es) low below =
    let parts = both_hold (is_lt (name_cmp first e.0)) (below_all name_cmp first es) below in
    let here : nat_le tick e.0.tick ≡ true = let rise = ticks_rise first e.0 parts.0 in le-leb tick e.0.tick (omega arith) in
    ap (λ b. b && list_all (λ d. nat_le tick d.0.tick) es) here ∙ later_ticks tick first es low parts.1

-- so the first entry decides
pub is_from-first : (tick : ℕ) (m : CommandMap) (e : Name × Payload) (es : List (Name × Payload)) → entries m ≡ e ∷ es → nat_le tick e.0.tick ≡ is_from tick m
is_from-first tick m e es are =
    let sorted = both_hold (below_all name_cmp e.0 es) (is_sorted name_cmp es) (subst (λ ds. T (is_sorted name_cmp ds)) are (entries_sorted m)) in
    sym (ap (list_all (λ d. nat_le tick d.0.tick)) are
    ∙ elim (nat_le tick e.0.tick) as (λ b. nat_le tick e.0.tick ≡ b → (b && list_all (λ d. nat_le tick d.0.tick) es) ≡ b) [
      | true ↦ λ low. later_ticks tick e.0 es (leb-true tick e.0.tick low) sorted.0
      | false ↦ λ _. refl
    ] refl)

-- such a map has nothing to drop
pub commands_from-IsFrom : (tick : ℕ) (m : CommandMap) → IsFrom tick m → commands_from tick m ≡ m
commands_from-IsFrom tick m from = same_commands _ _ (λ name.
    get-commands_from tick m name
    ∙ held_all (nat_le tick name.tick) (get m name) (λ payload held. le-leb tick name.tick (from name payload held)))
