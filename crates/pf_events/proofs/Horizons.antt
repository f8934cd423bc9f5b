-- Maps of commands from a horizon on.
use Rattle.std.proofs.Common.{◌≡◌, ℕ, ◌<◌, ◌≤◌, Bool, true, false, cond, nat_le, List, Option, Some, None, refl, ap, sym, subst, ◌∙◌, arith}
use Rattle.std.proofs.lemmas.Bool.Decides.{nat_tests}
use Rattle.std.specs.FinMap.{empty, get}
use Rattle.std.specs.Ordering.{eq_by_cmp}
use Rattle.pf_commands.specs.Merge.{CommandMap, heaviest_of, merge, name_cmp, put_all, singleton}
use Rattle.pf_commands.specs.Name.{Name}
use Rattle.pf_commands.specs.Ticks.{IsFrom, commands_from}
use Rattle.pf_commands.specs.declared.payload.Command.{Command}
use Rattle.pf_commands.specs.declared.payload.Payload.{Payload}
use Rattle.pf_commands.proofs.Changes.{get-merge_one}
use Rattle.pf_commands.proofs.Lists.{empty-merge, put_all-merge}
use Rattle.pf_commands.proofs.Merging.{get-merge, merge_assoc, same_commands, same_name}
use Rattle.pf_commands.proofs.Since.{get-commands_from}
use Rattle.pf_rollback.proofs.Late.{from_none}

-- what is from a tick on is from each earlier one on
pub IsFrom-earlier : (h tick : ℕ) (m : CommandMap) → h ≤ tick → IsFrom tick m → IsFrom h m
IsFrom-earlier h tick m low from name payload held = let at = from name payload held in omega arith

-- of a map from two ticks on, those from the later one on
pub commands_from-later : (h tick : ℕ) (m : CommandMap) → h ≤ tick → commands_from tick (commands_from h m) ≡ commands_from tick m
commands_from-later h tick m low = same_commands _ _ (λ name.
    get-commands_from tick (commands_from h m) name
    ∙ ap (λ o. cond (nat_le tick name.tick) o None) (get-commands_from h m name)
    ∙ by name (nat_le tick name.tick) refl (get m name)
    ∙ sym (get-commands_from tick m name))
  where
    by : (name : Name) (b : Bool) → nat_le tick name.tick ≡ b → (held : Option Payload) → cond b (cond (nat_le h name.tick) held None) None ≡ cond b held None
    by name false late held = refl
    by name true late held =
        let also : nat_le h name.tick ≡ true = grind (arith, nat_tests) in ap (λ b. cond b held None) also

pub IsFrom-put : (h : ℕ) (m : CommandMap) (n : Name) (p : Payload) → IsFrom h m → h ≤ n.tick → IsFrom h (merge m (singleton n p))
IsFrom-put h m n p from late name payload held = by (eq_by_cmp name_cmp name n) refl (sym (get-merge_one m n p name) ∙ held)
  where
    by : (b : Bool) → eq_by_cmp name_cmp name n ≡ b → cond b (heaviest_of (get m n) (Some p)) (get m name) ≡ Some payload → h ≤ name.tick
    by true tied there = let same : name.tick ≡ n.tick = ap (λ (x : Name). x.tick) (same_name name n tied) in omega arith
    by false apart there = from name payload there

pub IsFrom-singleton : (h : ℕ) (n : Name) (p : Payload) → h ≤ n.tick → IsFrom h (singleton n p)
IsFrom-singleton h n p late = subst (IsFrom h) (empty-merge (singleton n p)) (IsFrom-put h empty n p (from_none h) late)

-- ---- what is sealed, and what is held

-- each command of a map is for a tick before this one
abbrev pub IsBefore : CommandMap → ℕ → Type 0
IsBefore m h = (name : Name) (payload : Payload) → get m name ≡ Some payload → name.tick < h

-- the held commands are those of the horizon and later of all
pub held_part : (h : ℕ) (sealed held : CommandMap) → IsBefore sealed h → IsFrom h held → held ≡ commands_from h (merge sealed held)
held_part h sealed held before from = same_commands _ _ (λ name. sym (
    get-commands_from h (merge sealed held) name
    ∙ ap (λ o. cond (nat_le h name.tick) o None) (get-merge sealed held name)
    ∙ by name (nat_le h name.tick) refl (get sealed name) refl (get held name) refl))
  where
    by : (name : Name) (b : Bool) → nat_le h name.tick ≡ b → (old : Option Payload) → get sealed name ≡ old → (now : Option Payload) → get held name ≡ now
        → cond b (heaviest_of old now) None ≡ now
    by name true late None old now at = refl
    by name true late (Some p) old now at = absurd (let early = before name p old in grind (arith, nat_tests))
    by name false early old was None at = refl
    by name false early old was (Some p) at = absurd (let late = from name p at in grind (arith, nat_tests))

pub merge-put_all : (m k : CommandMap) (cs : List Command) → merge m (put_all k cs) ≡ put_all (merge m k) cs
merge-put_all m k cs =
    ap (merge m) (put_all-merge k cs) ∙ sym (merge_assoc m k (put_all empty cs)) ∙ sym (put_all-merge (merge m k) cs)
