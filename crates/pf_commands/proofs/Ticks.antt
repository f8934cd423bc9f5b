-- Which ticks' payloads a command and a merge leave as they were.
use Rattle.std.proofs.Common.{◌≡◌, ◌<◌, subst, ◌≢◌, ℕ, ◌==◌, Bool, true, false, cond, map, filter, Some, None, refl, ap, sym, ◌∙◌, arith}
use Rattle.std.specs.Prelude.{IfSome}
use Rattle.std.specs.Ordering.{eq_by_cmp}
use Rattle.std.specs.FinMap.{get, get-entries, entries, entries_sorted, find}
use Rattle.std.specs.FinMap.Entries.{is_sorted-where_key, find-where_key, same_entries}
use Rattle.std.proofs.lemmas.Bool.Decides.{nat_tests}
use Rattle.pf_commands.specs.Name.{Name}
use Rattle.pf_commands.specs.Merge.{name_cmp, CommandMap, merge, singleton, payloads_at, heaviest_of}
use Rattle.pf_commands.specs.News.{news, least_tick}
use Rattle.pf_commands.specs.declared.payload.Payload.{Payload}
use Rattle.pf_commands.proofs.Names.{name_cmp_total, name_cmp-IsAntisymmetric}
use Rattle.pf_commands.proofs.Merging.{same_name, get-merge}
use Rattle.pf_commands.proofs.Changes.{get-merge_one, kept_before}

-- maps that hold the same under the names that pass a test have the same entries under these
pub same_part : (p : Name → Bool) (m k : CommandMap) → ((name : Name) → p name ≡ true → get m name ≡ get k name)
    → filter (λ e. p e.0) (entries m) ≡ filter (λ e. p e.0) (entries k)
same_part p m k same =
    let alike : (q x : Name) → name_cmp q x ≡ _ → p x ≡ p q = λ q x tied. ap p (sym (name_cmp-IsAntisymmetric q x tied)) in
    same_entries name_cmp name_cmp_total name_cmp-IsAntisymmetric _ _
    (is_sorted-where_key name_cmp p (entries m) (entries_sorted m)) (is_sorted-where_key name_cmp p (entries k) (entries_sorted k))
    (λ name.
    find-where_key name_cmp p name (λ x. alike name x) (entries m)
    ∙ elim (p name) as (λ b. p name ≡ b → cond b (find name_cmp name (entries m)) None ≡ cond b (find name_cmp name (entries k)) None) [
      | true ↦ λ passes. sym (get-entries m name) ∙ same name passes ∙ get-entries k name
      | false ↦ λ _. refl
    ] refl
    ∙ sym (find-where_key name_cmp p name (λ x. alike name x) (entries k)))

-- another tick's names are not the command's
apart : (n name : Name) (tick : ℕ) → n.tick ≢ tick → (name.tick == tick) ≡ true → eq_by_cmp name_cmp name n ≡ false
apart n name tick other at =
    elim (eq_by_cmp name_cmp name n) as (λ b. eq_by_cmp name_cmp name n ≡ b → b ≡ false) [
      | true ↦ λ tied. let same = ap (λ x. x.tick) (same_name name n tied) in grind (arith, nat_tests)
      | false ↦ λ _. refl
    ] refl

pub payloads_at-other : (m : CommandMap) (n : Name) (p : Payload) (tick : ℕ) → n.tick ≢ tick → payloads_at (merge m (singleton n p)) tick ≡ payloads_at m tick
payloads_at-other m n p tick other =
    ap (map (λ e. e.1)) (same_part (λ name. name.tick == tick) (merge m (singleton n p)) m (λ name at.
    get-merge_one m n p name ∙ ap (λ b. cond b (heaviest_of (get m n) (Some p)) (get m name)) (apart n name tick other at)))

-- a merge changes the payloads of no tick before the least of its news
pub payloads_at-before : (m k : CommandMap) (tick : ℕ) → IfSome (least_tick (news m k)) (λ least. tick < least) → payloads_at (merge m k) tick ≡ payloads_at m tick
payloads_at-before m k tick before =
    ap (map (λ e. e.1)) (same_part (λ name. name.tick == tick) (merge m k) m (λ name at.
    let same : tick ≡ name.tick = grind (arith, nat_tests) in
    get-merge m k name ∙ ap (heaviest_of (get m name)) (get-entries k name)
    ∙ kept_before m name (entries k) (subst (λ t. IfSome (least_tick (news m k)) (λ least. t < least)) same before)))
