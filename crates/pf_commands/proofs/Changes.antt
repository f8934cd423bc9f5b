-- Which commands change a map, and how.
use Rattle.std.proofs.Common.{◌≡◌, ℕ, ◌<◌, ◌+◌, ◌≤◌, ◌++◌, map, min, length-append, append-nil, Bool, true, false, cond, Option, Some, None, refl, ap, sym, ◌∙◌, arith, List, [], ◌∷◌, length, filter}
use Rattle.std.specs.Ordering.{eq_by_cmp}
use Rattle.std.proofs.lemmas.Bool.Decides.{nat_tests}
use Rattle.std.specs.FinMap.{get, get-insert, get-empty, get-entries, empty, insert, entries, find, from_entries, get-from_entries}
use Rattle.pf_commands.specs.Name.{Name}
use Rattle.pf_commands.specs.Merge.{name_cmp, CommandMap, heavier_payload, heaviest_of, merge, singleton}
use Rattle.pf_commands.specs.News.{put_outcome, is_change, is_news, news, lesser_number, least_of, least_tick, IsNewsOf}
use Rattle.pf_commands.specs.declared.payload.Payload.{Payload}
use Rattle.std.specs.Prelude.{IfSome}
use Rattle.std.specs.Map.{keys_of}
use Rattle.std.specs.BTreeMap.{is_at}
use Rattle.std.specs.List.{IsDistinct}
use Rattle.std.specs.List.Sorted.{IsStrictlySortedBy}
use Rattle.std.specs.Cmp.{eq_by_cmp_equiv}
use Rattle.std.proofs.lemmas.Map.{lookup-none}
use Rattle.std.proofs.lemmas.Map.Entries.{none_past_head}
use Rattle.std.proofs.lemmas.Map.Keys.{IsDistinct-tail, IsDistinct-from_sorted}
use Rattle.std.proofs.lemmas.List.{map-append}
use Rattle.pf_commands.proofs.Stored.{lookup-find}
use Rattle.pf_commands.proofs.Names.{name_cmp_total}
use Rattle.pf_commands.proofs.Weights.{heavier_of-none}
use Rattle.pf_commands.proofs.Merging.{same_commands, same_name, get-merge}

-- a payload that is no change is not the heavier one
kept_one : (q p : Payload) → is_change (put_outcome (Some q) p) ≡ false → heavier_payload q p ≡ q
kept_one q p steady = grind (arith, nat_tests)

changed_one : (q p : Payload) → is_change (put_outcome (Some q) p) ≡ true → heavier_payload q p ≡ p
changed_one q p fresh = grind (arith, nat_tests)

kept : (held : Option Payload) (p : Payload) → is_change (put_outcome held p) ≡ false → heaviest_of held (Some p) ≡ held
kept None p steady = cc
kept (Some q) p steady = ap (λ (x : Payload). Some x) (kept_one q p steady)

changed : (held : Option Payload) (p : Payload) → is_change (put_outcome held p) ≡ true → heaviest_of held (Some p) ≡ Some p
changed None p fresh = refl
changed (Some q) p fresh = ap (λ (x : Payload). Some x) (changed_one q p fresh)

get-one : (n : Name) (p : Payload) (name : Name) → get (singleton n p) name ≡ cond (eq_by_cmp name_cmp name n) (Some p) None
get-one n p name = get-insert name_cmp_total empty n p name ∙ ap (cond (eq_by_cmp name_cmp name n) (Some p)) (get-empty name_cmp name)

-- what a map holds under a name once a command is merged into it
pub get-merge_one : (m : CommandMap) (n : Name) (p : Payload) (name : Name)
    → get (merge m (singleton n p)) name ≡ cond (eq_by_cmp name_cmp name n) (heaviest_of (get m n) (Some p)) (get m name)
get-merge_one m n p name = get-merge m (singleton n p) name ∙ ap (heaviest_of (get m name)) (get-one n p name)
    ∙ elim (eq_by_cmp name_cmp name n) as (λ b. eq_by_cmp name_cmp name n ≡ b
    → heaviest_of (get m name) (cond b (Some p) None) ≡ cond b (heaviest_of (get m n) (Some p)) (get m name)) [
      | true ↦ λ tied. ap (λ x. heaviest_of (get m x) (Some p)) (same_name name n tied)
      | false ↦ λ _. heavier_of-none (get m name)
    ] refl

-- a command that is no news changes nothing
pub merge_one-kept : (m : CommandMap) (n : Name) (p : Payload) → is_news m (n, p) ≡ false → merge m (singleton n p) ≡ m
merge_one-kept m n p steady = same_commands _ _ (λ name. get-merge_one m n p name
    ∙ elim (eq_by_cmp name_cmp name n) as (λ b. eq_by_cmp name_cmp name n ≡ b → cond b (heaviest_of (get m n) (Some p)) (get m name) ≡ get m name) [
      | true ↦ λ tied. kept (get m n) p steady ∙ ap (get m) (sym (same_name name n tied))
      | false ↦ λ _. refl
    ] refl)

-- a command that is news is written under its name
pub merge_one-changed : (m : CommandMap) (n : Name) (p : Payload) → is_news m (n, p) ≡ true → merge m (singleton n p) ≡ insert m n p
merge_one-changed m n p fresh = same_commands _ _ (λ name. get-merge_one m n p name
    ∙ ap (λ o. cond (eq_by_cmp name_cmp name n) o (get m name)) (changed (get m n) p fresh)
    ∙ sym (get-insert name_cmp_total m n p name))

-- where no entry is news, the heavier is what is held
kept_all : (m : CommandMap) (name : Name) (es : List (Name × Payload)) → length (filter (is_news m) es) ≡ 0
    → heaviest_of (get m name) (find name_cmp name es) ≡ get m name
kept_all m name [] quiet = heavier_of-none (get m name)
kept_all m name (e ∷ es) quiet =
    elim (is_news m e) as (λ b. is_news m e ≡ b → length (cond b (e ∷ filter (is_news m) es) (filter (is_news m) es)) ≡ 0
    → heaviest_of (get m name) (find name_cmp name (e ∷ es)) ≡ get m name) [
      | true ↦ λ _ q. absurd (omega arith)
      | false ↦ λ steady q. elim (eq_by_cmp name_cmp name e.0) as (λ b. eq_by_cmp name_cmp name e.0 ≡ b
          → heaviest_of (get m name) (cond b (Some e.1) (find name_cmp name es)) ≡ get m name) [
            | true ↦ λ tied. ap (λ x. heaviest_of (get m x) (Some e.1)) (same_name name e.0 tied) ∙ kept (get m e.0) e.1 steady ∙ ap (get m) (sym (same_name name e.0 tied))
            | false ↦ λ _. kept_all m name es q
          ] refl
    ] refl quiet

-- a tick before the lesser of a number and another that may be missing is before both
before_lesser : (tick n : ℕ) (o : Option ℕ) → tick < lesser_number n o → (tick < n) × IfSome o (λ m. tick < m)
before_lesser tick n None before = (before, tt)
before_lesser tick n (Some m) before = (omega arith, omega arith)

-- under a name before the least tick of the news, the heavier is what is held
pub kept_before : (m : CommandMap) (name : Name) (es : List (Name × Payload)) → IfSome (least_tick (filter (is_news m) es)) (λ least. name.tick < least)
    → heaviest_of (get m name) (find name_cmp name es) ≡ get m name
kept_before m name [] before = heavier_of-none (get m name)
kept_before m name (e ∷ es) before =
    elim (is_news m e) as (λ b. is_news m e ≡ b → IfSome (least_tick (cond b (e ∷ filter (is_news m) es) (filter (is_news m) es))) (λ least. name.tick < least)
    → heaviest_of (get m name) (find name_cmp name (e ∷ es)) ≡ get m name) [
      | true ↦ λ _ sooner.
          let both = before_lesser name.tick e.0.tick (least_tick (filter (is_news m) es)) sooner in
          elim (eq_by_cmp name_cmp name e.0) as (λ b. eq_by_cmp name_cmp name e.0 ≡ b → heaviest_of (get m name) (cond b (Some e.1) (find name_cmp name es)) ≡ get m name) [
            | true ↦ λ tied. absurd (let same = ap (λ n. n.tick) (same_name name e.0 tied) in omega (arith, both.0))
            | false ↦ λ _. kept_before m name es both.1
          ] refl
      | false ↦ λ steady sooner. elim (eq_by_cmp name_cmp name e.0) as (λ b. eq_by_cmp name_cmp name e.0 ≡ b
          → heaviest_of (get m name) (cond b (Some e.1) (find name_cmp name es)) ≡ get m name) [
            | true ↦ λ tied. ap (λ x. heaviest_of (get m x) (Some e.1)) (same_name name e.0 tied) ∙ kept (get m e.0) e.1 steady ∙ ap (get m) (sym (same_name name e.0 tied))
            | false ↦ λ _. kept_before m name es sooner
          ] refl
    ] refl before

-- a map of no news changes nothing
pub merge-no_news : (m k : CommandMap) → length (news m k) ≡ 0 → merge m k ≡ m
merge-no_news m k quiet = same_commands _ _ (λ name.
    get-merge m k name ∙ ap (heaviest_of (get m name)) (get-entries k name) ∙ kept_all m name (entries k) quiet)

-- the entries put into a map in turn
abbrev pub put_entries : CommandMap → List (Name × Payload) → CommandMap
put_entries m [] = m
put_entries m (e ∷ es) = put_entries (merge m (singleton e.0 e.1)) es

pub put_entries-push : (m : CommandMap) (es : List (Name × Payload)) (e : Name × Payload)
    → put_entries m (es ++ e ∷ []) ≡ merge (put_entries m es) (singleton e.0 e.1)
put_entries-push m [] e = refl
put_entries-push m (d ∷ es) e = put_entries-push (merge m (singleton d.0 d.1)) es e

-- no later entry has the name of the first
find_later : (name : Name) (e : Name × Payload) (es : List (Name × Payload)) → IsDistinct (eq_by_cmp name_cmp) (keys_of (e ∷ es))
    → eq_by_cmp name_cmp name e.0 ≡ true → find name_cmp name es ≡ None
find_later name e es distinct tied =
    sym (lookup-find name es) ∙ lookup-none (is_at (name_cmp name)) es (none_past_head (eq_by_cmp_equiv name_cmp_total) name e es distinct tied)

get-put_entries : (m : CommandMap) (es : List (Name × Payload)) (name : Name) → IsDistinct (eq_by_cmp name_cmp) (keys_of es)
    → get (put_entries m es) name ≡ heaviest_of (get m name) (find name_cmp name es)
get-put_entries m [] name distinct = sym (heavier_of-none (get m name))
get-put_entries m (e ∷ es) name distinct =
    get-put_entries (merge m (singleton e.0 e.1)) es name (IsDistinct-tail _ _ (keys_of es) distinct)
    ∙ ap (λ o. heaviest_of o (find name_cmp name es)) (get-merge_one m e.0 e.1 name)
    ∙ elim (eq_by_cmp name_cmp name e.0) as (λ b. eq_by_cmp name_cmp name e.0 ≡ b
    → heaviest_of (cond b (heaviest_of (get m e.0) (Some e.1)) (get m name)) (find name_cmp name es) ≡ heaviest_of (get m name) (cond b (Some e.1) (find name_cmp name es))) [
      | true ↦ λ tied. ap (heaviest_of _) (find_later name e es distinct tied) ∙ heavier_of-none _ ∙ ap (λ x. heaviest_of (get m x) (Some e.1)) (sym (same_name name e.0 tied))
      | false ↦ λ _. refl
    ] refl

-- entries in order, put into a map in turn, are the map of them merged in
pub put_entries-all : (m : CommandMap) (es : List (Name × Payload)) → IsStrictlySortedBy name_cmp (keys_of es) → put_entries m es ≡ merge m (from_entries es)
put_entries-all m es sorted = same_commands _ _ (λ name.
    get-put_entries m es name (IsDistinct-from_sorted name_cmp (keys_of es) sorted)
    ∙ ap (heaviest_of (get m name)) (sym (get-from_entries name_cmp_total es name))
    ∙ sym (get-merge m (from_entries es) name))

lesser_turned : (m n : ℕ) (o : Option ℕ) → min m (lesser_number n o) ≡ min n (lesser_number m o)
lesser_turned m n None = omega arith
lesser_turned m n (Some k) = omega arith

least_of-push : (ns : List ℕ) (n : ℕ) → least_of (ns ++ n ∷ []) ≡ Some (lesser_number n (least_of ns))
least_of-push [] n = refl
least_of-push (m ∷ ns) n = ap (λ o. Some (lesser_number m o)) (least_of-push ns n) ∙ ap (λ (k : ℕ). Some k) (lesser_turned m n (least_of ns))

length-filter_le : (m : CommandMap) (es : List (Name × Payload)) → length (filter (is_news m) es) ≤ length es
length-filter_le m [] = omega arith
length-filter_le m (e ∷ es) =
    let fewer = length-filter_le m es in
    elim (is_news m e) as (λ b. length (cond b (e ∷ filter (is_news m) es) (filter (is_news m) es)) ≤ length (e ∷ es)) [ true ↦ omega arith | false ↦ omega arith ]

pub noted_few : (m : CommandMap) (es : List (Name × Payload)) (count : ℕ) (least : Option ℕ) → IsNewsOf m es count least → count ≤ length es
noted_few m es count least noted = rw noted.count_is (length-filter_le m es)

filter-push : (m : CommandMap) (es : List (Name × Payload)) (e : Name × Payload) (b : Bool) → is_news m e ≡ b
    → filter (is_news m) (es ++ e ∷ []) ≡ filter (is_news m) es ++ cond b (e ∷ []) []
filter-push m [] e b is = ap (λ t. cond t (e ∷ []) []) is
filter-push m (d ∷ es) e b is =
    elim (is_news m d) as (λ t. cond t (d ∷ filter (is_news m) (es ++ e ∷ [])) (filter (is_news m) (es ++ e ∷ []))
    ≡ cond t (d ∷ filter (is_news m) es) (filter (is_news m) es) ++ cond b (e ∷ []) []) [
      | true ↦ ap (λ rest. d ∷ rest) (filter-push m es e b is)
      | false ↦ filter-push m es e b is
    ]

least_tick-push : (es : List (Name × Payload)) (e : Name × Payload) → least_tick (es ++ e ∷ []) ≡ Some (lesser_number e.0.tick (least_tick es))
least_tick-push es e = ap least_of (map-append (λ d. d.0.tick) es (e ∷ [])) ∙ least_of-push (map (λ d. d.0.tick) es) e.0.tick

pub noted_more : (m : CommandMap) (es : List (Name × Payload)) (e : Name × Payload) (count : ℕ) (least : Option ℕ) → IsNewsOf m es count least → is_news m e ≡ true
    → IsNewsOf m (es ++ e ∷ []) (count + 1) (Some (lesser_number e.0.tick least))
noted_more m es e count least noted fresh = record {
  count_is = rw (filter-push m es e true fresh) (simp length-append (omega (arith, noted.count_is)));
  least_is = rw (filter-push m es e true fresh) (ap (λ o. Some (lesser_number e.0.tick o)) noted.least_is ∙ sym (least_tick-push (filter (is_news m) es) e));
}

pub noted_same : (m : CommandMap) (es : List (Name × Payload)) (e : Name × Payload) (count : ℕ) (least : Option ℕ) → IsNewsOf m es count least → is_news m e ≡ false
    → IsNewsOf m (es ++ e ∷ []) count least
noted_same m es e count least noted steady = record {
  count_is = rw (filter-push m es e false steady) (rw append-nil noted.count_is);
  least_is = rw (filter-push m es e false steady) (rw append-nil noted.least_is);
}

-- ---- a payload that was written and is taken back

-- a name that was written is held
pub held_after : (m : CommandMap) (n : Name) (p : Payload) → get (insert m n p) n ≡ Some p
held_after m n p = get-insert name_cmp_total m n p n ∙ ap (λ t. cond t (Some p) (get m n)) ((eq_by_cmp_equiv name_cmp_total).refl n)

-- writing what was held before gives the map from before
pub taken_back : (m : CommandMap) (n : Name) (p q : Payload) → get m n ≡ Some q → insert (insert m n p) n q ≡ m
taken_back m n p q held = same_commands _ _ (λ name. get-insert name_cmp_total (insert m n p) n q name
    ∙ elim (eq_by_cmp name_cmp name n) as (λ b. eq_by_cmp name_cmp name n ≡ b → cond b (Some q) (get (insert m n p) name) ≡ get m name) [
      | true ↦ λ tied. sym held ∙ ap (get m) (sym (same_name name n tied))
      | false ↦ λ other. get-insert name_cmp_total m n p name ∙ ap (λ t. cond t (Some p) (get m name)) other
    ] refl)
