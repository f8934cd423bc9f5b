-- The names between two names of one tick, or of one tick and player.
use Rattle.std.proofs.Common.{◌≡◌, ℕ, ◌<◌, ◌≤◌, ◌^◌, ◌⊎◌, ⊎_elim, Bool, true, false, not, ◌&&◌, ◌==◌, cond, List, [], ◌∷◌, map, filter, Option, Some, None, refl, ap, sym, ◌∙◌, arith}
use Rattle.std.specs.Prelude.{IsSome}
use Rattle.std.specs.declared.cmp.Ordering.{Ordering}
use Rattle.std.specs.Ordering.{nat_cmp, ordering_then, is_gt, is_lt, is_le, eq_by_cmp, is_eq}
use Rattle.std.proofs.lemmas.Cmp.{tied_itself, nat_cmp_total}
use Rattle.std.specs.BTreeMap.Range.{range_contains, entries_between}
use Rattle.std.specs.declared.ops.Bound.TheVariants.{Included}
use Rattle.std.proofs.lemmas.Bool.Decides.{nat_tests}
use Rattle.std.specs.FinMap.{get, get-entries, entries, find, from_entries}
use Rattle.pf_commands.specs.Name.{Name, IsName}
use Rattle.pf_commands.specs.Merge.{name_cmp, name_at, CommandMap, IsCommandMap, payloads_at}
use Rattle.pf_commands.specs.declared.payload.Payload.{Payload}
use Rattle.std.specs.Map.{lookup, keys_of}
use Rattle.std.specs.List.Sorted.{IsStrictlySortedBy}
use Rattle.std.specs.BTreeMap.{is_at}
use Rattle.std.proofs.lemmas.Bool.{cases_lt}
use Rattle.pf_commands.specs.Payload.{IsPayload}
use Rattle.pf_commands.proofs.Stored.{lookup-get, entries-from_entries}
use Rattle.pf_commands.proofs.Names.{name_cmp_total}

-- not above by a number and then an order: below by the number, or equal and not above by the order
not_above : (a b : ℕ) (o : Ordering) → is_gt (ordering_then (nat_cmp a b) o) ≡ false → (a < b) ⊎ ((a ≡ b) × (is_gt o ≡ false))
not_above a b o is = grind (arith, nat_tests)

-- not above either way: equal, and then not above by the orders
level : (a b : ℕ) (o o' : Ordering) → is_gt (ordering_then (nat_cmp a b) o) ≡ false → is_gt (ordering_then (nat_cmp b a) o') ≡ false
    → (b ≡ a) × (is_gt o ≡ false) × (is_gt o' ≡ false)
level a b o o' up down =
    ⊎_elim
    (λ less. ⊎_elim (λ more. absurd (omega arith)) (λ e. absurd (omega (arith, e.0))) (not_above b a o' down))
    (λ e. ⊎_elim (λ more. absurd (omega (arith, e.0))) (λ f. (f.0, e.1, f.1)) (not_above b a o' down))
    (not_above a b o up)

-- a name from the first to the last of a tick and player is of that tick and player
pub between : (tick player : ℕ) (name : Name) → is_gt (name_cmp (name_at tick player 0) name) ≡ false
    → is_gt (name_cmp name (name_at tick player 65535)) ≡ false → name ≡ name_at tick player name.number
between tick player name up down =
    let ticks = level tick name.tick _ _ up down in
    let players = level player name.player _ _ ticks.1 ticks.2 in
    λ i. record { tick = ticks.0 i; player = players.0 i; number = name.number }

same_high : (a : ℕ) (o : Ordering) → ordering_then (nat_cmp a a) o ≡ o
same_high a o = ap (λ r. ordering_then r o) (tied_itself nat_cmp_total a)

-- names of one tick and player are compared by number
numbers_cmp : (tick player n m : ℕ) → name_cmp (name_at tick player n) (name_at tick player m) ≡ nat_cmp n m
numbers_cmp tick player n m = same_high tick _ ∙ same_high player _

pub within : (tick player n m : ℕ) → n ≤ m → is_gt (name_cmp (name_at tick player n) (name_at tick player m)) ≡ false
within tick player n m le = ap is_gt (numbers_cmp tick player n m) ∙ grind (arith, nat_tests)

pub not_before : (tick player n m : ℕ) → is_lt (name_cmp (name_at tick player n) (name_at tick player m)) ≡ false → m ≤ n
not_before tick player n m is =
    let plain : is_lt (nat_cmp n m) ≡ false = ap is_lt (sym (numbers_cmp tick player n m)) ∙ is in
    grind (arith, nat_tests)

-- the names from the first to the last of a tick are those of that tick
in_tick : (tick : ℕ) (name : Name) → IsName name
    → (is_le (name_cmp (name_at tick 0 0) name) && not (is_lt (name_cmp (name_at tick 7 65535) name))) ≡ (name.tick == tick)
in_tick tick name isn = let p = isn.player in let n = isn.number in grind (arith, nat_tests)

-- nothing is held under a name out of range
pub get-out_of_range : (m : CommandMap) → IsCommandMap m → (name : Name) → (IsName name → ⊥) → get m name ≡ None
get-out_of_range m are name out = elim (get m name) as (λ o. get m name ≡ o → o ≡ None) [ None ↦ λ _. refl | Some p ↦ λ is. absurd (out (are name p is).0) ] refl

-- the names of entries, each found under its name, are in range
AreNamed : List (Name × Payload) → Type 0
AreNamed es = (name : Name) (payload : Payload) → find name_cmp name es ≡ Some payload → IsName name

named_head : (e : Name × Payload) (es : List (Name × Payload)) → AreNamed (e ∷ es) → IsName e.0
unfolding AreNamed
named_head e es are = are e.0 e.1 (ap (λ o. cond (is_eq o) (Some e.1) (find name_cmp e.0 es)) (tied_itself name_cmp_total e.0))

named_tail : (e : Name × Payload) (es : List (Name × Payload)) → AreNamed (e ∷ es) → AreNamed es
unfolding AreNamed
named_tail e es are name payload is =
    elim (eq_by_cmp name_cmp name e.0) as (λ b. eq_by_cmp name_cmp name e.0 ≡ b → IsName name) [
      | true ↦ λ tied. are name e.1 (ap (λ b. cond b (Some e.1) (find name_cmp name es)) tied)
      | false ↦ λ apart. are name payload (ap (λ b. cond b (Some e.1) (find name_cmp name es)) apart ∙ is)
    ] refl

-- two tests of names that agree at names in range keep the same of such entries
filter-agreeing : (p q : Name → Bool) → ((name : Name) → IsName name → p name ≡ q name) → (es : List (Name × Payload)) → AreNamed es
    → filter (λ e. p e.0) es ≡ filter (λ e. q e.0) es
filter-agreeing p q agree [] are = refl
filter-agreeing p q agree (e ∷ es) are =
    let rest = filter-agreeing p q agree es (named_tail e es are) in
    λ i. cond (agree e.0 (named_head e es are) i) (e ∷ rest i) (rest i)

filter-none : (es : List (Name × Payload)) → filter (λ _. false) es ≡ []
filter-none [] = refl
filter-none (e ∷ es) = filter-none es

named_entries : (m : CommandMap) → IsCommandMap m → AreNamed (entries m)
unfolding AreNamed
named_entries m are name payload is = (are name payload (get-entries m name ∙ is)).0

-- the entries between the first and the last name of a tick are those of that tick
entries_between-tick : (es : List (Name × Payload)) (first last : Name) (tick : ℕ) → first ≡ name_at tick 0 0 → last ≡ name_at tick 7 65535
    → IsStrictlySortedBy name_cmp (keys_of es) → IsCommandMap (from_entries es)
    → entries_between name_cmp (Included first) (Included last) es ≡ filter (λ e. e.0.tick == tick) (entries (from_entries {R = name_cmp} es))
entries_between-tick es first last tick first_is last_is sorted are =
    let from = Included (name_at tick 0 0) in
    let to = Included (name_at tick 7 65535) in
    ap (λ f. entries_between name_cmp (Included f) (Included last) es) first_is
    ∙ ap (λ l. entries_between name_cmp from (Included l) es) last_is
    ∙ ap (entries_between name_cmp from to) (sym (entries-from_entries es sorted))
    ∙ filter-agreeing (range_contains name_cmp from to) (λ n. n.tick == tick) (in_tick tick) (entries (from_entries es)) (named_entries (from_entries es) are)

-- so what is found between them are the commands of the tick
pub payloads_between : (es found : List (Name × Payload)) {m : CommandMap} (first last : Name) (tick : ℕ) → first ≡ name_at tick 0 0 → last ≡ name_at tick 7 65535
    → IsStrictlySortedBy name_cmp (keys_of es) → IsCommandMap (from_entries es) → from_entries es ≡ m
    → found ≡ entries_between name_cmp (Included first) (Included last) es → map (λ e. e.1) found ≡ payloads_at m tick
payloads_between es found first last tick first_is last_is sorted are map_is between =
    ap (map (λ e. e.1)) (between ∙ entries_between-tick es first last tick first_is last_is sorted are) ∙ ap (λ m. payloads_at m tick) map_is

-- there are none at a tick out of range
pub payloads_at-out_of_range : (m : CommandMap) (tick : ℕ) → IsCommandMap m → 2 ^ 20 ≤ tick → payloads_at m tick ≡ []
payloads_at-out_of_range m tick are far =
    let other : (n : Name) → IsName n → (n.tick == tick) ≡ false = λ n isn. let near = isn.tick in grind (arith, nat_tests) in
    ap (map (λ e. e.1)) (filter-agreeing (λ n. n.tick == tick) (λ _. false) other (entries m) (named_entries m are) ∙ filter-none (entries m))

-- a name under which something is held has a number in range
number_few : (held : Option Payload) (name : Name) → ((payload : Payload) → held ≡ Some payload → IsName name × IsPayload payload) → IsSome held → name.number ≤ 65535
number_few None name are some = cc
number_few (Some payload) name are some = let few = (are payload refl).0.number in omega arith

-- entries es, seen as the map m, and the first and the last name of a tick and player
pub record IsSpan (es : List (Name × Payload)) (m : CommandMap) (first last : Name) (tick player : ℕ) : Type 0 where
  pub first_is : first ≡ name_at tick player 0
  pub last_is : last ≡ name_at tick player 65535
  pub map_is : from_entries es ≡ m
  pub named : IsCommandMap (from_entries es)

pub span : (es : List (Name × Payload)) {m : CommandMap} {first last : Name} {tick player : ℕ} → first ≡ name_at tick player 0 → last ≡ name_at tick player 65535
    → from_entries es ≡ m → IsCommandMap (from_entries es) → IsSpan es m first last tick player
span es first_is last_is map_is named = record { first_is = first_is; last_is = last_is; map_is = map_is; named = named }

-- the name is neither before the first nor after the last
abbrev pub IsWithin : Name → Name → Name → Type 0
IsWithin first last name = (is_gt (name_cmp first name) ≡ false) × (is_gt (name_cmp name last) ≡ false)

module _ {es : List (Name × Payload)} {m : CommandMap} {first last : Name} {tick player : ℕ} (s : IsSpan es m first last tick player) where
  lookup-span : (name : Name) → lookup (is_at (name_cmp name)) es ≡ get m name
  lookup-span name = lookup-get name es ∙ ap (λ k. get k name) s.map_is

  -- a name between the two is of the tick and player
  span_name : (name : Name) → IsWithin first last name → name ≡ name_at tick player name.number
  span_name name is = between tick player name
      (ap (λ f. is_gt (name_cmp f name)) (sym s.first_is) ∙ is.0) (ap (λ l. is_gt (name_cmp name l)) (sym s.last_is) ∙ is.1)

  -- and each name of the tick and player is between the two
  span_within : (number : ℕ) → number ≤ 65535 → IsWithin first last (name_at tick player number)
  span_within number le = (
    ap (λ f. is_gt (name_cmp f (name_at tick player number))) s.first_is ∙ within tick player 0 number (omega arith),
    ap (λ l. is_gt (name_cmp (name_at tick player number) l)) s.last_is ∙ within tick player number 65535 le,
  )

  pub held_in_span : (name : Name) (payload : Payload) (number : ℕ) → IsWithin first last name → lookup (is_at (name_cmp name)) es ≡ Some payload → number ≡ name.number
      → IsSome (get m (name_at tick player number))
  held_in_span name payload number is found same =
      let e : get m (name_at tick player number) ≡ Some payload =
      ap (λ n. get m (name_at tick player n)) same ∙ ap (get m) (sym (span_name name is)) ∙ sym (lookup-span name) ∙ found in
      rw e refl

  pub most_in_span : (name : Name) (greatest : ℕ) → IsWithin first last name → greatest ≡ name.number
      → ((q : Name) → IsWithin first last q → IsSome (lookup (is_at (name_cmp q)) es) → is_lt (name_cmp name q) ≡ false)
      → (other : ℕ) → IsSome (get m (name_at tick player other)) → other ≤ greatest
  most_in_span name greatest is same last_one other some =
      let q = name_at tick player other in
      let few : other ≤ 65535 = number_few (get (from_entries es) q) q (s.named q) (rw (ap (λ k. get k q) s.map_is) some) in
      let least : is_lt (name_cmp name q) ≡ false = last_one q (span_within other few) (rw (lookup-span q) some) in
      rw same (not_before tick player name.number other (ap (λ n. is_lt (name_cmp n q)) (sym (span_name name is)) ∙ least))

  pub none_in_span : ((q : Name) → IsWithin first last q → lookup (is_at (name_cmp q)) es ≡ None) → (number : ℕ) → get m (name_at tick player number) ≡ None
  none_in_span none number =
      let q = name_at tick player number in
      ⊎_elim
      (λ many. ap (λ k. get k q) (sym s.map_is) ∙ get-out_of_range (from_entries es) s.named q (λ isn. let few = isn.number in omega arith))
      (λ few. sym (lookup-span q) ∙ none q (span_within number few))
      (cases_lt 65535 number)
