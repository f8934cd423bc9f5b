-- The commands of a map, put into another one after the other, are the map merged in.
use Rattle.std.proofs.Common.{◌≡◌, T, ◌&&◌, Bool, true, false, List, [], ◌∷◌, map, refl, ap, sym, ◌∙◌}
use Rattle.std.specs.declared.cmp.Ordering.{Ordering}
use Rattle.std.specs.declared.cmp.Ordering.TheVariants.{Less, Equal, Greater}
use Rattle.std.specs.Ordering.{is_lt}
use Rattle.std.specs.FinMap.{entries, entries_sorted, from_entries, get-entries, get-from_entries}
use Rattle.std.specs.FinMap.Entries.{below_all, is_sorted}
use Rattle.std.specs.List.{AllByRecursion}
use Rattle.std.specs.List.Sorted.{IsStrictlySortedBy}
use Rattle.std.specs.Map.{keys_of}
use Rattle.pf_commands.specs.Name.{Name}
use Rattle.pf_commands.specs.Merge.{name_cmp, CommandMap, merge, put_all, singleton}
use Rattle.pf_commands.specs.declared.payload.Command.{Command}
use Rattle.pf_commands.specs.declared.payload.Payload.{Payload}
use Rattle.pf_commands.proofs.Changes.{put_entries, put_entries-all}
use Rattle.pf_commands.proofs.Merging.{same_commands, merge_assoc, merge_same}
use Rattle.pf_commands.proofs.Names.{name_cmp_total}
use Rattle.pf_events.specs.Laws.{listed_commands}

-- ---- entries in order

pub first : (a b : Bool) → T (a && b) → T a
first true b h = tt
first false b h = h

pub second : (a b : Bool) → T (a && b) → T b
second true b h = h
second false b h = absurd h

less : (o : Ordering) → T (is_lt o) → o ≡ Less
less Less h = refl
less Equal h = absurd h
less Greater h = absurd h

all_below : (name : Name) (es : List (Name × Payload)) → T (below_all name_cmp name es) → AllByRecursion (λ y. name_cmp name y ≡ Less) (keys_of es)
all_below name [] h = tt
all_below name (e ∷ es) h = (less _ (first _ _ h), all_below name es (second _ _ h))

keys_sorted : (es : List (Name × Payload)) → T (is_sorted name_cmp es) → IsStrictlySortedBy name_cmp (keys_of es)
unfolding IsStrictlySortedBy
keys_sorted [] h = tt
keys_sorted (e ∷ es) h = (all_below e.0 es (first _ _ h), keys_sorted es (second _ _ h))

from_entries-entries : (m : CommandMap) → from_entries (entries m) ≡ m
from_entries-entries m = same_commands _ _ (λ name. get-from_entries name_cmp_total (entries m) name ∙ sym (get-entries m name))

-- ---- putting them in

put_all-entries : (m : CommandMap) (es : List (Name × Payload)) → put_all m (map (λ e. let c : Command = record { name = e.0; payload = e.1 } in c) es) ≡ put_entries m es
put_all-entries m [] = refl
put_all-entries m (e ∷ es) = put_all-entries (merge m (singleton e.0 e.1)) es

pub put_all-commands_of : (m k : CommandMap) → put_all m (listed_commands k) ≡ merge m k
put_all-commands_of m k =
    put_all-entries m (entries k) ∙ put_entries-all m (entries k) (keys_sorted (entries k) (entries_sorted k))
    ∙ ap (merge m) (from_entries-entries k)

-- ---- what a map has already

-- merging k into w changes nothing
abbrev pub Absorbs : CommandMap → CommandMap → Type 0
Absorbs w k = merge w k ≡ w

pub absorbs_merged : (m k : CommandMap) → Absorbs (merge m k) k
absorbs_merged m k = merge_assoc m k k ∙ ap (merge m) (merge_same k)

pub absorbs_more : (v w k : CommandMap) → Absorbs v w → Absorbs w k → Absorbs v k
absorbs_more v w k outer inner = ap (λ x. merge x k) (sym outer) ∙ merge_assoc v w k ∙ ap (merge v) inner ∙ outer
