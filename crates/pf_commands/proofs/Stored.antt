-- The entries of a tree of commands, against the map that they are seen as.
use Rattle.std.proofs.Common.{◌≡◌, T, ◌&&◌, Bool, true, false, cond, List, [], ◌∷◌, Some, refl, ap, sym, ◌∙◌}
use Rattle.std.specs.Ordering.{eq_by_cmp, is_eq}
use Rattle.std.specs.BTreeMap.{is_at}
use Rattle.std.specs.Map.{lookup, keys_of}
use Rattle.std.specs.Cmp.{eq_by_cmp_equiv}
use Rattle.std.specs.FinMap.{get, get-insert, get-from_entries, insert, from_entries, find, entries, entries_sorted, get-entries}
use Rattle.std.specs.FinMap.Entries.{same_entries, below_all, is_sorted}
use Rattle.std.specs.List.{AllByRecursion}
use Rattle.std.specs.List.Sorted.{IsStrictlySortedBy}
use Rattle.std.proofs.lemmas.Map.Keys.{sorted_head, sorted_tail}
use Rattle.std.specs.declared.cmp.Ordering.TheVariants.{Less}
use Rattle.pf_commands.specs.Name.{Name}
use Rattle.pf_commands.specs.Merge.{name_cmp}
use Rattle.pf_commands.specs.declared.payload.Payload.{Payload}
use Rattle.pf_commands.proofs.Names.{name_cmp_total, name_cmp-IsAntisymmetric}
use Rattle.pf_commands.proofs.Merging.{same_commands}

both : (a b : Bool) → T a → T b → T (a && b)
both true b p q = q
both false b p q = p

pub lookup-find : (name : Name) (es : List (Name × Payload)) → lookup (is_at (name_cmp name)) es ≡ find name_cmp name es
lookup-find name [] = refl
lookup-find name (e ∷ es) = ap (cond (is_eq (name_cmp name e.0)) (Some e.1)) (lookup-find name es)

pub lookup-get : (name : Name) (es : List (Name × Payload)) → lookup (is_at (name_cmp name)) es ≡ get (from_entries {R = name_cmp} es) name
lookup-get name es = lookup-find name es ∙ sym (get-from_entries name_cmp_total es name)

-- the map of entries with one put in
pub inserted : (es fs : List (Name × Payload)) (name : Name) (payload : Payload)
    → ((q : Name) → lookup (is_at (name_cmp q)) fs ≡ cond (is_at (name_cmp name) q) (Some payload) (lookup (is_at (name_cmp q)) es))
    → from_entries {R = name_cmp} fs ≡ insert (from_entries es) name payload
inserted es fs name payload updates = same_commands _ _ (λ q.
    sym (lookup-get q fs) ∙ updates q
    ∙ ap (λ b. cond b (Some payload) (lookup (is_at (name_cmp q)) es)) ((eq_by_cmp_equiv name_cmp_total).symm name q)
    ∙ ap (cond (eq_by_cmp name_cmp q name) (Some payload)) (lookup-get q es)
    ∙ sym (get-insert name_cmp_total (from_entries es) name payload q))

below_from_keys : (name : Name) (es : List (Name × Payload)) → AllByRecursion (λ y. name_cmp name y ≡ Less) (keys_of es) → T (below_all name_cmp name es)
below_from_keys name [] below = tt
below_from_keys name (e ∷ es) below = rw below.0 (below_from_keys name es below.1)

sorted_from_keys : (es : List (Name × Payload)) → IsStrictlySortedBy name_cmp (keys_of es) → T (is_sorted name_cmp es)
sorted_from_keys [] sorted = tt
sorted_from_keys (e ∷ es) sorted =
    both _ _ (below_from_keys e.0 es (sorted_head name_cmp e.0 (keys_of es) sorted)) (sorted_from_keys es (sorted_tail name_cmp e.0 (keys_of es) sorted))

-- entries in order are the map's
pub entries-from_entries : (es : List (Name × Payload)) → IsStrictlySortedBy name_cmp (keys_of es) → entries (from_entries {R = name_cmp} es) ≡ es
entries-from_entries es sorted =
    same_entries name_cmp name_cmp_total name_cmp-IsAntisymmetric (entries (from_entries es)) es (entries_sorted (from_entries es)) (sorted_from_keys es sorted)
    (λ name. sym (get-entries (from_entries es) name) ∙ get-from_entries name_cmp_total es name)
