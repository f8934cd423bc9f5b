-- What is found in sorted entries.
use Rattle.std.proofs.Common.{◌≡◌, ◌∷◌, T, Bool, true, false, cond, List, [], Some, None, ap, refl, ◌∙◌}
use Rattle.std.specs.declared.cmp.Ordering.{Ordering}
use Rattle.std.specs.declared.cmp.Ordering.TheVariants.{Less, Equal, Greater}
use Rattle.std.specs.Ordering.{eq_by_cmp, is_eq, is_lt}
use Rattle.std.specs.Cmp.{eq_by_cmp_equiv}
use Rattle.std.specs.FinMap.{find}
use Rattle.std.specs.FinMap.Entries.{below_all}
use Rattle.pf_commands.specs.declared.payload.Payload.{Payload}
use Rattle.pf_commands.specs.Merge.{name_cmp}
use Rattle.pf_commands.specs.Name.{Name}
use Rattle.pf_commands.proofs.Merging.{same_name}
use Rattle.pf_commands.proofs.Names.{name_cmp_total}
use Rattle.pf_commands.proofs.Since.{both_hold}

differs : (o : Ordering) → T (is_lt o) → is_eq o ≡ false
differs Less h = refl
differs Equal h = absurd h
differs Greater h = absurd h

not_above : (name : Name) (es : List (Name × Payload)) → T (below_all name_cmp name es) → find name_cmp name es ≡ None
not_above name [] h = refl
not_above name (e ∷ es) h =
    let parts = both_hold (is_lt (name_cmp name e.0)) (below_all name_cmp name es) h in
    rw (differs (name_cmp name e.0) parts.0) (not_above name es parts.1)

-- what is found behind the first entry is found with it
pub found_behind : (e : Name × Payload) (es : List (Name × Payload)) (name : Name) (payload : Payload) → T (below_all name_cmp e.0 es)
    → find name_cmp name es ≡ Some payload → find name_cmp name (e ∷ es) ≡ Some payload
found_behind e es name payload below found = by (eq_by_cmp name_cmp name e.0) refl
  where
    by : (b : Bool) → eq_by_cmp name_cmp name e.0 ≡ b → cond b (Some e.1) (find name_cmp name es) ≡ Some payload
    by true tied =
        let none : find name_cmp name es ≡ None = ap (λ n. find name_cmp n es) (same_name name e.0 tied) ∙ not_above e.0 es below in absurd cc
    by false other = found

pub found_first : (e : Name × Payload) (es : List (Name × Payload)) → find name_cmp e.0 (e ∷ es) ≡ Some e.1
found_first e es = ap (λ b. cond b (Some e.1) (find name_cmp e.0 es)) ((eq_by_cmp_equiv name_cmp_total).refl e.0)
