-- Commands that are not before a horizon: maps of such commands, and the least ticks of their news.
use Rattle.std.proofs.Common.{◌≡◌, ℕ, ◌≤◌, Bool, true, false, cond, if◌then◌else◌, nat_le, filter, List, [], ◌∷◌, Option, Some, None, refl, ap, sym, ◌∙◌, subst, ⊎_elim, arith}
use Rattle.std.specs.Prelude.{IfSome}
use Rattle.std.specs.List.{list_all}
use Rattle.std.specs.Ordering.{eq_by_cmp}
use Rattle.std.specs.FinMap.{get, get-empty, entries, empty}
use Rattle.std.proofs.lemmas.Bool.{and_parts, leb-true}
use Rattle.pf_commands.specs.declared.payload.Command.{Command}
use Rattle.pf_commands.specs.declared.payload.Payload.{Payload}
use Rattle.pf_commands.specs.Merge.{name_cmp, CommandMap, heaviest_of, merge, singleton}
use Rattle.pf_commands.specs.Name.{Name}
use Rattle.pf_commands.specs.News.{is_news, news, least_tick, lesser_number}
use Rattle.pf_commands.specs.Ticks.{IsFrom, is_from}
use Rattle.pf_commands.proofs.Changes.{get-merge_one}
use Rattle.pf_commands.proofs.Merging.{same_name, get-merge}
use Rattle.pf_rollback.specs.Core.{news_tick}
use Rattle.pf_commands.proofs.Weights.{heavier_of_either}

-- ---- maps

pub from_none : (tick : ℕ) → IsFrom tick empty
from_none tick name payload held = let none = sym (get-empty name_cmp name) ∙ held in absurd cc

pub from_put : (horizon : ℕ) (m : CommandMap) (c : Command) → IsFrom horizon m → horizon ≤ c.name.tick → IsFrom horizon (merge m (singleton c.name c.payload))
from_put horizon m c from late name payload held =
    by (eq_by_cmp name_cmp name c.name) refl (sym (get-merge_one m c.name c.payload name) ∙ held)
  where
    by : (b : Bool) → eq_by_cmp name_cmp name c.name ≡ b
        → cond b (heaviest_of (get m c.name) (Some c.payload)) (get m name) ≡ Some payload → horizon ≤ name.tick
    by true tied held = let same : name.tick ≡ c.name.tick = ap (λ (n : Name). n.tick) (same_name name c.name tied) in omega arith
    by false other held = from name payload held

pub from_merge : (horizon : ℕ) (m k : CommandMap) → IsFrom horizon m → IsFrom horizon k → IsFrom horizon (merge m k)
from_merge horizon m k mine others name payload held =
    ⊎_elim (mine name payload) (others name payload) (heavier_of_either (get m name) (get k name) payload (sym (get-merge m k name) ∙ held))

-- ---- least ticks of news

pub put_late : (horizon : ℕ) (m : CommandMap) (c : Command) (least : Option ℕ) → least ≡ news_tick m c → horizon ≤ c.name.tick
    → IfSome least (λ tick. horizon ≤ tick)
put_late horizon m c least is late = subst (λ o. IfSome o (λ tick. horizon ≤ tick)) (sym is) (by (is_news m (c.name, c.payload)))
  where
    by : (b : Bool) → IfSome (if b then Some c.name.tick else None) (λ tick. horizon ≤ tick)
    by true = late
    by false = tt

lesser_late : (horizon n : ℕ) (other : Option ℕ) → horizon ≤ n → IfSome other (λ tick. horizon ≤ tick) → horizon ≤ lesser_number n other
lesser_late horizon n None low late = low
lesser_late horizon n (Some m) low late = omega arith

least_late : (horizon : ℕ) (p : Name × Payload → Bool) (es : List (Name × Payload)) → list_all (λ e. nat_le horizon e.0.tick) es ≡ true
    → IfSome (least_tick (filter p es)) (λ tick. horizon ≤ tick)
least_late horizon p [] all = tt
least_late horizon p (e ∷ es) all =
    let parts = and_parts (nat_le horizon e.0.tick) (list_all (λ d. nat_le horizon d.0.tick) es) all in
    by (p e) (least_late horizon p es parts.1) (leb-true horizon e.0.tick parts.0)
  where
    by : (b : Bool) → IfSome (least_tick (filter p es)) (λ tick. horizon ≤ tick) → horizon ≤ e.0.tick
        → IfSome (least_tick (cond b (e ∷ filter p es) (filter p es))) (λ tick. horizon ≤ tick)
    by true late low = lesser_late horizon e.0.tick (least_tick (filter p es)) low late
    by false late low = late

pub merge_late : (horizon : ℕ) (m other : CommandMap) (least : Option ℕ) → least ≡ least_tick (news m other) → is_from horizon other ≡ true
    → IfSome least (λ tick. horizon ≤ tick)
merge_late horizon m other least is late =
    subst (λ o. IfSome o (λ tick. horizon ≤ tick)) (sym is) (least_late horizon (is_news m) (entries other) late)
