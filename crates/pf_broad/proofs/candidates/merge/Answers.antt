use Rattle.std.proofs.Common.{◌≡◌, ◌+◌, ◌-◌, ◌<◌, ◌≤◌, ◌++◌, ◌||◌, ◌∷◌, [], false, true, List, length, length-drop, drop, sym, subst, ap, ◌∙◌, arith}
use Rattle.std.proofs.lemmas.List.{drop_all, get_or_default, take_all}
use Rattle.pf_shapes.specs.Pair.{is_before, Pair}
use Rattle.pf_broad.specs.Enlarged.{has_one_of, pairs_without}
use Rattle.pf_broad.specs.Pairs.{pair, pairs}
use Rattle.pf_broad.specs.Partners.{has_body}
use Rattle.pf_broad.proofs.Ascending.{ascending}
use Rattle.pf_broad.proofs.Merging.{from_place, merge_fresh, merge_other, merge_rest, others_from, passes_first, IsMerged}
use Rattle.pf_broad.proofs.Searching.{has_one_read}
use Rattle.pf_broad.proofs.Partnering.{filter-AreBodies}
use Rattle.pf_broad.proofs.Within.{bodies_below}
use Rattle.pf_broad.proofs.candidates.merge.Goals.{After-loop-i, In_ok-extend_from_slice, After-pair, After-index-in-loop-i, else-next-len-via-then-next-len+else-is_before, else-next-len-via-else-next-len}
use Rattle.pf_broad.proofs.candidates.merge.Goals as goal

pub left_flags-requires : goal.left_flags-requires
left_flags-requires c = filter-AreBodies c.args.enlarged.now (has_body c.args.left.now) c.args.left.now c.requires.left

pub loop-i-init : goal.loop-i-init
loop-i-init c =
    let enlarged = c.args.enlarged.now in
    record {
      within = omega arith;
      next_within = omega arith;
      pairs = record {
        rest = pairs enlarged;
        parts = ap (λ l. l ++ pairs enlarged) c.in_ok-merged.ensures.items;
        ascending = ascending enlarged;
        passing = sym c.in_ok-fresh.ensures;
        failing = sym c.requires.others;
      };
      count = omega (arith, c.in_ok-merged.ensures.len);
      room = omega (arith, c.in_ok-merged.ensures.exact, c.len.ensures);
    }

-- the next candidate is of two bodies that there are
next_bodies : (c : After-pair) → (c.pair.inside.a < length c.args.enlarged.now) × (c.pair.inside.b < length c.args.enlarged.now)
next_bodies c =
    let cs = c.args.candidates.now in
    bodies_below (length c.args.enlarged.now) cs c.loop-i.i (pair c.pair.inside.a c.pair.inside.b) c.index-candidates-i.result
    c.requires.candidates c.loop-i-test.true c.pair.view_is c.index-candidates-i.is

pub index-requires : goal.index-requires
index-requires c = omega (arith, (next_bodies (goal.at.index-requires c).After-pair).0, c.in_ok-is_left.ensures.count)

pub index-requires-in-loop-i : goal.index-requires-in-loop-i
index-requires-in-loop-i c = omega (arith, (next_bodies (goal.at.index-requires-in-loop-i c).After-pair).1, c.in_ok-is_left.ensures.count)

-- whether it has a body that left
tested : (c : After-index-in-loop-i) → has_one_of c.args.left.now c.index-candidates-i.result ≡ (c.index.result.now || c.index-in-loop-i.result.now)
tested c =
    ap (has_one_of c.args.left.now) (sym c.pair.view_is)
    ∙ has_one_read c.args.left.now c.in_ok-is_left.is_left.items (length c.args.enlarged.now) (pair c.pair.inside.a c.pair.inside.b)
    c.index.result.now c.index-in-loop-i.result.now c.in_ok-is_left.ensures.count c.in_ok-is_left.ensures.each (next_bodies (goal.at.After-index-in-loop-i c).After-pair)
    c.index.ensures c.index-in-loop-i.ensures

pub loop-i-preserved-then-index : goal.loop-i-preserved-then-index
loop-i-preserved-then-index c =
    let here = (goal.at.loop-i-preserved-then-index c).After-index-in-loop-i in
    let left = c.args.left.now in
    let cs = c.args.candidates.now in
    let i = c.loop-i.i in
    let inv = c.loop-i.invariant in
    let p = c.index-candidates-i.result in
    let is : has_one_of left p ≡ true = tested here ∙ c.if-index.true in
    record {
      within = omega (arith, c.loop-i-test.true);
      next_within = inv.next_within;
      pairs = subst (λ l. IsMerged (has_one_of left) (pairs c.args.enlarged.now) c.loop-i.merged.items (drop c.loop-i.next c.in_ok-fresh.fresh.items) l)
          (others_from left cs i true p c.loop-i-test.true c.index-candidates-i.is is) inv.pairs;
      count = omega (arith, inv.count);
      room = inv.room;
    }

pub loop-i-preserved-then-is_before : goal.loop-i-preserved-then-is_before
loop-i-preserved-then-is_before c =
    let here = (goal.at.loop-i-preserved-then-is_before c).After-index-in-loop-i in
    let left = c.args.left.now in
    let t = has_one_of left in
    let cs = c.args.candidates.now in
    let fresh = c.in_ok-fresh.fresh.items in
    let inv = c.loop-i.invariant in
    let h = c.index-candidates-i.result in
    let p = c.index-then-is_before.result.now in
    let q = c.index-then-next-len.result.now in
    let below : c.loop-i.next < length fresh = omega (arith, c.if-next-len.true, c.len-else-index.ensures) in
    let at_p : drop c.loop-i.next fresh ≡ p ∷ drop (c.loop-i.next + 1) fresh = from_place fresh c.loop-i.next p below c.index-then-is_before.ensures in
    let same : q ≡ p = c.index-then-next-len.ensures ∙ get_or_default fresh c.loop-i.next q p below ∙ sym c.index-then-is_before.ensures in
    let first : is_before p h ≡ true = subst (λ r. is_before r h ≡ true) same (sym c.is_before.ensures ∙ c.if-is_before.true) in
    let is : t p ≡ true = passes_first t inv.pairs.rest (drop (c.loop-i.next + 1) fresh) p (inv.pairs.passing ∙ at_p) in
    record {
      within = inv.within;
      next_within = omega (arith, below);
      pairs = subst (λ l. IsMerged t (pairs c.args.enlarged.now) l (drop (c.loop-i.next + 1) fresh) (pairs_without left (drop c.loop-i.i cs))) (sym c.push_reserved.ensures.items)
          (merge_fresh t (pairs c.args.enlarged.now) c.loop-i.merged.items _ _ _ _ p h at_p
          (others_from left cs c.loop-i.i false h c.loop-i-test.true c.index-candidates-i.is (tested here ∙ c.if-index.false)) first inv.pairs);
      count = omega (arith, inv.count, c.push_reserved.ensures.len);
      room = omega (arith, inv.room, c.push_reserved.ensures.capacity);
    }

pub loop-i-preserved : goal.loop-i-preserved
loop-i-preserved c =
    let here = (goal.at.loop-i-preserved c).After-index-in-loop-i in
    let left = c.args.left.now in
    let t = has_one_of left in
    let cs = c.args.candidates.now in
    let i = c.loop-i.i in
    let fresh = c.in_ok-fresh.fresh.items in
    let inv = c.loop-i.invariant in
    let h = c.index-candidates-i.result in
    let is : t h ≡ false = tested here ∙ c.if-index.false in
    let after : (p : Pair) (ps : List Pair) → drop c.loop-i.next fresh ≡ p ∷ ps → is_before p h ≡ false = λ p ps at_p.
    elim c.else-next-len.branch [
      | else-next-len-via-then-next-len+else-is_before w ↦
          (let q = w.index-then-next-len.result.now in
          let below : c.loop-i.next < length fresh = omega (arith, w.if-next-len.true, c.len-else-index.ensures) in
          let at_q : drop c.loop-i.next fresh ≡ q ∷ drop (c.loop-i.next + 1) fresh = from_place fresh c.loop-i.next q below w.index-then-next-len.ensures in
          let same : q ≡ p = cc in
          subst (λ r. is_before r h ≡ false) same (sym w.is_before.ensures ∙ w.if-is_before.false))
      | else-next-len-via-else-next-len w ↦
          absurd (let none = drop_all c.loop-i.next fresh (omega (arith, w.if-next-len.false, c.len-else-index.ensures)) in cc)
    ] in
    let pushed : c.push_reserved-else-next-len.new.self.items ≡ c.loop-i.merged.items ++ h ∷ [] =
    c.push_reserved-else-next-len.ensures.items ∙ ap (λ r. c.loop-i.merged.items ++ r ∷ []) c.pair.view_is in
    record {
      within = omega (arith, c.loop-i-test.true);
      next_within = inv.next_within;
      pairs = subst (λ l. IsMerged t (pairs c.args.enlarged.now) l (drop c.loop-i.next fresh) (pairs_without left (drop (i + 1) cs))) (sym pushed)
          (merge_other t (pairs c.args.enlarged.now) c.loop-i.merged.items _ _ _ h
          (others_from left cs i false h c.loop-i-test.true c.index-candidates-i.is is) after inv.pairs);
      count = omega (arith, inv.count, c.push_reserved-else-next-len.ensures.len);
      room = omega (arith, inv.room, c.push_reserved-else-next-len.ensures.capacity);
    }

-- all others are merged
all_merged : (c : After-loop-i) → length c.args.candidates.now ≤ c.loop-i.i
    → IsMerged (has_one_of c.args.left.now) (pairs c.args.enlarged.now) c.loop-i.merged.items (drop c.loop-i.next c.in_ok-fresh.fresh.items) []
all_merged c ended =
    let t = has_one_of c.args.left.now in
    subst (λ l. IsMerged t (pairs c.args.enlarged.now) c.loop-i.merged.items (drop c.loop-i.next c.in_ok-fresh.fresh.items) (pairs_without c.args.left.now l))
    (drop_all c.loop-i.i c.args.candidates.now ended) c.loop-i.invariant.pairs

-- and then the pairs with a body that left
all_pairs : (c : In_ok-extend_from_slice) → c.extend_from_slice.new.self.items ≡ pairs c.args.enlarged.now
all_pairs c =
    let rest = drop c.loop-i.next c.deref-2.result.now in
    c.in_ok-extend_from_slice.ensures.items
    ∙ ap (λ (l : List Pair). c.loop-i.merged.items ++ l)
    (take_all (length c.deref-2.result.now - c.loop-i.next) rest (omega (arith, length-drop c.loop-i.next c.deref-2.result.now))
    ∙ ap (drop c.loop-i.next) c.deref-2.ensures.value)
    ∙ merge_rest (has_one_of c.args.left.now) (pairs c.args.enlarged.now) c.loop-i.merged.items (drop c.loop-i.next c.in_ok-fresh.fresh.items)
    (all_merged (goal.at.In_ok-extend_from_slice c).After-loop-i c.loop-i-test.false)

pub returns : goal.returns
returns c = all_pairs (goal.at.returns c).In_ok-extend_from_slice
