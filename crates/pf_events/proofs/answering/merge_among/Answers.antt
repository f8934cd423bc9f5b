use Rattle.std.specs.Prelude.{slice_set}
use Rattle.std.proofs.Common.{◌≡◌, ◌<◌, ◌++◌, ℕ, length, ap, sym, ◌∙◌, arith}
use Rattle.pf_events.proofs.Cores.{merged_core}
use Rattle.pf_events.proofs.Parts.{front_element, back_element, front_written, back_written}
use Rattle.pf_events.proofs.answering.merge_among.Goals as goal

pub returns-then-to-from : goal.returns-then-to-from
returns-then-to-from c = λ old others is_old is_others.
    let all = c.args.cores.now in
    let front = c.split_at_mut-low.result.0.now in
    let back = c.split_at_mut-low.result.1.now in
    let parts = c.split_at_mut-low.ensures.value in
    let to : c.from-to.result ≡ c.args.peer = c.from-to.ensures in
    let within : c.args.peer < length front = omega (arith, c.split_at_mut-low.ensures.front_len) in
    let cut : length front ≡ c.args.other = omega (arith, c.split_at_mut-low.ensures.front_len) in
    let core : c.index-low-to.result ≡ old =
    front_element all front back c.args.peer c.index-low-to.result old parts within (rw to at c.index-low-to.is) is_old in
    let other : c.index-high-0.result ≡ others =
    back_element all front back c.args.other c.index-high-0.result others parts cut c.index-high-0.is is_others in (
      c.merge.new.core,
      ap (λ (i : ℕ). slice_set front i c.merge.new.core ++ back) to ∙ front_written all front back c.args.peer c.merge.new.core parts within,
      merged_core _ _ _ old others _ _ (sym c.index-low-to.is ∙ core) (sym c.index-high-0.is ∙ other) c.merge.ensures,
    )

pub returns-else-to-from : goal.returns-else-to-from
returns-else-to-from c = λ old others is_old is_others.
    let all = c.args.cores.now in
    let front = c.split_at_mut-low.result.0.now in
    let back = c.split_at_mut-low.result.1.now in
    let parts = c.split_at_mut-low.ensures.value in
    let from : c.from-from.result ≡ c.args.other = c.from-from.ensures in
    let within : c.args.other < length front = omega (arith, c.split_at_mut-low.ensures.front_len) in
    let cut : length front ≡ c.args.peer = omega (arith, c.split_at_mut-low.ensures.front_len) in
    let core : c.index-high-0-else-to-from.result ≡ old =
    back_element all front back c.args.peer c.index-high-0-else-to-from.result old parts cut c.index-high-0-else-to-from.is is_old in
    let other : c.index-low-from.result ≡ others =
    front_element all front back c.args.other c.index-low-from.result others parts within (rw from at c.index-low-from.is) is_others in
    let new = c.merge-else-to-from.new.core in (
      new,
      back_written all front back c.args.peer new parts cut,
      merged_core _ _ _ old others _ _ (sym c.index-high-0-else-to-from.is ∙ core) (sym c.index-low-from.is ∙ other) c.merge-else-to-from.ensures,
    )
