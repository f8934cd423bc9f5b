use Rattle.std.proofs.Common.{◌≡◌, ◌∙◌, ap, rules, subst, sym, true≢false, None, Some}
use Rattle.std.specs.Prelude.{IsSome, option_copied}
use Rattle.pf_context.specs.Table.{value_at, with_value, with_value_out}
use Rattle.pf_context.proofs.Slots.{value_back}
use Rattle.pf_context.specs.Context.{Context}
use Rattle.pf_context.proofs.Called.{others_out}
use Rattle.pf_context.proofs.context.Context.merge_two.Goals as goal

pub returns : goal.returns
returns c = λ before others is_before is_others.
    let slots = c.args.self.now.peers in
    let after = c.merge-answer.new.core in
    let out = others_out slots c.args.peer c.args.other c.requires.peer c.requires.apart in
    let back = value_back slots c.args.peer after in
    let scenes : c.self.inside.scenes ≡ c.args.self.now.scenes = ap (λ (v : Context). v.scenes) c.self.view_is in
    let peers : c.self.inside.peers ≡ slots = ap (λ (v : Context). v.peers) c.self.view_is in
    let core : c.in-Some.core ≡ before = cc in
    let table : c.take_out.new.self ≡ with_value_out slots c.args.peer = cc (c.in-Some.ensures.table) in
    let shown : option_copied c.get.result ≡ Some c.in-Some-get.others.now = ap option_copied c.in-Some-get.is in
    let same : c.in-Some-get.others.now ≡ others = cc in
    let stored : c.put_back.new.self ≡ with_value slots c.args.peer after = cc in
    (after, rw (← core, ← same) c.merge-answer.ensures, search rules)

-- the other value still stands while the first is out
pub unreachable-requires-in-None : goal.unreachable-requires-in-None
unreachable-requires-in-None c =
    let slots = c.args.self.now.peers in
    let out = others_out slots c.args.peer c.args.other c.requires.peer c.requires.apart in
    let peers : c.self.inside.peers ≡ slots = ap (λ (v : Context). v.peers) c.self.view_is in
    let table : c.take_out.new.self ≡ with_value_out slots c.args.peer = cc (c.in-Some.ensures.table) in
    let none : value_at slots c.args.other ≡ None =
    sym out ∙ ap (λ t. value_at t c.args.other) (sym table) ∙ sym c.get.ensures ∙ ap option_copied c.in-None.is in
    absurd (true≢false (sym (subst IsSome none c.requires.other)))
